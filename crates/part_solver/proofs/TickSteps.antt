-- A tick of a part's run, and the whole run, by its passes.
use Rattle.std.proofs.Common.{◌≡◌, ℕ, ◌+◌, ◌^◌, ◌≤◌, ℤ, ◌+ℤ◌, unsigned_abs, List, [], ◌++◌, length, arith, add-one, sym, ap, subst, ◌∙◌}
use Rattle.std.specs.List.{flat_map}
use Rattle.std.proofs.lemmas.Int.{ints}
use Rattle.std.proofs.lemmas.List.{append-nil, append_assoc, length-map}
use Rattle.fixed_geom.specs.Vectors.{IsWithin, plus}
use Rattle.fixed_geom.specs.declared.vectors.Vec2.{Vec2}
use Rattle.momenta.specs.Gains.{IsGain}
use Rattle.momenta.specs.Motions.{advanced, pulled, speed_clamped}
use Rattle.momenta.specs.declared.gain.Gain.{Gain}
use Rattle.momenta.specs.declared.mass.MassData.{MassData}
use Rattle.momenta.specs.declared.motion.Motion.{Motion}
use Rattle.momenta.specs.declared.state.BodyState.{BodyState}
use Rattle.colour_solver.specs.declared.constraint_row.ConstraintRow.{ConstraintRow}
use Rattle.colour_solver.specs.declared.phase.Phase.TheVariants.{Solve, Warm}
use Rattle.colour_solver.specs.declared.ticks.StepSums.{StepSums}
use Rattle.colour_solver.specs.ColourRows.{ColourRows, all_rows}
use Rattle.colour_solver.specs.ConstraintVisits.{AreRowsBelow, constraint_bounced}
use Rattle.colour_solver.specs.Passes.{OnMovers, carried_along, carry, gain, pass}
use Rattle.colour_solver.specs.States.{AreAllStates, HaveCourses, as_vector, carried_of, movers_of}
use Rattle.colour_solver.specs.Ticks.{AreSums, CanLimit, CanPull, run_of}
use Rattle.part_runs.specs.Runs.{IsInRange, Stand, Step, at_home, begun, ended, own_stages, part_ran, pass_given, pass_mail, ran_stand, solved_stand, stand_of, ticks_mail, ticks_stand, ticks_sums, visited, walks_of, warm_stand}
use Rattle.part_runs.specs.Hidden.{part_at}
use Rattle.part_runs.specs.Laws.{BodiesAreHidden, CanRun, IsPart, IsPartAt, PartsCanRun}
use Rattle.part_solver.specs.Running.{IsSound, IsStanding, IsWalked, mail_after, mail_before, stand_at, sums_of, visits}
use Rattle.part_solver.specs.declared.seat.Lists.{Lists}

-- ---- what passes over bodies may be made of

pub can_pull : (g : Vec2) (ss : List BodyState) → IsWithin (2 ^ 16) g → AreAllStates ss → OnMovers (CanPull g) ss
can_pull g ss small all slot s e moves = let state = all slot s e in record { gravity = small; mass = state.mass; motion = state.motion }

pub can_limit : (ss : List BodyState) → AreAllStates ss → OnMovers CanLimit ss
can_limit ss all slot s e moves =
    let state = all slot s e in
    let m = state.motion in
    record { mass = state.mass; motion = record { p = record { x = omega (arith, m.p.x); y = omega (arith, m.p.y) }; l = m.l; still = m.still; x = m.x; facing = m.facing } }

pub small_momenta : (ss : List BodyState) → AreAllStates ss → OnMovers (λ (m : MassData) (s : Motion). IsWithin (2 ^ 61) s.p) ss
small_momenta ss all slot s e moves = let p = (all slot s e).motion.p in record { x = omega (arith, p.x); y = omega (arith, p.y) }

-- ---- what stays

-- the slots of its movers, at any time of a run
pub awake_at : (t : Step) (k : ℕ) (s : Stand) (l : Lists) → IsStanding t k s l → IsPartAt t k s → l.awake.items ≡ movers_of l.states.items
awake_at t k s l known at = known.sound.walk.awake ∙ sym at.movers ∙ sym (ap movers_of known.states)

-- ---- before the passes of a tick

pub begun_stand : (t : Step) (k : ℕ) (s : Stand) (old new : Lists) → IsStanding t k s old → IsPartAt t k s → IsSound t k new → new.rows ≡ old.rows → new.states.items ≡ pass speed_clamped (pass (pulled t.gravity) old.states.items) → IsStanding t k (begun t.gravity s) new
begun_stand t k s old new known at sound same made = record {
  sound = sound;
  states = made ∙ ap (λ (l : List BodyState). pass speed_clamped (pass (pulled t.gravity) l)) known.states ∙ sym at.begun_is;
  colours = ap (λ (r : ColourRows ConstraintRow). r.colours) same ∙ known.colours;
}

pub ended_stand : (t : Step) (k : ℕ) (s : Stand) (old new : Lists) → IsStanding t k s old → IsPartAt t k s → IsSound t k new → new.rows ≡ old.rows → new.states.items ≡ carry (pass advanced (pass speed_clamped old.states.items)) → IsStanding t k (ended s) new
ended_stand t k s old new known at sound same made = record {
  sound = sound;
  states = made ∙ ap (λ (l : List BodyState). carry (pass advanced (pass speed_clamped l))) known.states ∙ sym at.ended_is;
  colours = ap (λ (r : ColourRows ConstraintRow). r.colours) same ∙ known.colours;
}

pub carried_long : (ss : List BodyState) → length (carry ss) ≡ length ss
carried_long ss = length-map ss carried_along

pub carried_last : (t : Step) (k : ℕ) (s : Stand) (l : Lists) (moved : List BodyState) → IsStanding t k s l → IsPartAt t k s → moved ≡ pass advanced (pass speed_clamped l.states.items) → l.carried.items ≡ carried_of moved
carried_last t k s l moved known at made = known.sound.walk.carried ∙ sym at.carried_last ∙ sym (ap carried_of (made ∙ ap (λ (ss : List BodyState). pass advanced (pass speed_clamped ss)) known.states))

pub courses_last : (t : Step) (k : ℕ) (s : Stand) (l : Lists) (moved : List BodyState) → IsStanding t k s l → IsPartAt t k s → HaveCourses t.states → moved ≡ pass advanced (pass speed_clamped l.states.items) → HaveCourses moved
courses_last t k s l moved known at courses made = subst HaveCourses (sym (made ∙ ap (λ (ss : List BodyState). pass advanced (pass speed_clamped ss)) known.states)) (at.courses_last courses)

-- one tick more
pub next_stand : (t : Step) (k tick : ℕ) (l : Lists) → IsStanding t k (ended (solved_stand t.gravity (ticks_stand tick t.gravity (stand_of t)))) l → IsStanding t k (ticks_stand (tick + 1) t.gravity (stand_of t)) l
next_stand t k tick l known = subst (λ (n : ℕ). IsStanding t k (ticks_stand n t.gravity (stand_of t)) l) (sym (add-one tick)) known

pub next_mail : (t : Step) (tick u v : ℕ) → mail_after t tick Solve u v ≡ mail_before t (tick + 1) Warm u v
next_mail t tick u v =
    append_assoc (ticks_mail u v (walks_of t) tick t.gravity (stand_of t)) (pass_mail u v (walks_of t) (visits Warm) (stand_at t tick Warm)) (pass_mail u v (walks_of t) (visits Solve) (stand_at t tick Solve))
    ∙ ap (λ (n : ℕ). ticks_mail u v (walks_of t) n t.gravity (stand_of t)) (sym (add-one tick))

-- ---- sums

-- what a tick adds
pub record IsTickAdded (t : Step) (k : ℕ) (s : Stand) (before after : StepSums) (fallen limited warm solved again moved : Vec2) : Type 0 where
  pub gravity : as_vector after.gravity ≡ plus (as_vector before.gravity) fallen
  pub immovable : as_vector after.immovable ≡ plus (plus (as_vector before.immovable) warm) solved
  pub clamp : as_vector after.clamp ≡ plus (plus (plus (as_vector before.clamp) limited) again) moved
  pub fallen_is : fallen ≡ gain (pulled t.gravity) (at_home t k s.states)
  pub limited_is : limited ≡ gain speed_clamped (pass (pulled t.gravity) (at_home t k s.states))
  pub warm_is : warm ≡ pass_given t k (visits Warm) (begun t.gravity s)
  pub solved_is : solved ≡ pass_given t k (visits Solve) (warm_stand t.gravity s)
  pub again_is : again ≡ gain speed_clamped (at_home t k (solved_stand t.gravity s).states)
  pub moved_is : moved ≡ gain advanced (pass speed_clamped (at_home t k (solved_stand t.gravity s).states))

pub tick_added : (t : Step) (k tick : ℕ) (before after : StepSums) (fallen limited warm solved again moved : Vec2) → IsTickAdded t k (ticks_stand tick t.gravity (stand_of t)) before after fallen limited warm solved again moved
    → sums_of before ≡ ticks_sums t k tick → sums_of after ≡ ticks_sums t k (tick + 1)
tick_added t k tick before after fallen limited warm solved again moved is known =
    (λ j. record { gravity = is.gravity j; immovable = is.immovable j; clamp = is.clamp j })
    ∙ (λ j. record {
      gravity = plus (known j).gravity (is.fallen_is j);
      immovable = plus (plus (known j).immovable (is.warm_is j)) (is.solved_is j);
      clamp = plus (plus (plus (known j).clamp (is.limited_is j)) (is.again_is j)) (is.moved_is j);
    })
    ∙ ap (ticks_sums t k) (sym (add-one tick))

-- ---- the whole run

pub standing_first : (t : Step) (k : ℕ) (l : Lists) → PartsCanRun → BodiesAreHidden → CanRun t.states t.rows → IsWalked t k l → IsStanding t k (stand_of t) l
standing_first t k l law hides can known =
    let part : IsPart t k = law t k can in
    let long : length l.states.items ≡ length t.states = ap length known.states ∙ (hides (part_at t.home) k t.states).long in
    record {
      sound = record {
        walk = known.walk;
        long = long;
        states = subst AreAllStates (sym known.states) part.states;
        rows = subst (λ (n : ℕ). AreRowsBelow n (all_rows l.rows)) (sym long) known.rows;
        left = known.left;
      };
      states = known.states;
      colours = known.colours;
    }

pub rows_ran : (r : ColourRows ConstraintRow) (colours : List (List ConstraintRow)) → r.colours ≡ colours → r.left ≡ [] → all_rows r ≡ flat_map (λ rs. rs) colours
rows_ran r colours is none = (λ j. flat_map (λ rs. rs) (is j) ++ none j) ∙ append-nil (flat_map (λ rs. rs) colours)

pub part_done : (t : Step) (k : ℕ) (l : Lists) (before after : StepSums) (given : Vec2) → IsStanding t k (visited constraint_bounced (ticks_stand t.count t.gravity (stand_of t))) l → sums_of before ≡ ticks_sums t k t.count
    → given ≡ pass_given t k constraint_bounced (ticks_stand t.count t.gravity (stand_of t)) → as_vector after.gravity ≡ as_vector before.gravity → as_vector after.immovable ≡ plus (as_vector before.immovable) given → as_vector after.clamp ≡ as_vector before.clamp
    → run_of l.states.items (all_rows l.rows) after ≡ part_ran t k
part_done t k l before after given known sums is gravity immovable clamp =
    (λ j. record { states = known.states j; rows = rows_ran l.rows (own_stages t.home k t.states (ran_stand t.count t.gravity (stand_of t)).rows) known.colours known.sound.left j; gravity = gravity j; immovable = immovable j; clamp = clamp j })
    ∙ (λ j. record {
      states = at_home t k (ran_stand t.count t.gravity (stand_of t)).states;
      rows = flat_map (λ rs. rs) (own_stages t.home k t.states (ran_stand t.count t.gravity (stand_of t)).rows);
      gravity = (sums j).gravity;
      immovable = plus (sums j).immovable (is j);
      clamp = (sums j).clamp;
    })

pub part_in_range : (t : Step) (k : ℕ) (l : Lists) → IsStanding t k (ran_stand t.count t.gravity (stand_of t)) l → IsPartAt t k (ran_stand t.count t.gravity (stand_of t)) → HaveCourses t.states → IsInRange (part_ran t k)
part_in_range t k l known at courses = record {
  states = subst AreAllStates known.states known.sound.states;
  rows =
      subst (λ (rows : List ConstraintRow). AreRowsBelow (length (at_home t k (ran_stand t.count t.gravity (stand_of t)).states)) rows)
      (rows_ran l.rows (own_stages t.home k t.states (ran_stand t.count t.gravity (stand_of t)).rows) known.colours known.sound.left)
      (subst (λ (ss : List BodyState). AreRowsBelow (length ss) (all_rows l.rows)) known.states known.sound.rows);
  courses = at.courses courses;
}

-- ---- sizes

sum_small : (m n : ℕ) (a b c : ℤ) → c ≡ a +ℤ b → unsigned_abs a ≤ m → unsigned_abs b ≤ n → unsigned_abs c ≤ m + n
sum_small m n a b c e h k = omega (arith, ints, e)

pub gain_small : (m n : ℕ) (a b c : Gain) → c.x ≡ a.x +ℤ b.x → c.y ≡ a.y +ℤ b.y → IsGain m a → IsGain n b → IsGain (m + n) c
gain_small m n a b c x y h k = record { x = sum_small m n a.x b.x c.x x h.x k.x; y = sum_small m n a.y b.y c.y y h.y k.y }

pub gain_within : (m n : ℕ) (a : Gain) → m ≤ n → IsGain m a → IsGain n a
gain_within m n a less h = let x = h.x in let y = h.y in record { x = omega (arith, less, x); y = omega (arith, less, y) }

pub sums_within : (m n : ℕ) (a : StepSums) → m ≤ n → AreSums m a → AreSums n a
sums_within m n a less h = record { gravity = gain_within m n a.gravity less h.gravity; immovable = gain_within m n a.immovable less h.immovable; clamp = gain_within m n a.clamp less h.clamp }
