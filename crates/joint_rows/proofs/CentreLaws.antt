-- An impulse between the centres of two bodies turns neither: whatever their angular momenta, it makes the same of all
-- else, and leaves them.
use Rattle.std.proofs.Common.{◌≡◌, zero, suc, ◌^◌, ◌≤◌, Bool, ◌&&◌, true, false, cond, Option, Some, None, ℤ, pos, negsuc, neg_ℤ, ◌+ℤ◌, ◌-ℤ◌, unsigned_abs, arith, refl, sym, ap, ap₂, ◌∙◌}
use Rattle.std.proofs.lemmas.Bool.{le-leb}
use Rattle.std.proofs.lemmas.Bool.Decides.{Decides-int_eq}
use Rattle.std.specs.Ordering.{int_eq}
use Rattle.std.specs.Prelude.{unwrap_or}
use lib.IntN.{zero-*ℤ, *ℤ-zero, +ℤ_idr}
use Rattle.fixed_geom.specs.Numbers.{rdiv}
use Rattle.fixed_geom.specs.Facings.{rotate}
use Rattle.fixed_geom.specs.Vectors.{cross, opposite, plus, unit_length, zero_vector}
use Rattle.fixed_geom.specs.declared.vectors.Vec2.{Vec2}
use Rattle.momenta.specs.declared.motion.Motion.{Motion}
use Rattle.momenta.specs.declared.state.BodyState.{BodyState}
use Rattle.momenta.specs.declared.state.Ends.{Ends}
use Rattle.momenta.specs.declared.line.Line.{Line}
use Rattle.momenta.specs.declared.line.Exerted.{Exerted}
use Rattle.momenta.specs.declared.line_64.Exerted64.{Exerted64}
use Rattle.momenta.specs.Motions.{spin, velocity}
use Rattle.momenta.specs.Impulses.{along, between, both, exerted, fits, given, impulse_pair, or_dropped, parting, solved_impulse, speed_along, taken, turned_by, velocity_at, wanted, warmed}
use Rattle.momenta.specs.ImpulseBounds.{AreStates, IsSameBody, IsState}
use Rattle.momenta.specs.Line64.{both_ends, ends_with, with_momenta}
use Rattle.joint_rows.specs.declared.row.JointRow.{JointRow}
use Rattle.joint_rows.specs.declared.solve.JointAfter.{JointAfter}
use Rattle.joint_rows.specs.declared.limits.TheConstants.{MAX_JOINT_IMPULSE}
use Rattle.joint_rows.specs.Joints.{arm, is_zero, joint_bias}
use Rattle.joint_rows.specs.Rows.{joint_solved, joint_warmed, stretch_now}
use Rattle.joint_rows.specs.Row64.{IsJointAfter64}
use Rattle.joint_rows.specs.Centres64.{IsBetweenCentres, IsPushedAfter64, without_turning}

-- ---- other angular momenta

abbrev turning : ℤ → BodyState → BodyState
turning l s = record s { motion = record s.motion { l = l } }

abbrev both_turning : ℤ → ℤ → Ends → Ends
both_turning k l e = record { a = turning k e.a; b = turning l e.b }

abbrev some_turning : ℤ → Option BodyState → Option BodyState
some_turning l (Some s) = Some (turning l s)
some_turning l None = None

abbrev some_both_turning : ℤ → ℤ → Option Ends → Option Ends
some_both_turning k l (Some e) = Some (both_turning k l e)
some_both_turning k l None = None

abbrev exerted_turning : ℤ → ℤ → Exerted → Exerted
exerted_turning k l x = record { ends = both_turning k l x.ends; total = x.total }

abbrev joint_turning : ℤ → ℤ → JointAfter → JointAfter
joint_turning k l t = record { row = t.row; ends = both_turning k l t.ends }

-- ---- the velocity of a centre

minus_none : (x : ℤ) → x -ℤ rdiv (pos 0) unit_length ≡ x
unfolding rdiv
minus_none x = +ℤ_idr x

plus_none : (x : ℤ) → x +ℤ rdiv (pos 0) unit_length ≡ x
unfolding rdiv
plus_none x = +ℤ_idr x

abbrev vector : ℤ → ℤ → Vec2
vector x y = record { x = x; y = y }

same_vector : (v w : Vec2) → v.x ≡ w.x → v.y ≡ w.y → v ≡ w
same_vector v w h k = ap₂ vector h k

pub velocity_of_centre : (s : BodyState) → velocity_at zero_vector s ≡ velocity s.mass.mass s.motion.p
unfolding velocity_at
velocity_of_centre s = rw (*ℤ-zero (spin s.mass.inertia s.motion.l)) (same_vector _ _ (minus_none (velocity s.mass.mass s.motion.p).x) (plus_none (velocity s.mass.mass s.motion.p).y))

parting_alike : (k l : ℤ) (e : Ends) → parting zero_vector zero_vector (both_turning k l e) ≡ parting zero_vector zero_vector e
unfolding parting
parting_alike k l e = rw (velocity_of_centre (turning k e.a), velocity_of_centre (turning l e.b), velocity_of_centre e.a, velocity_of_centre e.b) refl

speed_alike : (line : Line) (k l : ℤ) (e : Ends) → line.ra ≡ zero_vector → line.rb ≡ zero_vector → speed_along line (both_turning k l e) ≡ speed_along line e
unfolding speed_along
speed_alike line k l e ha hb = rw (ha, hb, parting_alike k l e) refl

-- ---- an impulse at a centre

cross_none : (j : Vec2) → cross zero_vector j ≡ pos 0
unfolding cross
cross_none j = rw (zero-*ℤ j.x, zero-*ℤ j.y) refl

turned_none : (inertia l : ℤ) → turned_by inertia l (pos 0) ≡ l
turned_none (pos zero) l = refl
turned_none (pos (suc n)) l = +ℤ_idr l
turned_none (negsuc n) l = +ℤ_idr l

abbrev pushed : Vec2 → BodyState → BodyState
pushed j s = record s { motion = record s.motion { p = plus s.motion.p j } }

either : (t : Bool) (j : Vec2) (l : ℤ) (s : BodyState) → cond t (turning l (pushed j s)) (turning l s) ≡ turning l (cond t (pushed j s) s)
either true j l s = refl
either false j l s = refl

-- the momentum grows, and no more
pub given_at_centre : (j : Vec2) (s : BodyState) → given j zero_vector s ≡ cond s.movable (pushed j s) s
unfolding given
given_at_centre j s = rw (cross_none j, turned_none s.mass.inertia s.motion.l) refl

given_alike : (j : Vec2) (l : ℤ) (s : BodyState) → given j zero_vector (turning l s) ≡ turning l (given j zero_vector s)
given_alike j l s = given_at_centre j (turning l s) ∙ (either s.movable j l s ∙ ap (turning l) (sym (given_at_centre j s)))

-- what the impulse is given to has the angular momentum that it had
kept_by : (t : Bool) (j : Vec2) (s : BodyState) → (cond t (pushed j s) s).motion.l ≡ s.motion.l
kept_by true j s = refl
kept_by false j s = refl

kept_turning : (j : Vec2) (s : BodyState) → (given j zero_vector s).motion.l ≡ s.motion.l
kept_turning j s = ap (λ (g : BodyState). g.motion.l) (given_at_centre j s) ∙ kept_by s.movable j s

record AreTurning (k : ℤ) (s : BodyState) : Type 0 where
  old : unsigned_abs s.motion.l ≤ 2 ^ 90
  new : unsigned_abs k ≤ 2 ^ 90

fits_alike : (l : ℤ) (m : Motion) → unsigned_abs m.l ≤ 2 ^ 90 → unsigned_abs l ≤ 2 ^ 90 → fits (record m { l = l }) ≡ fits m
fits_alike l m h k = rw (le-leb (unsigned_abs m.l) (2 ^ 90) h, le-leb (unsigned_abs l) (2 ^ 90) k) refl

some_by : (t : Bool) (l : ℤ) (s : BodyState) → cond t (Some (turning l s)) None ≡ some_turning l (cond t (Some s) None)
some_by true l s = refl
some_by false l s = refl

taken_alike : (j : Vec2) (l : ℤ) (s : BodyState) → AreTurning l s → taken j zero_vector (turning l s) ≡ some_turning l (taken j zero_vector s)
unfolding taken
taken_alike j l s h =
    rw (given_alike j l s, fits_alike l (given j zero_vector s).motion (rw (kept_turning j s) h.old) h.new) (some_by (fits (given j zero_vector s).motion) l (given j zero_vector s))

both_alike : (k l : ℤ) (a b : Option BodyState) → both (some_turning k a) (some_turning l b) ≡ some_both_turning k l (both a b)
both_alike k l (Some a) (Some b) = refl
both_alike k l (Some a) None = refl
both_alike k l None b = refl

-- two bodies, and two other angular momenta
record AreBothTurning (k l : ℤ) (e : Ends) : Type 0 where
  a : AreTurning k e.a
  b : AreTurning l e.b

pair_alike : (j : Vec2) (k l : ℤ) (e : Ends) → AreBothTurning k l e → impulse_pair j zero_vector zero_vector (both_turning k l e) ≡ some_both_turning k l (impulse_pair j zero_vector zero_vector e)
unfolding impulse_pair
pair_alike j k l e h = rw (taken_alike (opposite j) k e.a h.a, taken_alike j l e.b h.b) (both_alike k l (taken (opposite j) zero_vector e.a) (taken j zero_vector e.b))

-- ---- along a line

dropped_alike : (old new : ℤ) (k l : ℤ) (e : Ends) (o : Option Ends) → or_dropped old (both_turning k l e) new (some_both_turning k l o) ≡ exerted_turning k l (or_dropped old e new o)
dropped_alike old new k l e (Some after) = refl
dropped_alike old new k l e None = refl

exerted_alike : (line : Line) (old new k l : ℤ) (e : Ends) → IsBetweenCentres line → AreBothTurning k l e → exerted line old new (both_turning k l e) ≡ exerted_turning k l (exerted line old new e)
unfolding exerted
exerted_alike line old new k l e c h =
    rw (c.ra, c.rb, pair_alike (along line.direction (new -ℤ old)) k l e h) (dropped_alike old new k l e (impulse_pair (along line.direction (new -ℤ old)) zero_vector zero_vector e))

solved_alike : (line : Line) (bias low high total k l : ℤ) (e : Ends) → IsBetweenCentres line → AreBothTurning k l e
    → solved_impulse line bias low high total (both_turning k l e) ≡ exerted_turning k l (solved_impulse line bias low high total e)
unfolding solved_impulse
solved_alike line bias low high total k l e c h =
    rw (speed_alike line k l e c.ra c.rb) (exerted_alike line total (between low high (total +ℤ wanted (speed_along line e) bias line.inverse_mass)) k l e c h)

or_kept_alike : (k l : ℤ) (e : Ends) (o : Option Ends) → unwrap_or (some_both_turning k l o) (both_turning k l e) ≡ both_turning k l (unwrap_or o e)
or_kept_alike k l e (Some after) = refl
or_kept_alike k l e None = refl

warmed_alike : (line : Line) (total k l : ℤ) (e : Ends) → IsBetweenCentres line → AreBothTurning k l e → warmed line total (both_turning k l e) ≡ both_turning k l (warmed line total e)
unfolding warmed
warmed_alike line total k l e c h =
    rw (c.ra, c.rb, pair_alike (along line.direction total) k l e h) (or_kept_alike k l e (impulse_pair (along line.direction total) zero_vector zero_vector e))

-- ---- a joint

joint_solved_alike : (r : JointRow) (k l : ℤ) (e : Ends) → IsBetweenCentres r.line → AreBothTurning k l e → joint_solved r (both_turning k l e) ≡ joint_turning k l (joint_solved r e)
unfolding joint_solved stretch_now
joint_solved_alike r k l e c h =
    rw (solved_alike r.line (joint_bias (stretch_now r e)) (neg_ℤ MAX_JOINT_IMPULSE) MAX_JOINT_IMPULSE r.impulse k l e c h) refl

joint_warmed_alike : (r : JointRow) (k l : ℤ) (e : Ends) → IsBetweenCentres r.line → AreBothTurning k l e → joint_warmed r (both_turning k l e) ≡ joint_turning k l (joint_warmed r e)
unfolding joint_warmed
joint_warmed_alike r k l e c h = rw (warmed_alike r.line r.impulse k l e c h) refl

-- ---- bodies taken not to turn

none_turning : (l : ℤ) (s : BodyState) (p : Vec2) → unsigned_abs l ≤ 2 ^ 90 → AreTurning l (with_momenta s (record { p = p; l = pos 0 }))
none_turning l s p h = record { old = omega arith; new = h }

pub both_without_turning : (a b : BodyState) → IsState a → IsState b → AreStates (ends_with a b (without_turning a b))
both_without_turning a b h k = record {
  a = record { mass = h.mass; reciprocals = h.reciprocals; motion = record { p = h.motion.p; l = omega arith; still = λ e. refl; x = h.motion.x; facing = h.motion.facing }; start = h.start };
  b = record { mass = k.mass; reciprocals = k.reciprocals; motion = record { p = k.motion.p; l = omega arith; still = λ e. refl; x = k.motion.x; facing = k.motion.facing }; start = k.start };
}

abbrev with_turning : BodyState → Vec2 → BodyState
with_turning s p = with_momenta s (record { p = p; l = s.motion.l })

own_state : (s : BodyState) (p : Vec2) (l : ℤ) → IsState s → IsState (with_momenta s (record { p = p; l = l })) → IsState (with_turning s p)
own_state s p l h k = record { mass = h.mass; reciprocals = h.reciprocals; motion = record { p = k.motion.p; l = h.motion.l; still = h.motion.still; x = h.motion.x; facing = h.motion.facing }; start = h.start }

own_same : (s : BodyState) (p : Vec2) (k l : ℤ) → IsSameBody (with_momenta s (record { p = s.motion.p; l = k })) (with_momenta s (record { p = p; l = l })) → IsSameBody s (with_turning s p)
own_same s p k l h = record { movable = refl; mass = refl; start = refl; reciprocals = refl; position = refl; facing = refl; immovable = λ e. ap (turning s.motion.l) (h.immovable e) }

-- what the pass t has made of the joint's bodies as if they didn't turn, it makes of them as they are
pub own_after : (t u : JointAfter) (r : JointRow) (a b : BodyState) (n : Exerted64) → IsState a → IsState b → u ≡ joint_turning a.motion.l b.motion.l t → IsJointAfter64 t r a b (without_turning a b) n
    → IsPushedAfter64 u r a b (record { now = record { a = n.now.a.p; b = n.now.b.p }; total = n.total })
own_after t u r a b n ha hb alike after = record {
  value = alike ∙ ap (joint_turning a.motion.l b.motion.l) after.value;
  row = after.row;
  states = record { a = own_state a n.now.a.p n.now.a.l ha after.states.a; b = own_state b n.now.b.p n.now.b.l hb after.states.b };
  same = record { a = own_same a n.now.a.p (pos 0) n.now.a.l after.same.a; b = own_same b n.now.b.p (pos 0) n.now.b.l after.same.b };
  kept = record { x = after.kept.x; y = after.kept.y };
}

pub solved_own : (r : JointRow) (a b : BodyState) → IsState a → IsState b → IsBetweenCentres r.line → joint_solved r (both_ends a b) ≡ joint_turning a.motion.l b.motion.l (joint_solved r (ends_with a b (without_turning a b)))
solved_own r a b ha hb c = joint_solved_alike r a.motion.l b.motion.l (ends_with a b (without_turning a b)) c (record { a = none_turning a.motion.l a a.motion.p ha.motion.l; b = none_turning b.motion.l b b.motion.p hb.motion.l })

pub warmed_own : (r : JointRow) (a b : BodyState) → IsState a → IsState b → IsBetweenCentres r.line → joint_warmed r (both_ends a b) ≡ joint_turning a.motion.l b.motion.l (joint_warmed r (ends_with a b (without_turning a b)))
warmed_own r a b ha hb c = joint_warmed_alike r a.motion.l b.motion.l (ends_with a b (without_turning a b)) c (record { a = none_turning a.motion.l a a.motion.p ha.motion.l; b = none_turning b.motion.l b b.motion.p hb.motion.l })

-- ---- an anchor at the centre

turned_nowhere : (c s : ℤ) (v : Vec2) → v.x ≡ pos 0 → v.y ≡ pos 0 → zero_vector ≡ rotate (record { c = c; s = s }) v
unfolding rdiv
turned_nowhere c s v h k = rw (h, k, *ℤ-zero c, *ℤ-zero s) refl

first_of : (t u : Bool) → (t && u) ≡ true → t ≡ true
first_of true u h = refl
first_of false u h = absurd (let no : false ≡ true = h in cc)

second_of : (t u : Bool) → (t && u) ≡ true → u ≡ true
second_of true u h = h
second_of false u h = absurd (let no : false ≡ true = h in cc)

pub arm_of_centre : (anchor : Vec2) (s : BodyState) → is_zero anchor ≡ true → zero_vector ≡ arm anchor s
arm_of_centre anchor s h =
    let x = first_of (int_eq anchor.x (pos 0)) (int_eq anchor.y (pos 0)) h in
    let y = second_of (int_eq anchor.x (pos 0)) (int_eq anchor.y (pos 0)) h in
    turned_nowhere s.motion.rot.c s.motion.rot.s anchor ((Decides-int_eq anchor.x (pos 0)).0 x) ((Decides-int_eq anchor.y (pos 0)).0 y)
