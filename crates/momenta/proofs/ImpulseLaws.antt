-- Laws of an impulse: which states it leaves, what it leaves alone, and that two movers' momenta have the same sum
-- after it.
use Rattle.std.proofs.Common.{◌≡◌, ◌^◌, ◌≤◌, Bool, true, false, cond, Option, Some, None, is_some, ℤ, pos, neg_ℤ, ◌+ℤ◌, unsigned_abs, arith, refl}
use Rattle.std.proofs.lemmas.Bool.Decides.{nat_tests}
use Rattle.std.proofs.lemmas.Int.{ints}
use Rattle.std.specs.Prelude.{unwrap_or}
use Rattle.fixed_geom.specs.Vectors.{IsWithin, cross, opposite, plus}
use Rattle.fixed_geom.specs.declared.vectors.Vec2.{Vec2}
use Rattle.momenta.specs.declared.motion.Motion.{Motion}
use Rattle.momenta.specs.declared.state.BodyState.{BodyState}
use Rattle.momenta.specs.declared.state.Ends.{Ends}
use Rattle.momenta.specs.Impulses.{fits, given, impulse_pair, or_dropped, taken, turned_by}
use Rattle.momenta.specs.ImpulseBounds.{AreStates, AreSameBodies, IsState, IsSameBody, IsMomentumKept}

-- ---- the state after it

record AreFitting (m : Motion) : Type 0 where
  p : IsWithin (2 ^ 60) m.p
  l : unsigned_abs m.l ≤ 2 ^ 90

fitting : (m : Motion) → fits m ≡ true → AreFitting m
fitting m h = record { p = record { x = grind (arith, nat_tests); y = grind (arith, nat_tests) }; l = grind (arith, nat_tests) }

turned_still : (inertia l moment : ℤ) → (inertia ≡ pos 0 → l ≡ pos 0) → inertia ≡ pos 0 → turned_by inertia l moment ≡ pos 0
turned_still inertia l moment still h = rw h (still h)

-- what the impulse makes of a mover
abbrev pub moved_by : Vec2 → Vec2 → BodyState → BodyState
moved_by j r s = record s { motion = record s.motion { p = plus s.motion.p j; l = turned_by s.mass.inertia s.motion.l (cross r j) } }

state_by : (t : Bool) (j r : Vec2) (s : BodyState) → IsState s → fits (cond t (moved_by j r s) s).motion ≡ true → IsState (cond t (moved_by j r s) s)
state_by true j r s h k =
    let f = fitting (moved_by j r s).motion k in
    record { mass = h.mass; reciprocals = h.reciprocals; motion = record { p = f.p; l = f.l; still = λ e. turned_still s.mass.inertia s.motion.l (cross r j) h.motion.still e; x = h.motion.x; facing = h.motion.facing }; start = h.start }
state_by false j r s h k = h

-- where the momenta are within their limits
pub given_state : (j r : Vec2) (s m : BodyState) → m ≡ given j r s → IsState s → fits m.motion ≡ true → IsState m
unfolding given
given_state j r s m e h k = rw e (state_by s.movable j r s h (rw e at k))

-- ---- what it leaves alone

same_body_by : (t : Bool) (j r : Vec2) (s : BodyState) → s.movable ≡ t → IsSameBody s (cond t (moved_by j r s) s)
same_body_by true j r s e = record { movable = refl; mass = refl; start = refl; reciprocals = refl; position = refl; facing = refl; immovable = λ h. cc }
same_body_by false j r s e = record { movable = refl; mass = refl; start = refl; reciprocals = refl; position = refl; facing = refl; immovable = λ h. refl }

pub given_same : (j r : Vec2) (s : BodyState) → IsSameBody s (given j r s)
unfolding given
given_same j r s = same_body_by s.movable j r s refl

-- ---- the sum

given_x : (j r : Vec2) (s : BodyState) → s.movable ≡ true → (given j r s).motion.p.x ≡ s.motion.p.x +ℤ j.x
unfolding given
given_x j r s h = rw h refl

given_y : (j r : Vec2) (s : BodyState) → s.movable ≡ true → (given j r s).motion.p.y ≡ s.motion.p.y +ℤ j.y
unfolding given
given_y j r s h = rw h refl

sum_kept : (p q j : ℤ) → (p +ℤ neg_ℤ j) +ℤ (q +ℤ j) ≡ p +ℤ q
sum_kept p q j = omega (arith, ints)

given_momentum : (j ra rb : Vec2) (e : Ends) → IsMomentumKept e (record { a = given (opposite j) ra e.a; b = given j rb e.b })
given_momentum j ra rb e = record {
  x = λ h k. rw (given_x (opposite j) ra e.a h, given_x j rb e.b k) (sum_kept e.a.motion.p.x e.b.motion.p.x j.x);
  y = λ h k. rw (given_y (opposite j) ra e.a h, given_y j rb e.b k) (sum_kept e.a.motion.p.y e.b.motion.p.y j.y);
}

-- ---- given to both, or to neither

-- the bodies a and b are what the impulse makes of the two
pub record IsPairGiven (j ra rb : Vec2) (e : Ends) (a b : BodyState) : Type 0 where
  pub value : impulse_pair j ra rb e ≡ Some (record { a = a; b = b })
  pub states : AreStates (record { a = a; b = b })
  pub same : AreSameBodies e (record { a = a; b = b })
  pub kept : IsMomentumKept e (record { a = a; b = b })

pub pair_is : (j ra rb : Vec2) (e : Ends) (a b : BodyState) → a ≡ given (opposite j) ra e.a → b ≡ given j rb e.b → fits a.motion ≡ true → fits b.motion ≡ true → impulse_pair j ra rb e ≡ Some (record { a = a; b = b })
unfolding impulse_pair taken
pair_is j ra rb e a b first second h k = rw (← first, ← second, h, k) refl

pub pair_given : (j ra rb : Vec2) (e : Ends) (a b : BodyState) → AreStates e → a ≡ given (opposite j) ra e.a → b ≡ given j rb e.b → fits a.motion ≡ true → fits b.motion ≡ true → IsPairGiven j ra rb e a b
pair_given j ra rb e a b known first second h k = record {
  value = pair_is j ra rb e a b first second h k;
  states = record { a = given_state (opposite j) ra e.a a first known.a h; b = given_state j rb e.b b second known.b k };
  same = record { a = rw first (given_same (opposite j) ra e.a); b = rw second (given_same j rb e.b) };
  kept = rw (first, second) (given_momentum j ra rb e);
}

pub pair_first : (j ra rb : Vec2) (e : Ends) (a : BodyState) → a ≡ given (opposite j) ra e.a → fits a.motion ≡ false → impulse_pair j ra rb e ≡ None
unfolding impulse_pair taken
pair_first j ra rb e a first h = rw (← first, h) refl

pub pair_second : (j ra rb : Vec2) (e : Ends) (a b : BodyState) → a ≡ given (opposite j) ra e.a → b ≡ given j rb e.b → fits a.motion ≡ true → fits b.motion ≡ false → impulse_pair j ra rb e ≡ None
unfolding impulse_pair taken
pair_second j ra rb e a b first second h k = rw (← first, ← second, h, k) refl

-- ---- the accumulated impulse with it

pub total_given : (old new : ℤ) (e after : Ends) (o : Option Ends) → after ≡ unwrap_or o e → true ≡ is_some o → record { ends = after; total = new } ≡ or_dropped old e new o
total_given old new e after (Some x) h k = rw h refl
total_given old new e after None h k = cc

pub total_dropped : (old new : ℤ) (e after : Ends) (o : Option Ends) → after ≡ unwrap_or o e → false ≡ is_some o → record { ends = after; total = old } ≡ or_dropped old e new o
total_dropped old new e after (Some x) h k = cc
total_dropped old new e after None h k = rw h refl

pub kept_dropped : (e after : Ends) (o : Option Ends) → after ≡ unwrap_or o e → false ≡ is_some o → after ≡ e
kept_dropped e after (Some x) h k = cc
kept_dropped e after None h k = h
