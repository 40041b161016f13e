-- Trusted: the bodies of a step by slot, and the movers' momentum. A mover here is an awake one: of the others
-- `movable` is false.
use Rattle.std.specs.Prelude.{◌+◌, ◌≡◌, ℕ, suc, ◌^◌, ◌≤◌, Bool, true, false, cond, not, List, [], ◌∷◌, Some, pos, unsigned_abs, length, slice_get, slice_index_or}
use Rattle.std.specs.Ordering.{int_eq}
use Rattle.momenta.specs.declared.gain.Gain.{Gain}
use Rattle.momenta.specs.declared.state.BodyState.{BodyState}
use Rattle.momenta.specs.ImpulseBounds.{IsState}
use Rattle.fixed_geom.specs.Vectors.{IsWithin, plus, zero_vector}
use Rattle.fixed_geom.specs.declared.vectors.Vec2.{Vec2}
use Rattle.fixed_geom.specs.declared.limits.TheConstants.{MAX_SPIN}
use Rattle.momenta.specs.declared.limits.TheConstants.{MAX_SPEED}
use Rattle.momenta.specs.Reciprocals.{reciprocals_of}
use Rattle.colour_solver.specs.Masses.{carrier, standing}

-- what stands for the body in an empty slot: nothing moves it
abbrev pub nobody : BodyState
nobody = record {
  movable = false;
  mass = standing;
  motion = record { p = zero_vector; l = pos 0; x = zero_vector; rot = record { c = pos (2 ^ 30); s = pos 0 } };
  start = zero_vector;
  reciprocals = record { mass = pos (2 ^ 62 + 1); inertia = pos 0 };
}

abbrev pub AreAllStates : List BodyState → Type 0
AreAllStates states = (slot : ℕ) (s : BodyState) → slice_get states slot ≡ Some s → IsState s

abbrev pub HaveReciprocals : List BodyState → Type 0
HaveReciprocals states = (slot : ℕ) (s : BodyState) → slice_get states slot ≡ Some s → s.reciprocals ≡ reciprocals_of s.mass

-- ---- the movers' slots

-- the places of those in a list that pass a test, ascending; the first place is n
abbrev pub places_from : {X : Type 0} → (X → Bool) → ℕ → List X → List ℕ
places_from is n [] = []
places_from is n (x ∷ xs) = cond (is x) (n ∷ places_from is (suc n) xs) (places_from is (suc n) xs)

abbrev pub moves : BodyState → Bool
moves s = s.movable

-- the slots of the movers, ascending
abbrev pub movers_of : List BodyState → List ℕ
movers_of states = places_from moves 0 states

-- ---- bodies that are carried along

-- no impulse moves the body, and its mass isn't that of one that stands
abbrev pub is_carried : BodyState → Bool
is_carried s = cond s.movable false (not (int_eq s.mass.inertia (pos 0)))

-- their slots, ascending
abbrev pub carried_of : List BodyState → List ℕ
carried_of states = places_from is_carried 0 states

-- its momenta are a velocity and a spin within their limits
pub record HasCourse (s : BodyState) : Type 0 where
  pub mass : s.mass ≡ carrier
  pub velocity : IsWithin (unsigned_abs MAX_SPEED) s.motion.p
  pub spin : unsigned_abs s.motion.l ≤ unsigned_abs MAX_SPIN

abbrev pub HaveCourses : List BodyState → Type 0
HaveCourses states = (slot : ℕ) (s : BodyState) → slice_get states slot ≡ Some s → is_carried s ≡ true → HasCourse s

-- ---- the movers' momentum

-- what a change of momentum is as a vector
abbrev pub as_vector : Gain → Vec2
as_vector g = record { x = g.x; y = g.y }

abbrev pub momentum_of : BodyState → Vec2
momentum_of s = cond s.movable s.motion.p zero_vector

abbrev pub total : List BodyState → Vec2
total [] = zero_vector
total (s ∷ states) = plus (momentum_of s) (total states)

-- ---- what is left alone

-- by impulses and by what is done to movers alone: which bodies move, their masses with their reciprocals, and all of a
-- body that doesn't move
pub record AreSameStates (old new : List BodyState) : Type 0 where
  pub long : length new ≡ length old
  pub immovable : (slot : ℕ) → (slice_index_or old slot nobody).movable ≡ false → slice_index_or new slot nobody ≡ slice_index_or old slot nobody
  pub reciprocals : (slot : ℕ) → (slice_index_or new slot nobody).reciprocals ≡ (slice_index_or old slot nobody).reciprocals
  pub movable : (slot : ℕ) → (slice_index_or new slot nobody).movable ≡ (slice_index_or old slot nobody).movable
  pub mass : (slot : ℕ) → (slice_index_or new slot nobody).mass ≡ (slice_index_or old slot nobody).mass

-- by a whole step: which bodies move, their masses with their reciprocals, and all of a body that stands
pub record AreSameBeside (old new : List BodyState) : Type 0 where
  pub long : length new ≡ length old
  pub standing : (slot : ℕ) → (slice_index_or old slot nobody).movable ≡ false → is_carried (slice_index_or old slot nobody) ≡ false → slice_index_or new slot nobody ≡ slice_index_or old slot nobody
  pub reciprocals : (slot : ℕ) → (slice_index_or new slot nobody).reciprocals ≡ (slice_index_or old slot nobody).reciprocals
  pub movable : (slot : ℕ) → (slice_index_or new slot nobody).movable ≡ (slice_index_or old slot nobody).movable
  pub mass : (slot : ℕ) → (slice_index_or new slot nobody).mass ≡ (slice_index_or old slot nobody).mass
