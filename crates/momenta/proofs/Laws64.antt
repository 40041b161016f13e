-- Momenta in 64 bits: sizes of what is given to them, and that it is what the definitions give.
use Rattle.std.proofs.Common.{◌≡◌, ℕ, zero, suc, ◌*◌, ◌+◌, ◌^◌, ◌≤◌, true, Option, Some, None, IfSome, ℤ, pos, negsuc, ◌+ℤ◌, ◌-ℤ◌, ◌*ℤ◌, ◌≤ℤ◌, ◌<ℤ◌, unsigned_abs, to_z, of_z, arith, refl, sym, ap, ◌∙◌, subst, inl, inr}
use Rattle.std.proofs.lemmas.Bool.{cases_lt, le-leb}
use Rattle.std.proofs.lemmas.Int.{ints, to_z-of_z}
use Rattle.std.specs.Int.{w64, w128}
use mir.Val.{SFits}
use Rattle.fixed_geom.specs.Numbers.{rdiv}
use Rattle.fixed_geom.specs.Vectors.{IsWithin, unit_length, opposite, plus}
use Rattle.fixed_geom.specs.declared.vectors.Vec2.{Vec2}
use Rattle.fixed_geom.proofs.QuotientLemmas.{rdiv_le}
use Rattle.fixed_geom.proofs.ReciprocalLemmas.{has_inverse, has_share}
use Rattle.fixed_geom.proofs.Sizes.{product_le}
use Rattle.momenta.specs.declared.limits.TheConstants.{MIN_INVERSE_MASS}
use Rattle.momenta.specs.declared.mass.MassData.{MassData}
use Rattle.momenta.specs.Motions.{IsMass, limited, velocity, spin}
use Rattle.momenta.specs.Reciprocals.{reciprocals_of}
use Rattle.momenta.specs.declared.reciprocals.Reciprocals.{Reciprocals}
use Rattle.fixed_geom.specs.Reciprocals.{over_inverse_reciprocal, rdiv_reciprocal, share_reciprocal}
use Rattle.momenta.proofs.Spins.{fits_64, spin_turning}
use Rattle.momenta.proofs.Rounding.{rdiv_fast}
use Rattle.momenta.specs.declared.state.BodyState.{BodyState}
use Rattle.momenta.specs.declared.line_64.Momenta64.{Momenta64}
use Rattle.momenta.specs.declared.line_64.MomentaPair64.{MomentaPair64}
use Rattle.momenta.specs.Impulses.{carried, fits, given, turned_by, velocity_at}
use Rattle.momenta.specs.ImpulseBounds.{AreStates, IsRoomy}
use Rattle.momenta.specs.Line64.{LeaveRoom64, IsImpulse, LeavesRoom64, ends_with, with_momenta}
use Rattle.momenta.proofs.ImpulseLaws.{IsPairGiven, pair_given}
use Rattle.momenta.proofs.NoImpulse.{same_bodies, same_momentum}
use Rattle.momenta.proofs.WarmLaws.{AreRoomy, given_fits, negated_within}

-- ---- sizes

pub scaled_within : (a b q : ℤ) (k : ℕ) → q ≡ rdiv (a *ℤ b) unit_length → unsigned_abs a ≤ k → unsigned_abs b ≤ 2 ^ 30 → unsigned_abs q ≤ k
scaled_within a b q k e h l =
    let size : unsigned_abs (a *ℤ b) ≤ k * 2 ^ 30 = product_le a b k (2 ^ 30) h l in
    rw e (rdiv_le (a *ℤ b) unit_length k (omega arith) size)

pub quotient_within : (p mass q : ℤ) → q ≡ rdiv p mass → pos 1 ≤ℤ mass → unsigned_abs p ≤ 3 * 2 ^ 39 → unsigned_abs q ≤ 2 ^ 41
quotient_within p mass q e h l =
    let some : 1 ≤ unsigned_abs mass = omega (arith, ints) in
    rw e (rdiv_le p mass (2 ^ 41) (omega (arith, some)) (omega (arith, l, some)))

-- what moves no faster than the speed limit
slow_part : (p mass : ℤ) → pos 1 ≤ℤ mass → unsigned_abs mass ≤ 2 ^ 20 → unsigned_abs (rdiv p mass) ≤ 2 ^ 20 → unsigned_abs p ≤ 3 * 2 ^ 39
slow_part p mass h few slow = elim (cases_lt (3 * 2 ^ 39) (unsigned_abs p)) [
  | inl more ↦ absurd (let fast = rdiv_fast p mass (2 ^ 20) h (omega (arith, few, more)) in omega (arith, fast, slow))
  | inr less ↦ omega (arith, less)
]

pub slow_small : (p : Vec2) (m : MassData) → IsMass m → IsWithin (2 ^ 20) (velocity m.mass p) → IsWithin (3 * 2 ^ 39) p
unfolding velocity
slow_small p m h slow = record { x = slow_part p.x m.mass h.positive h.mass slow.x; y = slow_part p.y m.mass h.positive h.mass slow.y }

-- ---- with the reciprocals of a mass

pub mass_reciprocal : (m : MassData) (r : Reciprocals) → r ≡ reciprocals_of m → r.mass ≡ rdiv_reciprocal m.mass
unfolding reciprocals_of
mass_reciprocal m r e = rw e refl

pub inertia_reciprocal : (m : MassData) (r : Reciprocals) → r ≡ reciprocals_of m → r.inertia ≡ share_reciprocal m.inertia
unfolding reciprocals_of
inertia_reciprocal m r e = rw e refl

pub quarter_turn : (inertia l w : ℤ) → pos 1 ≤ℤ inertia → w ≡ rdiv (l *ℤ unit_length) inertia → unsigned_abs w ≤ 2 ^ 28 → w ≡ spin inertia l
quarter_turn inertia l w h e small = sym (spin_turning inertia l h ∙ ap (limited (2 ^ 28)) (sym e) ∙ rw (le-leb (unsigned_abs w) (2 ^ 28) small) refl)

-- ---- an inverse mass that has room in 64 bits

pub inverse_fits : (inverse : ℤ) → SFits w128 inverse → MIN_INVERSE_MASS ≤ℤ inverse → to_z w128 (of_z w128 inverse) <ℤ pos (2 ^ 62) → SFits w64 inverse
inverse_fits inverse wide least most =
    let less : inverse <ℤ pos (2 ^ 62) = subst (λ (z : ℤ). z <ℤ pos (2 ^ 62)) (to_z-of_z w128 inverse wide) most in
    fits_64 inverse (omega (arith, ints, least, less))

-- one that has a reciprocal does
pub inverse_room : (inverse reciprocal : ℤ) → reciprocal ≡ over_inverse_reciprocal inverse → (reciprocal ≡ pos 0 → ⊥) → inverse <ℤ pos (2 ^ 62)
inverse_room inverse reciprocal is some = let few = (has_inverse inverse reciprocal is some).most in omega (arith, ints, few)

-- it is passed on as it is, and so its reciprocal is still its own
pub reciprocal_passed : (inverse reciprocal : ℤ) → SFits w128 inverse → SFits w64 reciprocal → MIN_INVERSE_MASS ≤ℤ inverse → to_z w128 (of_z w128 inverse) <ℤ pos (2 ^ 62) → reciprocal ≡ over_inverse_reciprocal inverse
    → to_z w64 (of_z w64 reciprocal) ≡ over_inverse_reciprocal (to_z w64 (of_z w64 (to_z w128 (of_z w128 inverse))))
reciprocal_passed inverse reciprocal wide narrow least most is =
    to_z-of_z w64 reciprocal narrow
    ∙ is
    ∙ sym (ap (λ (z : ℤ). over_inverse_reciprocal (to_z w64 (of_z w64 z))) (to_z-of_z w128 inverse wide) ∙ ap over_inverse_reciprocal (to_z-of_z w64 inverse (inverse_fits inverse wide least most)))

-- ---- the velocity of a point

velocity_is : (r : Vec2) (s : BodyState) → velocity_at r s ≡ carried r (velocity s.mass.mass s.motion.p) (spin s.mass.inertia s.motion.l)
unfolding velocity_at
velocity_is r s = refl

pub moving_is : (r v : Vec2) (s : BodyState) (w x y : ℤ) → v ≡ velocity s.mass.mass s.motion.p → w ≡ spin s.mass.inertia s.motion.l
    → x ≡ v.x -ℤ rdiv (w *ℤ r.y) unit_length → y ≡ v.y +ℤ rdiv (w *ℤ r.x) unit_length → record { x = x; y = y } ≡ velocity_at r s
moving_is r v s w x y e f g k = rw (velocity_is r s, ← e, ← f, g, k) refl

-- a body that turns has an inertia
pub turning : (inertia l : ℤ) → pos 0 ≤ℤ inertia → (inertia ≡ pos 0 → l ≡ pos 0) → (l ≡ pos 0 → ⊥) → pos 1 ≤ℤ inertia
turning (pos zero) l h still moves = absurd (moves (still refl))
turning (pos (suc n)) l h still moves = omega (arith, ints)
turning (negsuc n) l h still moves = absurd (omega (arith, ints))

-- ---- an impulse given

-- a body that has a reciprocal of its inertia turns
pub turns_by : (inertia reciprocal l moment : ℤ) → reciprocal ≡ share_reciprocal inertia → (reciprocal ≡ pos 0 → ⊥) → l +ℤ moment ≡ turned_by inertia l moment
turns_by (pos zero) reciprocal l moment is some = absurd (let least = (has_share (pos zero) reciprocal is some).least in omega (arith, ints, least))
turns_by (pos (suc n)) reciprocal l moment is some = refl
turns_by (negsuc n) reciprocal l moment is some = refl

pub grown_64 : (k : ℕ) (p j : ℤ) → unsigned_abs p ≤ 2 ^ 40 + k * 2 ^ 30 → unsigned_abs j ≤ 2 ^ 30 → unsigned_abs (p +ℤ j) ≤ 2 ^ 40 + (k + 1) * 2 ^ 30
grown_64 k p j h l = omega (arith, ints, h, l)

pub turned_64 : (k n m : ℕ) (l : ℕ) → l ≤ n + m → n ≤ 2 ^ 60 + k * 2 ^ 58 → m ≤ 2 ^ 58 → l ≤ 2 ^ 60 + (k + 1) * 2 ^ 58
turned_64 k n m l h i j = omega (arith, h, i, j)

pub still_64 : (k : ℕ) (n : Momenta64) → LeavesRoom64 k n → LeavesRoom64 (k + 1) n
still_64 k n h = record { p = record { x = omega (arith, h.p.x); y = omega (arith, h.p.y) }; l = omega (arith, h.l) }

pub both_still : (a b : BodyState) (n : MomentaPair64) → AreStates (ends_with a b n) → IsImpulse a b n n
both_still a b n h = record {
  states = h;
  same = same_bodies (ends_with a b n);
  kept = same_momentum (ends_with a b n);
  leaves_room = λ k m. record { a = still_64 k n.a m.a; b = still_64 k n.b m.b };
}

wider : (j : Vec2) → IsWithin (2 ^ 30) j → IsWithin (2 ^ 45) j
wider j h = record { x = omega (arith, h.x); y = omega (arith, h.y) }

roomy : (s : BodyState) (n : Momenta64) → LeavesRoom64 4 n → IsRoomy (with_momenta s n).motion
roomy s n h = record { p = record { x = omega (arith, h.p.x); y = omega (arith, h.p.y) }; l = omega (arith, h.l) }

-- what the small impulse makes of the two bodies
pub pair_64 : (j ra rb : Vec2) (a b : BodyState) (old n : MomentaPair64) → AreStates (ends_with a b old) → LeaveRoom64 4 old → IsWithin (2 ^ 30) j → IsWithin (2 ^ 27) ra → IsWithin (2 ^ 27) rb
    → with_momenta a n.a ≡ given (opposite j) ra (with_momenta a old.a) → with_momenta b n.b ≡ given j rb (with_momenta b old.b)
    → IsPairGiven j ra rb (ends_with a b old) (with_momenta a n.a) (with_momenta b n.b)
pair_64 j ra rb a b old n states room small first second ea eb =
    pair_given j ra rb (ends_with a b old) (with_momenta a n.a) (with_momenta b n.b) states ea eb
    (subst (λ (s : BodyState). fits s.motion ≡ true) (sym ea) (given_fits (opposite j) ra (with_momenta a old.a) (roomy a old.a room.a) (negated_within (2 ^ 45) j (wider j small)) first))
    (subst (λ (s : BodyState). fits s.motion ≡ true) (sym eb) (given_fits j rb (with_momenta b old.b) (roomy b old.b room.b) (wider j small) second))

-- two small impulses and their sum
pub sum_small : (j k : Vec2) → IsWithin (2 ^ 29) j → IsWithin (2 ^ 29) k → IsWithin (2 ^ 30) (plus j k)
sum_small j k h i = record { x = omega (arith, ints, h.x, i.x); y = omega (arith, ints, h.y, i.y) }

pub half_wider : (n : ℕ) (j : Vec2) → 2 ^ 29 ≤ n → IsWithin (2 ^ 29) j → IsWithin n j
half_wider n j l h = record { x = omega (arith, l, h.x); y = omega (arith, l, h.y) }

pub both_roomy : (a b : BodyState) (n : MomentaPair64) → LeaveRoom64 4 n → AreRoomy (ends_with a b n)
both_roomy a b n h = record { a = roomy a n.a h.a; b = roomy b n.b h.b }

-- what holds of an answer, if there is one, of each that there may be
pub some_then : {X : Type 0} (P Q : X → Type 0) (o : Option X) → ((x : X) → P x → Q x) → IfSome o P → IfSome o Q
some_then P Q None f h = tt
some_then P Q (Some x) f h = f x h

pub some_both : {X : Type 0} (P Q : X → Type 0) (o : Option X) → IfSome o P → IfSome o Q → IfSome o (λ x. P x × Q x)
some_both P Q None h k = tt
some_both P Q (Some x) h k = (h, k)
