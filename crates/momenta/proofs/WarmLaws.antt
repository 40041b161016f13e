-- Two impulses at the same points are one impulse, their sum, where no momentum is near its limit.
use Rattle.std.proofs.Common.{◌≡◌, ◌*◌, ◌^◌, ◌≤◌, Bool, true, false, Some, ℤ, pos, zero, suc, negsuc, neg_ℤ, ◌+ℤ◌, ◌-ℤ◌, ◌*ℤ◌, unsigned_abs, arith, refl, sym, ◌∙◌, ap, ℕ}
use Rattle.std.proofs.lemmas.Bool.{le-leb}
use Rattle.std.proofs.lemmas.Int.{ints}
use Rattle.std.proofs.Math.IntN.{+ℤ_assoc}
use Rattle.std.specs.Prelude.{unwrap_or}
use Rattle.fixed_geom.proofs.Multiples.{times_sum}
use Rattle.fixed_geom.proofs.Sizes.{difference_le, product_le}
use Rattle.fixed_geom.specs.Vectors.{IsWithin, cross, opposite, plus}
use Rattle.fixed_geom.specs.declared.vectors.Vec2.{Vec2}
use Rattle.momenta.specs.declared.motion.Motion.{Motion}
use Rattle.momenta.specs.declared.state.BodyState.{BodyState}
use Rattle.momenta.specs.declared.state.Ends.{Ends}
use Rattle.momenta.specs.Impulses.{fits, given, impulse_pair, turned_by}
use Rattle.momenta.specs.ImpulseBounds.{IsRoomy}
use Rattle.momenta.proofs.ImpulseLaws.{moved_by, pair_is}

regrouped : (a b c d : ℤ) → (a +ℤ b) -ℤ (c +ℤ d) ≡ (a -ℤ c) +ℤ (b -ℤ d)
regrouped a b c d = omega (arith, ints)

cross_plus : (r j k : Vec2) → cross r (plus j k) ≡ cross r j +ℤ cross r k
unfolding cross
cross_plus r j k = rw (times_sum r.x j.y k.y (j.y +ℤ k.y) refl, times_sum r.y j.x k.x (j.x +ℤ k.x) refl) (regrouped (r.x *ℤ j.y) (r.x *ℤ k.y) (r.y *ℤ j.x) (r.y *ℤ k.x))

turned_twice : (inertia l m n : ℤ) → turned_by inertia (turned_by inertia l m) n ≡ turned_by inertia l (m +ℤ n)
turned_twice (pos zero) l m n = refl
turned_twice (pos (suc i)) l m n = omega (arith, ints)
turned_twice (negsuc i) l m n = omega (arith, ints)

plus_twice : (p j k : Vec2) → plus (plus p j) k ≡ plus p (plus j k)
plus_twice p j k = rw (+ℤ_assoc p.x j.x k.x, +ℤ_assoc p.y j.y k.y) refl

-- ---- what two impulses give a body

pub given_mover : (j r : Vec2) (s : BodyState) → s.movable ≡ true → given j r s ≡ moved_by j r s
unfolding given
given_mover j r s h = rw h refl

pub given_fixed : (j r : Vec2) (s : BodyState) → s.movable ≡ false → given j r s ≡ s
unfolding given
given_fixed j r s h = rw h refl

moved_twice : (j k r : Vec2) (s : BodyState) → moved_by k r (moved_by j r s) ≡ moved_by (plus j k) r s
moved_twice j k r s = rw (plus_twice s.motion.p j k, cross_plus r j k, ← turned_twice s.mass.inertia s.motion.l (cross r j) (cross r k)) refl

pub given_twice : (j k r : Vec2) (s : BodyState) → given k r (given j r s) ≡ given (plus j k) r s
given_twice j k r s = by s.movable refl
  where
    by : (t : Bool) → s.movable ≡ t → given k r (given j r s) ≡ given (plus j k) r s
    by true h = rw (given_mover j r s h, given_mover (plus j k) r s h, given_mover k r (moved_by j r s) h) (moved_twice j k r s)
    by false h = rw (given_fixed j r s h, given_fixed (plus j k) r s h, given_fixed k r s h) refl

negated_plus : (j k : Vec2) → plus (opposite j) (opposite k) ≡ opposite (plus j k)
negated_plus j k = rw (negated_sum j.x k.x, negated_sum j.y k.y) refl
  where
    negated_sum : (a b : ℤ) → neg_ℤ a +ℤ neg_ℤ b ≡ neg_ℤ (a +ℤ b)
    negated_sum a b = omega (arith, ints)

-- ---- they fit

turned_size : (inertia l moment : ℤ) → unsigned_abs l ≤ 2 ^ 89 → unsigned_abs moment ≤ 2 ^ 80 → unsigned_abs (turned_by inertia l moment) ≤ 2 ^ 90
turned_size (pos zero) l moment h k = omega (arith, h)
turned_size (pos (suc i)) l moment h k = omega (arith, ints)
turned_size (negsuc i) l moment h k = omega (arith, ints)

cross_size : (r j : Vec2) → IsWithin (2 ^ 27) r → IsWithin (2 ^ 45) j → unsigned_abs (cross r j) ≤ 2 ^ 80
unfolding cross
cross_size r j h k = omega (arith, difference_le (r.x *ℤ j.y) (r.y *ℤ j.x) (2 ^ 27 * 2 ^ 45) (2 ^ 27 * 2 ^ 45) (product_le r.x j.y (2 ^ 27) (2 ^ 45) h.x k.y) (product_le r.y j.x (2 ^ 27) (2 ^ 45) h.y k.x))

sum_size : (p j : ℤ) → unsigned_abs p ≤ 2 ^ 59 → unsigned_abs j ≤ 2 ^ 45 → unsigned_abs (p +ℤ j) ≤ 2 ^ 60
sum_size p j h k = omega (arith, ints)

fitting_sizes : (m : Motion) → IsWithin (2 ^ 60) m.p → unsigned_abs m.l ≤ 2 ^ 90 → fits m ≡ true
fitting_sizes m p l = rw (le-leb (unsigned_abs m.p.x) (2 ^ 60) p.x, le-leb (unsigned_abs m.p.y) (2 ^ 60) p.y, le-leb (unsigned_abs m.l) (2 ^ 90) l) refl

moved_fits : (j r : Vec2) (s : BodyState) → IsRoomy s.motion → IsWithin (2 ^ 45) j → IsWithin (2 ^ 27) r → fits (moved_by j r s).motion ≡ true
moved_fits j r s room h k = fitting_sizes (moved_by j r s).motion
    (record { x = sum_size s.motion.p.x j.x room.p.x h.x; y = sum_size s.motion.p.y j.y room.p.y h.y })
    (turned_size s.mass.inertia s.motion.l (cross r j) room.l (cross_size r j k h))

still_fits : (s : BodyState) → IsRoomy s.motion → fits s.motion ≡ true
still_fits s room = fitting_sizes s.motion (record { x = omega (arith, room.p.x); y = omega (arith, room.p.y) }) (omega (arith, room.l))

pub given_fits : (j r : Vec2) (s : BodyState) → IsRoomy s.motion → IsWithin (2 ^ 45) j → IsWithin (2 ^ 27) r → fits (given j r s).motion ≡ true
given_fits j r s room h k = by s.movable refl
  where
    by : (t : Bool) → s.movable ≡ t → fits (given j r s).motion ≡ true
    by true t = rw (given_mover j r s t) (moved_fits j r s room h k)
    by false t = rw (given_fixed j r s t) (still_fits s room)

pub negated_within : (n : ℕ) (j : Vec2) → IsWithin n j → IsWithin n (opposite j)
negated_within n j h = record { x = omega (arith, ints, h.x); y = omega (arith, ints, h.y) }

-- ---- two impulses between two bodies

pub record AreRoomy (e : Ends) : Type 0 where
  pub a : IsRoomy e.a.motion
  pub b : IsRoomy e.b.motion

pair_fits : (j ra rb : Vec2) (e : Ends) → AreRoomy e → IsWithin (2 ^ 45) j → IsWithin (2 ^ 27) ra → IsWithin (2 ^ 27) rb → impulse_pair j ra rb e ≡ Some (record { a = given (opposite j) ra e.a; b = given j rb e.b })
pair_fits j ra rb e room h first second =
    pair_is j ra rb e (given (opposite j) ra e.a) (given j rb e.b) refl refl
    (given_fits (opposite j) ra e.a room.a (negated_within (2 ^ 45) j h) first)
    (given_fits j rb e.b room.b h second)

sum_within : (j k : Vec2) → IsWithin (2 ^ 44) j → IsWithin (2 ^ 44) k → IsWithin (2 ^ 45) (plus j k)
sum_within j k h i = record { x = omega (arith, ints, h.x, i.x); y = omega (arith, ints, h.y, i.y) }

wider : (j : Vec2) → IsWithin (2 ^ 44) j → IsWithin (2 ^ 45) j
wider j h = record { x = omega (arith, h.x); y = omega (arith, h.y) }

-- the second of the two, with the bodies as the first has left them
second_fits : (j k ra rb : Vec2) (e : Ends) → AreRoomy e → IsWithin (2 ^ 44) j → IsWithin (2 ^ 44) k → IsWithin (2 ^ 27) ra → IsWithin (2 ^ 27) rb
    → impulse_pair k ra rb (record { a = given (opposite j) ra e.a; b = given j rb e.b }) ≡ Some (record { a = given (opposite (plus j k)) ra e.a; b = given (plus j k) rb e.b })
second_fits j k ra rb e room h i first second =
    let within = sum_within j k h i in
    let a : given (opposite k) ra (given (opposite j) ra e.a) ≡ given (opposite (plus j k)) ra e.a = given_twice (opposite j) (opposite k) ra e.a ∙ ap (λ v. given v ra e.a) (negated_plus j k) in
    pair_is k ra rb (record { a = given (opposite j) ra e.a; b = given j rb e.b }) (given (opposite (plus j k)) ra e.a) (given (plus j k) rb e.b) (sym a) (sym (given_twice j k rb e.b))
    (given_fits (opposite (plus j k)) ra e.a room.a (negated_within (2 ^ 45) (plus j k) within) first)
    (given_fits (plus j k) rb e.b room.b within second)

pub pairs_are_one : (j k ra rb : Vec2) (e : Ends) → AreRoomy e → IsWithin (2 ^ 44) j → IsWithin (2 ^ 44) k → IsWithin (2 ^ 27) ra → IsWithin (2 ^ 27) rb
    → unwrap_or (impulse_pair (plus j k) ra rb e) e ≡ unwrap_or (impulse_pair k ra rb (unwrap_or (impulse_pair j ra rb e) e)) (unwrap_or (impulse_pair j ra rb e) e)
pairs_are_one j k ra rb e room h i first second =
    rw (pair_fits j ra rb e room (wider j h) first second, pair_fits (plus j k) ra rb e room (sum_within j k h i) first second, second_fits j k ra rb e room h i first second) refl
