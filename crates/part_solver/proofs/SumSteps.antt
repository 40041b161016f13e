-- The sums of the parts, one part further.
use Rattle.std.proofs.Common.{◌≡◌, ◌≤◌, ◌+◌, ◌*◌, ◌^◌, ℕ, ℤ, ◌+ℤ◌, unsigned_abs, arith, sym, ap, ap₂, ◌∙◌, add-one}
use Rattle.std.proofs.lemmas.Int.{ints}
use Rattle.fixed_geom.specs.Vectors.{plus}
use Rattle.fixed_geom.specs.declared.vectors.Vec2.{Vec2}
use Rattle.momenta.specs.Gains.{IsGain}
use Rattle.momenta.specs.declared.gain.Gain.{Gain}
use Rattle.colour_solver.specs.declared.ticks.StepSums.{StepSums}
use Rattle.colour_solver.specs.States.{as_vector}
use Rattle.colour_solver.specs.Ticks.{AreSums}
use Rattle.colour_solver.proofs.VectorLaws.{same_x, same_y}
use Rattle.part_runs.specs.Hidden.{sum_below}

grown : (n : ℕ) (a b c : ℤ) → c ≡ a +ℤ b → unsigned_abs a ≤ n * 2 ^ 90 → unsigned_abs b ≤ 2 ^ 90 → unsigned_abs c ≤ (n + 1) * 2 ^ 90
grown n a b c e h k = omega (arith, ints, e)

gain_grown : (n : ℕ) (a b c : Gain) → as_vector c ≡ plus (as_vector a) (as_vector b) → IsGain (n * 2 ^ 90) a → IsGain (2 ^ 90) b → IsGain ((n + 1) * 2 ^ 90) c
gain_grown n a b c e h k = record { x = grown n a.x b.x c.x (same_x e) h.x k.x; y = grown n a.y b.y c.y (same_y e) h.y k.y }

pub record AreBoth (a b c : StepSums) : Type 0 where
  pub gravity : as_vector c.gravity ≡ plus (as_vector a.gravity) (as_vector b.gravity)
  pub immovable : as_vector c.immovable ≡ plus (as_vector a.immovable) (as_vector b.immovable)
  pub clamp : as_vector c.clamp ≡ plus (as_vector a.clamp) (as_vector b.clamp)

pub sums_grown : (n : ℕ) (a b c : StepSums) → AreBoth a b c → AreSums (n * 2 ^ 90) a → AreSums (2 ^ 90) b → AreSums ((n + 1) * 2 ^ 90) c
sums_grown n a b c e h k = record {
  gravity = gain_grown n a.gravity b.gravity c.gravity e.gravity h.gravity k.gravity;
  immovable = gain_grown n a.immovable b.immovable c.immovable e.immovable h.immovable k.immovable;
  clamp = gain_grown n a.clamp b.clamp c.clamp e.clamp h.clamp k.clamp;
}

gain_within : (n : ℕ) (a : Gain) → n ≤ 8 → IsGain (n * 2 ^ 90) a → IsGain (2 ^ 100) a
gain_within n a few h = record { x = omega (arith, few, h.x); y = omega (arith, few, h.y) }

pub sums_within : (n : ℕ) (a : StepSums) → n ≤ 8 → AreSums (n * 2 ^ 90) a → AreSums (2 ^ 100) a
sums_within n a few h = record { gravity = gain_within n a.gravity few h.gravity; immovable = gain_within n a.immovable few h.immovable; clamp = gain_within n a.clamp few h.clamp }

gain_one : (a : Gain) → IsGain (2 ^ 90) a → IsGain (2 ^ 100) a
gain_one a h = record { x = omega (arith, h.x); y = omega (arith, h.y) }

pub sums_one : (a : StepSums) → AreSums (2 ^ 90) a → AreSums (2 ^ 100) a
sums_one a h = record { gravity = gain_one a.gravity h.gravity; immovable = gain_one a.immovable h.immovable; clamp = gain_one a.clamp h.clamp }

-- one part more
pub sum_more : (n : ℕ) (f : ℕ → Vec2) (a b c : Vec2) → c ≡ plus a b → a ≡ sum_below n f → b ≡ f n → c ≡ sum_below (n + 1) f
sum_more n f a b c e h k = e ∙ ap₂ plus h k ∙ ap (λ (m : ℕ). sum_below m f) (sym (add-one n))
