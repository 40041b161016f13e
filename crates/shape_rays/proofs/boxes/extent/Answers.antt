use Rattle.std.proofs.Common.{◌≡◌, ◌^◌, ◌≤◌, ℤ, pos, ◌+ℤ◌, ◌-ℤ◌, unsigned_abs, to_z, of_z, arith, refl}
use Rattle.std.proofs.lemmas.Int.{ints}
use Rattle.std.specs.Int.{w64}
use Rattle.shape_rays.proofs.boxes.extent.Goals as goal

widened : (x y : ℤ) → unsigned_abs x ≤ 2 ^ 29 → unsigned_abs y ≤ 2 ^ 29 → to_z w64 (of_z w64 (to_z w64 (of_z w64 (to_z w64 (of_z w64 y) -ℤ to_z w64 (of_z w64 x))) +ℤ pos 128)) ≡ y -ℤ x +ℤ pos 128
widened x y h k = omega (arith, ints)

pub returns-clause-value : goal.returns-clause-value
returns-clause-value c =
    rw (widened c.args.low.x c.args.high.x c.requires.low.x c.requires.high.x, widened c.args.low.y c.args.high.y c.requires.low.y c.requires.high.y) refl
