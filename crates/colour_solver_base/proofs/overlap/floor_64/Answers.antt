use Rattle.std.proofs.Common.{◌≡◌, ℕ, ◌*◌, ◌/◌, ◌^◌, ◌<◌, ℤ, pos, negsuc, ◌≤ℤ◌, unsigned_abs, FitsSigned, arith, refl}
use Rattle.std.proofs.lemmas.Int.{to_z-of_z, ints}
use Rattle.std.proofs.lemmas.Nat.{div_below}
use Rattle.std.specs.Int.{w64}
use Rattle.fixed_geom.specs.Numbers.{fdiv}
use Rattle.colour_solver_base.proofs.overlap.floor_64.Goals as goal

floored : (n : ℤ) (q d : ℕ) → pos 0 ≤ℤ n → q ≡ unsigned_abs n → pos (q / d) ≡ fdiv n (pos d)
unfolding fdiv
floored (pos n) q d h e = rw e refl
floored (negsuc n) q d h e = absurd (omega (arith, ints))

small : (n : ℤ) → FitsSigned w64 n → pos 0 ≤ℤ n → unsigned_abs n < 2 ^ 63
small n f h = omega (arith, ints)

pub returns-clause-value : goal.returns-clause-value
returns-clause-value c =
    let size : c.unsigned_abs.result ≡ unsigned_abs c.args.n = grind (arith, to_z-of_z) in
    let value = floored c.args.n c.unsigned_abs.result c.args.d c.requires.nonnegative size in
    let whole : unsigned_abs c.args.n < 2 ^ 63 = small c.args.n c.ranges.n c.requires.nonnegative in
    let some : c.unsigned_abs.result < 2 ^ 63 * c.args.d = omega (arith, size, whole, c.requires.positive) in
    let few : c.unsigned_abs.result / c.args.d < 2 ^ 63 = div_below c.unsigned_abs.result c.args.d (2 ^ 63) c.requires.positive some in
    omega (arith, ints, value, few)
