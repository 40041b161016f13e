use Rattle.std.proofs.Common.{◌≡◌, ◌≤◌, ◌+◌, ◌^◌, pos, ◌+ℤ◌, ◌*ℤ◌, unsigned_abs, arith, ap, rules}
use Rattle.std.proofs.lemmas.Int.{to_z-of_z, fits_signed_from_abs}
use Rattle.std.specs.Int.{w64, w128}
use mir.Val.{SFits}
use Rattle.fixed_geom.proofs.ReciprocalLemmas.{clear_is}
use Rattle.fixed_geom.proofs.Sizes.{product_le, size_64, sum_le}
use Rattle.fixed_geom.proofs.sure_quotients.sure_quotient.Goals as goal

pub returns-then-is_clear : goal.returns-then-is_clear
returns-then-is_clear c =
    let x : SFits w64 c.args.x = c.ranges.x in
    let r : SFits w64 c.args.r = c.ranges.r in
    let p : SFits w128 c.product.result = record { sfits = c.product.type_inv } in
    let u : SFits w64 c.halves_of-sum.result.upper = search rules in
    let product : c.product.result ≡ c.args.x *ℤ c.args.r = simp to_z-of_z at c.product.ensures.value in
    let few : unsigned_abs (c.args.x *ℤ c.args.r) ≤ 2 ^ 125 = omega (arith, product_le c.args.x c.args.r (2 ^ 63) (2 ^ 62) (size_64 c.args.x x) c.requires.r) in
    let size : unsigned_abs (c.args.x *ℤ c.args.r +ℤ pos (2 ^ 63)) ≤ 2 ^ 125 + 2 ^ 63 = sum_le (c.args.x *ℤ c.args.r) (pos (2 ^ 63)) (2 ^ 125) (2 ^ 63) few (omega arith) in
    let sum : SFits w128 (c.product.result +ℤ pos 9223372036854775808) = fits_signed_from_abs w128 _ (rw product (omega (arith, size))) in
    let upper = simp to_z-of_z at c.halves_of-sum.ensures.upper in
    let lower = simp to_z-of_z at c.halves_of-sum.ensures.lower in
    simp to_z-of_z (clear_is (c.args.x *ℤ c.args.r) (c.product.result +ℤ pos 9223372036854775808) c.halves_of-sum.result.upper c.halves_of-sum.result.lower c.args.margin (ap (λ v. v +ℤ pos 9223372036854775808) product) upper lower (c.is_clear.ensures.low c.if-is_clear.true) (c.is_clear.ensures.high c.if-is_clear.true))
