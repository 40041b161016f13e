use Rattle.std.proofs.Common.{◌≡◌, ◌∙◌, ap, ◌≤◌, ◌+◌, ◌^◌, ℤ, pos, ◌-ℤ◌, ◌*ℤ◌, unsigned_abs, arith, rules}
use Rattle.std.proofs.lemmas.Int.{to_z-of_z, fits_signed_from_abs}
use Rattle.std.specs.Int.{w64, w128}
use mir.Val.{SFits}
use Rattle.fixed_geom.specs.Numbers.{fdiv}
use Rattle.fixed_geom.proofs.ReciprocalLemmas.{lifted_size, rdiv_lifted, reciprocal_is, reciprocal_small}
use Rattle.fixed_geom.proofs.reciprocals.rdiv_by.Goals as goal

pub halves_of-requires : goal.halves_of-requires
halves_of-requires c =
    let r : SFits w64 c.args.reciprocal = c.ranges.reciprocal in
    let l : SFits w64 c.lifted.result = record { sfits = c.lifted.type_inv } in
    let p : SFits w128 c.product.result = record { sfits = c.product.type_inv } in
    let value : c.product.result ≡ c.lifted.result *ℤ c.args.reciprocal = simp to_z-of_z at c.product.ensures.value in
    let small : unsigned_abs c.args.reciprocal ≤ 2 ^ 62 + 1 = rw c.requires.reciprocal (reciprocal_small c.args.b c.requires.positive) in
    let size = lifted_size c.product.result c.lifted.result c.args.reciprocal value c.lifted.ensures.small small in
    let less : SFits w128 (c.product.result -ℤ pos 1) = fits_signed_from_abs w128 _ (omega (arith, size)) in
    simp to_z-of_z (omega (arith, size))

pub returns : goal.returns
returns c =
    let a : SFits w64 c.args.a = c.ranges.a in
    let b : SFits w64 c.args.b = c.ranges.b in
    let r : SFits w64 c.args.reciprocal = c.ranges.reciprocal in
    let l : SFits w64 c.lifted.result = record { sfits = c.lifted.type_inv } in
    let p : SFits w128 c.product.result = record { sfits = c.product.type_inv } in
    let half : SFits w64 c.halves_of.result.upper = search rules in
    let value : c.product.result ≡ c.lifted.result *ℤ c.args.reciprocal = simp to_z-of_z at c.product.ensures.value in
    let small : unsigned_abs c.args.reciprocal ≤ 2 ^ 62 + 1 = rw c.requires.reciprocal (reciprocal_small c.args.b c.requires.positive) in
    let size = lifted_size c.product.result c.lifted.result c.args.reciprocal value c.lifted.ensures.small small in
    let less : SFits w128 (c.product.result -ℤ pos 1) = fits_signed_from_abs w128 _ (omega (arith, size)) in
    let sum = simp to_z-of_z at c.lifted.ensures.value in
    let upper = simp to_z-of_z at c.halves_of.ensures.upper in
    simp to_z-of_z (upper ∙ ap (λ (v : ℤ). fdiv (v -ℤ pos 1) (pos (2 ^ 64))) value ∙ rdiv_lifted c.args.a c.args.b c.args.reciprocal c.lifted.result c.requires.positive c.requires.b c.lifted.ensures.small sum (c.requires.reciprocal ∙ reciprocal_is c.args.b c.requires.positive))
