use Rattle.std.proofs.Common.{arith}
use Rattle.std.proofs.lemmas.Int.{to_z-of_z}
use Rattle.std.specs.Int.{w64, w128}
use mir.Val.{SFits}
use Rattle.fixed_geom.specs.Vectors.{unit_length}
use Rattle.fixed_geom.proofs.QuotientLemmas.{rdiv_le}
use Rattle.fixed_geom.proofs.products_64.spin_scaled_64.Goals as goal

pub returns-clause-within : goal.returns-clause-within
returns-clause-within c =
    let w : SFits w64 c.args.w = c.ranges.w in
    let part : SFits w64 c.args.part = c.ranges.part in
    let p : SFits w128 c.product.result = record { sfits = c.product.type_inv } in
    let r : SFits w64 c.rdiv_unit_by_sign.result = record { sfits = c.rdiv_unit_by_sign.type_inv } in
    let size = simp to_z-of_z at c.product.ensures.size in
    let value = simp to_z-of_z at c.rdiv_unit_by_sign.ensures.value in
    λ k h. simp to_z-of_z (rw value (rdiv_le c.product.result unit_length k (omega arith) (rw size h)))
