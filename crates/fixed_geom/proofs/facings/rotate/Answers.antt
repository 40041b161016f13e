use Rattle.std.proofs.Common.{◌^◌, ◌*◌, arith, rules}
use Rattle.std.proofs.lemmas.Int.{to_z-of_z}
use Rattle.std.specs.Int.{w64, w128}
use mir.Val.{SFits}
use Rattle.fixed_geom.proofs.FacingLemmas.{rotated_x_le, rotated_y_le}
use Rattle.fixed_geom.proofs.facings.rotate.Goals as goal

pub rdiv_unit-requires : goal.rdiv_unit-requires
rdiv_unit-requires c =
    let qc : SFits w64 c.args.q.c = search rules in
    let qs : SFits w64 c.args.q.s = search rules in
    let vx : SFits w64 c.args.v.x = search rules in
    let vy : SFits w64 c.args.v.y = search rules in
    let fits : SFits w128 c.difference_of_products.result = record { sfits = c.difference_of_products.type_inv } in
    let size = simp to_z-of_z at c.difference_of_products.ensures.size in
    let small = rotated_x_le c.args.q c.args.v (2 ^ 60) c.difference_of_products.result c.requires.facing c.requires.position (omega (arith, size)) in
    simp to_z-of_z (omega (arith, small))

pub rdiv_unit-requires-2 : goal.rdiv_unit-requires-2
rdiv_unit-requires-2 c =
    let qc : SFits w64 c.args.q.c = search rules in
    let qs : SFits w64 c.args.q.s = search rules in
    let vx : SFits w64 c.args.v.x = search rules in
    let vy : SFits w64 c.args.v.y = search rules in
    let fits : SFits w128 c.sum_of_products.result = record { sfits = c.sum_of_products.type_inv } in
    let size = simp to_z-of_z at c.sum_of_products.ensures.size in
    let small = rotated_y_le c.args.q c.args.v (2 ^ 60) c.sum_of_products.result c.requires.facing c.requires.position (omega (arith, size)) in
    simp to_z-of_z (omega (arith, small))

pub returns-clause-within : goal.returns-clause-within
returns-clause-within c = λ k h.
    let qc : SFits w64 c.args.q.c = search rules in
    let qs : SFits w64 c.args.q.s = search rules in
    let vx : SFits w64 c.args.v.x = search rules in
    let vy : SFits w64 c.args.v.y = search rules in
    let across : SFits w128 c.difference_of_products.result = record { sfits = c.difference_of_products.type_inv } in
    let along : SFits w128 c.sum_of_products.result = record { sfits = c.sum_of_products.type_inv } in
    let x : SFits w64 c.rdiv_unit.result = record { sfits = c.rdiv_unit.type_inv } in
    let y : SFits w64 c.rdiv_unit-2.result = record { sfits = c.rdiv_unit-2.type_inv } in
    let across_size = simp to_z-of_z at c.difference_of_products.ensures.size in
    let along_size = simp to_z-of_z at c.sum_of_products.ensures.size in
    let across_le = rotated_x_le c.args.q c.args.v k c.difference_of_products.result c.requires.facing h (omega (arith, across_size)) in
    let along_le = rotated_y_le c.args.q c.args.v k c.sum_of_products.result c.requires.facing h (omega (arith, along_size)) in
    record {
      x = simp to_z-of_z (c.rdiv_unit.ensures.within (2 * k) (simp to_z-of_z across_le));
      y = simp to_z-of_z (c.rdiv_unit-2.ensures.within (2 * k) (simp to_z-of_z along_le));
    }
