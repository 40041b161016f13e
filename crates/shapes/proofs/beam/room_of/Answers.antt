use Rattle.std.proofs.Common.{refl}
use Rattle.std.proofs.lemmas.Int.{to_z-of_z}
use Rattle.std.specs.Int.{w64, w128}
use mir.Val.{SFits}
use Rattle.shapes.proofs.beam.room_of.Goals as goal

pub returns-clause-value : goal.returns-clause-value
returns-clause-value c =
    let radius : SFits w64 c.args.radius = c.ranges.radius in
    let square : SFits w128 c.args.square = c.ranges.square in
    let off : SFits w128 c.args.off = c.ranges.off in
    let first : SFits w128 c.area.result = record { sfits = c.area.type_inv } in
    let second : SFits w128 c.square_of.result = record { sfits = c.square_of.type_inv } in
    let all : SFits w128 c.difference.result = record { sfits = c.difference.type_inv } in
    let product : SFits w128 c.product.result = record { sfits = c.product.type_inv } in
    let square_of_radius = simp to_z-of_z at c.product.ensures.value in
    let area = simp to_z-of_z at c.area.ensures.value in
    let gone = simp to_z-of_z at c.square_of.ensures.value in
    let value = simp to_z-of_z at c.difference.ensures.value in
    simp to_z-of_z (rw (value, area, gone, square_of_radius) refl)
