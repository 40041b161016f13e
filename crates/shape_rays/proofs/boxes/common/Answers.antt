use Rattle.std.proofs.Common.{refl, rules}
use Rattle.std.proofs.lemmas.Int.{to_z-of_z}
use Rattle.std.specs.Int.{w64}
use mir.Val.{SFits}
use Rattle.shape_rays.proofs.boxes.common.Goals as goal

pub returns : goal.returns
returns c =
    let alx : SFits w64 c.args.a.now.lo.x = search rules in
    let aly : SFits w64 c.args.a.now.lo.y = search rules in
    let ahx : SFits w64 c.args.a.now.hi.x = search rules in
    let ahy : SFits w64 c.args.a.now.hi.y = search rules in
    let blx : SFits w64 c.args.b.now.lo.x = search rules in
    let bly : SFits w64 c.args.b.now.lo.y = search rules in
    let bhx : SFits w64 c.args.b.now.hi.x = search rules in
    let bhy : SFits w64 c.args.b.now.hi.y = search rules in
    let left : SFits w64 c.max.result = record { sfits = c.max.type_inv } in
    let down : SFits w64 c.max-2.result = record { sfits = c.max-2.type_inv } in
    let right : SFits w64 c.min.result = record { sfits = c.min.type_inv } in
    let up : SFits w64 c.min-2.result = record { sfits = c.min-2.type_inv } in
    let left_is = simp to_z-of_z at c.max.ensures.value in
    let down_is = simp to_z-of_z at c.max-2.ensures.value in
    let right_is = simp to_z-of_z at c.min.ensures.value in
    let up_is = simp to_z-of_z at c.min-2.ensures.value in
    simp to_z-of_z (rw (left_is, down_is, right_is, up_is) refl)
