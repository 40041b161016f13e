use Rattle.std.proofs.Common.{rules, ◌≡◌, refl, to_z-of_z}
use Rattle.std.specs.Int.{w64, int_min, int_max}
use mir.Val.{SFits}
use Rattle.box_tree_base.proofs.joins.joined.Goals as goal

pub returns : goal.returns
returns c =
    let a_left : SFits w64 c.args.a.now.lo.x = search rules in
    let a_down : SFits w64 c.args.a.now.lo.y = search rules in
    let a_right : SFits w64 c.args.a.now.hi.x = search rules in
    let a_up : SFits w64 c.args.a.now.hi.y = search rules in
    let b_left : SFits w64 c.args.b.now.lo.x = search rules in
    let b_down : SFits w64 c.args.b.now.lo.y = search rules in
    let b_right : SFits w64 c.args.b.now.hi.x = search rules in
    let b_up : SFits w64 c.args.b.now.hi.y = search rules in
    let left : SFits w64 c.min.result = record { sfits = c.min.type_inv } in
    let down : SFits w64 c.min-2.result = record { sfits = c.min-2.type_inv } in
    let right : SFits w64 c.max.result = record { sfits = c.max.type_inv } in
    let up : SFits w64 c.max-2.result = record { sfits = c.max-2.type_inv } in
    let left_is : c.min.result ≡ int_min c.args.a.now.lo.x c.args.b.now.lo.x = simp to_z-of_z at c.min.ensures.value in
    let down_is : c.min-2.result ≡ int_min c.args.a.now.lo.y c.args.b.now.lo.y = simp to_z-of_z at c.min-2.ensures.value in
    let right_is : c.max.result ≡ int_max c.args.a.now.hi.x c.args.b.now.hi.x = simp to_z-of_z at c.max.ensures.value in
    let up_is : c.max-2.result ≡ int_max c.args.a.now.hi.y c.args.b.now.hi.y = simp to_z-of_z at c.max-2.ensures.value in
    simp to_z-of_z (rw (left_is, down_is, right_is, up_is) refl)
