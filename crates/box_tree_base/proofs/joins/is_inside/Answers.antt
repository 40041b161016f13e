use Rattle.std.proofs.Common.{rules, ◌≤ℤ◌, to_z-of_z}
use Rattle.std.specs.Int.{w64}
use mir.Val.{SFits}
use Rattle.box_tree_base.proofs.joins.is_inside.Goals as goal

pub returns-then-is_between : goal.returns-then-is_between
returns-then-is_between c = λ h.
    let o_left : SFits w64 c.args.outer.now.lo.x = search rules in
    let o_down : SFits w64 c.args.outer.now.lo.y = search rules in
    let o_right : SFits w64 c.args.outer.now.hi.x = search rules in
    let o_up : SFits w64 c.args.outer.now.hi.y = search rules in
    let i_left : SFits w64 c.args.inner.now.lo.x = search rules in
    let i_down : SFits w64 c.args.inner.now.lo.y = search rules in
    let i_right : SFits w64 c.args.inner.now.hi.x = search rules in
    let i_up : SFits w64 c.args.inner.now.hi.y = search rules in
    let x : (c.args.outer.now.lo.x ≤ℤ c.args.inner.now.lo.x) × (c.args.inner.now.hi.x ≤ℤ c.args.outer.now.hi.x) = simp to_z-of_z at (c.is_between.ensures c.if-is_between.true) in
    let y : (c.args.outer.now.lo.y ≤ℤ c.args.inner.now.lo.y) × (c.args.inner.now.hi.y ≤ℤ c.args.outer.now.hi.y) = simp to_z-of_z at (c.is_between-then-is_between.ensures h) in
    record { left = x.0; right = x.1; down = y.0; up = y.1 }
