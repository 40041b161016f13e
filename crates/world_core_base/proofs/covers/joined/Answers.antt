use Rattle.std.proofs.Common.{rules, to_z-of_z}
use Rattle.std.specs.Int.{w64}
use mir.Val.{SFits}
use Rattle.world_core_base.proofs.covers.joined.Goals as goal

pub returns-clause-first : goal.returns-clause-first
returns-clause-first c =
    let a_left : SFits w64 c.args.a.lo.x = search rules in
    let a_down : SFits w64 c.args.a.lo.y = search rules in
    let a_right : SFits w64 c.args.a.hi.x = search rules in
    let a_up : SFits w64 c.args.a.hi.y = search rules in
    let b_left : SFits w64 c.args.b.lo.x = search rules in
    let b_down : SFits w64 c.args.b.lo.y = search rules in
    let b_right : SFits w64 c.args.b.hi.x = search rules in
    let b_up : SFits w64 c.args.b.hi.y = search rules in
    let left : SFits w64 c.lower.result = record { sfits = c.lower.type_inv } in
    let down : SFits w64 c.lower-2.result = record { sfits = c.lower-2.type_inv } in
    let right : SFits w64 c.higher.result = record { sfits = c.higher.type_inv } in
    let up : SFits w64 c.higher-2.result = record { sfits = c.higher-2.type_inv } in
    simp to_z-of_z (record { left = simp to_z-of_z at c.lower.ensures.first; right = simp to_z-of_z at c.higher.ensures.first; down = simp to_z-of_z at c.lower-2.ensures.first; up = simp to_z-of_z at c.higher-2.ensures.first })

pub returns-clause-second : goal.returns-clause-second
returns-clause-second c =
    let a_left : SFits w64 c.args.a.lo.x = search rules in
    let a_down : SFits w64 c.args.a.lo.y = search rules in
    let a_right : SFits w64 c.args.a.hi.x = search rules in
    let a_up : SFits w64 c.args.a.hi.y = search rules in
    let b_left : SFits w64 c.args.b.lo.x = search rules in
    let b_down : SFits w64 c.args.b.lo.y = search rules in
    let b_right : SFits w64 c.args.b.hi.x = search rules in
    let b_up : SFits w64 c.args.b.hi.y = search rules in
    let left : SFits w64 c.lower.result = record { sfits = c.lower.type_inv } in
    let down : SFits w64 c.lower-2.result = record { sfits = c.lower-2.type_inv } in
    let right : SFits w64 c.higher.result = record { sfits = c.higher.type_inv } in
    let up : SFits w64 c.higher-2.result = record { sfits = c.higher-2.type_inv } in
    simp to_z-of_z (record { left = simp to_z-of_z at c.lower.ensures.second; right = simp to_z-of_z at c.higher.ensures.second; down = simp to_z-of_z at c.lower-2.ensures.second; up = simp to_z-of_z at c.higher-2.ensures.second })
