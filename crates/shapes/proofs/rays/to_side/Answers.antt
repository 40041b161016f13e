use Rattle.std.proofs.Common.{◌*◌, ◌^◌, ◌≤◌, unsigned_abs, refl, rules}
use Rattle.std.proofs.lemmas.Int.{to_z-of_z}
use Rattle.std.proofs.lemmas.Nat.{mul-le}
use Rattle.std.specs.Int.{w64}
use mir.Val.{SFits}
use Rattle.shapes.specs.Rays.{to_side}
use Rattle.shapes.proofs.rays.to_side.Goals as goal

pub returns-clause-value : goal.returns-clause-value
unfolding to_side
returns-clause-value c =
    let radius : SFits w64 c.args.radius = c.ranges.radius in
    let nx : SFits w64 c.across-normal.result.x = search rules in
    let ny : SFits w64 c.across-normal.result.y = search rules in
    let x : SFits w64 c.scaled.result = record { sfits = c.scaled.type_inv } in
    let y : SFits w64 c.scaled-2.result = record { sfits = c.scaled-2.type_inv } in
    let first = simp to_z-of_z at c.scaled.ensures.value in
    let second = simp to_z-of_z at c.scaled-2.ensures.value in
    simp to_z-of_z (rw (first, second, c.across-normal.ensures.value) refl)

pub returns-clause-within : goal.returns-clause-within
returns-clause-within c =
    let radius : SFits w64 c.args.radius = c.ranges.radius in
    let nx : SFits w64 c.across-normal.result.x = search rules in
    let ny : SFits w64 c.across-normal.result.y = search rules in
    let x : SFits w64 c.scaled.result = record { sfits = c.scaled.type_inv } in
    let y : SFits w64 c.scaled-2.result = record { sfits = c.scaled-2.type_inv } in
    let x_size : unsigned_abs c.args.radius * unsigned_abs c.across-normal.result.x ≤ 2 ^ 24 * 2 ^ 30 = mul-le _ _ _ _ c.requires.radius c.across-normal.ensures.within.x in
    let y_size : unsigned_abs c.args.radius * unsigned_abs c.across-normal.result.y ≤ 2 ^ 24 * 2 ^ 30 = mul-le _ _ _ _ c.requires.radius c.across-normal.ensures.within.y in
    record { x = simp to_z-of_z (c.scaled.ensures.within (2 ^ 24) (simp to_z-of_z x_size)); y = simp to_z-of_z (c.scaled-2.ensures.within (2 ^ 24) (simp to_z-of_z y_size)) }
