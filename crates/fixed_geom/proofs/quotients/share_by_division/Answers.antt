use Rattle.std.proofs.Common.{◌≤◌, ◌^◌, unsigned_abs, arith}
use Rattle.std.proofs.lemmas.Int.{to_z-of_z}
use Rattle.std.specs.Int.{w64, w128}
use mir.Val.{SFits}
use Rattle.fixed_geom.proofs.Sizes.{fits_64, narrowed}
use Rattle.fixed_geom.proofs.quotients.share_by_division.Goals as goal

small : (c : goal.After-rdiv) → unsigned_abs c.rdiv.result ≤ 2 ^ 30
small c =
    let x : SFits w64 c.args.x = c.ranges.x in
    let k : SFits w64 c.args.k = c.ranges.k in
    let p : SFits w128 c.product.result = record { sfits = c.product.type_inv } in
    let b : SFits w128 c.from.result = record { sfits = c.from.type_inv } in
    let size = simp to_z-of_z at c.product.ensures.size in
    let from = simp to_z-of_z at c.from.ensures in
    c.rdiv.ensures.within (2 ^ 30) (simp to_z-of_z (rw (from, size) (omega (arith, c.requires.part))))

pub overflow_cast-result : goal.overflow_cast-result
overflow_cast-result c = fits_64 c.rdiv.result (omega (arith, small c))

pub returns-clause-value : goal.returns-clause-value
returns-clause-value c =
    let x : SFits w64 c.args.x = c.ranges.x in
    let k : SFits w64 c.args.k = c.ranges.k in
    let p : SFits w128 c.product.result = record { sfits = c.product.type_inv } in
    let b : SFits w128 c.from.result = record { sfits = c.from.type_inv } in
    let value = simp to_z-of_z at c.rdiv.ensures.value in
    let product = simp to_z-of_z at c.product.ensures.value in
    let from = simp to_z-of_z at c.from.ensures in
    rw (narrowed c.rdiv.result (omega (arith, small c))) (rw (← product, ← from) value)

pub returns-clause-within : goal.returns-clause-within
returns-clause-within c = rw (narrowed c.rdiv.result (omega (arith, small c))) (small c)
