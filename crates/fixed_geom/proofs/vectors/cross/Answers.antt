use Rattle.std.proofs.Common.{unsigned_abs, arith, rules}
use Rattle.std.proofs.lemmas.Int.{to_z-of_z}
use Rattle.std.proofs.lemmas.Nat.{mul-le}
use Rattle.std.specs.Int.{w64, w128}
use mir.Val.{SFits}
use Rattle.fixed_geom.specs.Vectors.{cross}
use Rattle.fixed_geom.proofs.vectors.cross.Goals as goal

pub returns-clause-value : goal.returns-clause-value
unfolding cross
returns-clause-value c =
    let ax : SFits w64 c.args.a.x = search rules in
    let bx : SFits w64 c.args.b.x = search rules in
    let ay : SFits w64 c.args.a.y = search rules in
    let by : SFits w64 c.args.b.y = search rules in
    let value = simp to_z-of_z at c.difference_of_products.ensures.value in
    let fits : SFits w128 c.difference_of_products.result = record { sfits = c.difference_of_products.type_inv } in
    simp to_z-of_z value

pub returns-clause-size : goal.returns-clause-size
returns-clause-size c = λ m n h k.
    let ax : SFits w64 c.args.a.x = search rules in
    let bx : SFits w64 c.args.b.x = search rules in
    let ay : SFits w64 c.args.a.y = search rules in
    let by : SFits w64 c.args.b.y = search rules in
    let fits : SFits w128 c.difference_of_products.result = record { sfits = c.difference_of_products.type_inv } in
    let size = simp to_z-of_z at c.difference_of_products.ensures.size in
    let first = mul-le (unsigned_abs c.args.a.x) (unsigned_abs c.args.b.y) m n h.x k.y in
    let second = mul-le (unsigned_abs c.args.a.y) (unsigned_abs c.args.b.x) m n h.y k.x in
    simp to_z-of_z (omega (arith, size, first, second))
