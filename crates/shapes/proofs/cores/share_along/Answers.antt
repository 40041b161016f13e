use Rattle.std.proofs.Common.{◌≡◌, arith, refl, ◌≤◌, ◌*◌, ◌^◌, unsigned_abs}
use Rattle.std.proofs.lemmas.Int.{to_z-of_z}
use Rattle.std.specs.Int.{w64, w128}
use mir.Val.{SFits}
use Rattle.fixed_geom.specs.Vectors.{dot}
use Rattle.fixed_geom.proofs.VectorLemmas.{dot_positive}
use Rattle.shapes.proofs.cores.share_along.Goals as goal

pub fraction-requires-clause-part : goal.fraction-requires-clause-part
fraction-requires-clause-part c =
    let size : unsigned_abs c.dot.result ≤ 2 * (2 ^ 38 * 2 ^ 38) = c.dot.ensures.size (2 ^ 38) (2 ^ 38) c.requires.position c.requires.way in
    let fits : SFits w128 c.dot.result = record { sfits = c.dot.type_inv } in
    simp to_z-of_z (omega (arith, size))

pub fraction-requires-clause-positive : goal.fraction-requires-clause-positive
fraction-requires-clause-positive c =
    let fits : SFits w128 c.dot-2.result = record { sfits = c.dot-2.type_inv } in
    let value : c.dot-2.result ≡ dot c.args.way c.args.way = c.dot-2.ensures.value in
    simp to_z-of_z (rw value (dot_positive c.args.way c.requires.wide))

pub returns-clause-value : goal.returns-clause-value
returns-clause-value c =
    let first : SFits w128 c.dot.result = record { sfits = c.dot.type_inv } in
    let second : SFits w128 c.dot-2.result = record { sfits = c.dot-2.type_inv } in
    let result : SFits w64 c.fraction.result = record { sfits = c.fraction.type_inv } in
    let value = simp to_z-of_z at c.fraction.ensures.value in
    let part : c.dot.result ≡ dot c.args.from c.args.way = c.dot.ensures.value in
    let whole : c.dot-2.result ≡ dot c.args.way c.args.way = c.dot-2.ensures.value in
    simp to_z-of_z (rw (value, part, whole) refl)
