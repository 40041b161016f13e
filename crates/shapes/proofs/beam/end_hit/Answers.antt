use Rattle.std.proofs.Common.{◌≡◌, ◌*◌, ◌^◌, arith, refl}
use Rattle.std.proofs.lemmas.Int.{to_z-of_z}
use Rattle.std.specs.Int.{w64, w128}
use mir.Val.{SFits}
use Rattle.fixed_geom.specs.Vectors.{IsWithin, dot, cross, minus}
use Rattle.shapes.specs.Rays.{end_hit}
use Rattle.shapes.proofs.BeamLemmas.{ahead_positive}
use Rattle.shapes.proofs.beam.end_hit.Goals as goal

pub circle_hit-requires-clause-ahead : goal.circle_hit-requires-clause-ahead
circle_hit-requires-clause-ahead c =
    let fits : SFits w128 c.dot.result = record { sfits = c.dot.type_inv } in
    let near : IsWithin (2 ^ 37) c.args.beam.now.from = record { x = omega (arith, c.requires.beam.from.x); y = omega (arith, c.requires.beam.from.y) } in
    let size = c.dot.ensures.size (2 * 2 ^ 37) (2 ^ 28) (c.minus-way.ensures.within (2 ^ 37) c.requires.end near) c.requires.beam.along in
    simp to_z-of_z (omega (arith, size))

pub circle_hit-requires-clause-square : goal.circle_hit-requires-clause-square
circle_hit-requires-clause-square c =
    let fits : SFits w128 c.dot-2.result = record { sfits = c.dot-2.type_inv } in
    let size = c.dot-2.ensures.size (2 ^ 28) (2 ^ 28) c.requires.beam.along c.requires.beam.along in
    simp to_z-of_z (omega (arith, size))

pub circle_hit-requires-clause-positive : goal.circle_hit-requires-clause-positive
circle_hit-requires-clause-positive c =
    let ahead : SFits w128 c.dot.result = record { sfits = c.dot.type_inv } in
    let square : SFits w128 c.dot-2.result = record { sfits = c.dot-2.type_inv } in
    let first : c.dot.result ≡ dot c.minus-way.result c.args.beam.now.along = c.dot.ensures.value in
    let second : c.dot-2.result ≡ dot c.args.beam.now.along c.args.beam.now.along = c.dot-2.ensures.value in
    simp to_z-of_z (rw (first, second) (ahead_positive c.minus-way.result c.args.beam.now.along))

pub returns : goal.returns
unfolding end_hit
returns c =
    let radius : SFits w64 c.args.radius = c.ranges.radius in
    let ahead : SFits w128 c.dot.result = record { sfits = c.dot.type_inv } in
    let off : SFits w128 c.cross.result = record { sfits = c.cross.type_inv } in
    let square : SFits w128 c.dot-2.result = record { sfits = c.dot-2.type_inv } in
    let value = simp to_z-of_z at c.circle_hit.ensures in
    let first : c.dot.result ≡ dot c.minus-way.result c.args.beam.now.along = c.dot.ensures.value in
    let second : c.cross.result ≡ cross c.minus-way.result c.args.beam.now.along = c.cross.ensures.value in
    let third : c.dot-2.result ≡ dot c.args.beam.now.along c.args.beam.now.along = c.dot-2.ensures.value in
    let way : c.minus-way.result ≡ minus c.args.end c.args.beam.now.from = c.minus-way.ensures.value in
    rw (value, first, second, third, way) refl
