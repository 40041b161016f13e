use Rattle.std.proofs.Common.{◌≡◌, ◌*◌, ◌^◌, arith, refl}
use Rattle.std.proofs.lemmas.Int.{to_z-of_z}
use Rattle.std.specs.Int.{w128}
use mir.Val.{SFits}
use Rattle.fixed_geom.specs.Vectors.{IsWithin, cross, minus}
use Rattle.shapes.specs.Rays.{side_hit}
use Rattle.shapes.proofs.beam.side_hit.Goals as goal

pub crossed_from_either_side-requires-clause-den : goal.crossed_from_either_side-requires-clause-den
crossed_from_either_side-requires-clause-den c =
    let fits : SFits w128 c.cross.result = record { sfits = c.cross.type_inv } in
    let size = c.cross.ensures.size (2 ^ 28) (2 * 2 ^ 38) c.requires.beam.along (c.minus-way.ensures.within (2 ^ 38) c.requires.second c.requires.first) in
    simp to_z-of_z (omega (arith, size))

pub crossed_from_either_side-requires-clause-s : goal.crossed_from_either_side-requires-clause-s
crossed_from_either_side-requires-clause-s c =
    let fits : SFits w128 c.cross-2.result = record { sfits = c.cross-2.type_inv } in
    let near : IsWithin (2 ^ 38) c.args.beam.now.from = record { x = omega (arith, c.requires.beam.from.x); y = omega (arith, c.requires.beam.from.y) } in
    let size = c.cross-2.ensures.size (2 * 2 ^ 38) (2 * 2 ^ 38) (c.minus-to_side.ensures.within (2 ^ 38) c.requires.first near) (c.minus-way.ensures.within (2 ^ 38) c.requires.second c.requires.first) in
    simp to_z-of_z (omega (arith, size))

pub crossed_from_either_side-requires-clause-z : goal.crossed_from_either_side-requires-clause-z
crossed_from_either_side-requires-clause-z c =
    let fits : SFits w128 c.cross-3.result = record { sfits = c.cross-3.type_inv } in
    let near : IsWithin (2 ^ 38) c.args.beam.now.from = record { x = omega (arith, c.requires.beam.from.x); y = omega (arith, c.requires.beam.from.y) } in
    let size = c.cross-3.ensures.size (2 * 2 ^ 38) (2 ^ 28) (c.minus-to_side.ensures.within (2 ^ 38) c.requires.first near) c.requires.beam.along in
    simp to_z-of_z (omega (arith, size))

pub returns : goal.returns
unfolding side_hit
returns c =
    let first : SFits w128 c.cross.result = record { sfits = c.cross.type_inv } in
    let second : SFits w128 c.cross-2.result = record { sfits = c.cross-2.type_inv } in
    let third : SFits w128 c.cross-3.result = record { sfits = c.cross-3.type_inv } in
    let value = simp to_z-of_z at c.crossed_from_either_side.ensures in
    let den : c.cross.result ≡ cross c.args.beam.now.along c.minus-way.result = c.cross.ensures.value in
    let s : c.cross-2.result ≡ cross c.minus-to_side.result c.minus-way.result = c.cross-2.ensures.value in
    let z : c.cross-3.result ≡ cross c.minus-to_side.result c.args.beam.now.along = c.cross-3.ensures.value in
    let way : c.minus-way.result ≡ minus c.args.side.now.q c.args.side.now.p = c.minus-way.ensures.value in
    let to : c.minus-to_side.result ≡ minus c.args.side.now.p c.args.beam.now.from = c.minus-to_side.ensures.value in
    rw (value, den, s, z, way, to) refl
