use Rattle.std.proofs.Common.{◌^◌, ◌*ℤ◌, arith}
use Rattle.std.proofs.lemmas.Int.{to_z-of_z}
use Rattle.std.specs.Int.{w128}
use mir.Val.{SFits}
use Rattle.fixed_geom.proofs.Sizes.{product_le, passed_128}
use Rattle.shapes.proofs.beam.area.Goals as goal

pub returns-clause-value : goal.returns-clause-value
returns-clause-value c =
    let square : SFits w128 c.args.square = c.ranges.square in
    let way : SFits w128 c.args.way = c.ranges.way in
    let size = product_le c.args.square c.args.way (2 ^ 48) (2 ^ 57) c.requires.first c.requires.second in
    simp to_z-of_z (passed_128 (c.args.square *ℤ c.args.way) (omega (arith, size)))

pub returns-clause-small : goal.returns-clause-small
returns-clause-small c =
    let size = product_le c.args.square c.args.way (2 ^ 48) (2 ^ 57) c.requires.first c.requires.second in
    rw (returns-clause-value c) size
