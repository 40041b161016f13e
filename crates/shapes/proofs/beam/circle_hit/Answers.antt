use Rattle.std.proofs.Common.{arith}
use Rattle.std.proofs.lemmas.Int.{to_z-of_z}
use Rattle.std.specs.Int.{w128}
use mir.Val.{SFits}
use Rattle.shapes.proofs.BeamLemmas.{missed}
use Rattle.shapes.proofs.beam.circle_hit.Goals as goal

pub returns-then-unsigned_abs-gt-FAR_OFF : goal.returns-then-unsigned_abs-gt-FAR_OFF
returns-then-unsigned_abs-gt-FAR_OFF c =
    let off : SFits w128 c.args.off = c.ranges.off in
    let size = simp to_z-of_z at c.unsigned_abs.ensures.value in
    missed c.args.ahead c.args.off c.args.radius c.args.square c.requires.radius c.requires.square (omega (arith, size, c.if-unsigned_abs-gt-FAR_OFF.true))
