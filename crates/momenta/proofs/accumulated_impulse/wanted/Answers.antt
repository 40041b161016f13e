use Rattle.std.proofs.lemmas.Int.{to_z-of_z}
use Rattle.std.specs.Int.{w64, w128}
use mir.Val.{SFits}
use Rattle.momenta.specs.Impulses.{wanted}
use Rattle.momenta.proofs.accumulated_impulse.wanted.Goals as goal

pub returns-clause-value : goal.returns-clause-value
unfolding wanted
returns-clause-value c =
    let speed : SFits w64 c.args.speed = c.ranges.speed in
    let bias : SFits w64 c.args.bias = c.ranges.bias in
    let inverse : SFits w128 c.args.inverse = c.ranges.inverse in
    let lacks : SFits w128 c.missing.result = record { sfits = c.missing.type_inv } in
    let impulse : SFits w128 c.impulse_for.result = record { sfits = c.impulse_for.type_inv } in
    let missing = simp to_z-of_z at c.missing.ensures.value in
    simp to_z-of_z (rw missing at (simp to_z-of_z at c.impulse_for.ensures.value))
