use Rattle.std.proofs.Common.{rules}
use Rattle.std.proofs.lemmas.Int.{to_z-of_z}
use Rattle.std.specs.Int.{w64}
use mir.Val.{SFits}
use Rattle.momenta.proofs.Laws64.{quarter_turn}
use Rattle.momenta.proofs.velocities_64.spin_by_64.Goals as goal

pub returns-in-Some-clause-value : goal.returns-in-Some-clause-value
returns-in-Some-clause-value c =
    let l : SFits w64 c.args.l = c.ranges.l in
    let inertia : SFits w64 c.args.inertia = c.ranges.inertia in
    let w : SFits w64 c.in-Some.w = search rules in
    simp to_z-of_z (quarter_turn c.args.inertia c.args.l c.in-Some.w c.requires.inertia (simp to_z-of_z at c.in-Some.ensures.value) c.in-Some.ensures.within)
