use Rattle.std.proofs.Common.{rules}
use Rattle.std.proofs.lemmas.Int.{to_z-of_z}
use Rattle.std.specs.Int.{w64}
use mir.Val.{SFits}
use Rattle.momenta.specs.Motions.{velocity}
use Rattle.momenta.proofs.Laws64.{quotient_within}
use Rattle.momenta.proofs.velocities_64.velocity_64.Goals as goal

pub returns-clause-value : goal.returns-clause-value
unfolding velocity
returns-clause-value c = search rules

pub returns-clause-within : goal.returns-clause-within
returns-clause-within c =
    let m : SFits w64 c.args.mass = c.ranges.mass in
    let x : SFits w64 c.args.p.x = search rules in
    let y : SFits w64 c.args.p.y = search rules in
    let vx : SFits w64 c.rdiv_by.result = record { sfits = c.rdiv_by.type_inv } in
    let vy : SFits w64 c.rdiv_by-2.result = record { sfits = c.rdiv_by-2.type_inv } in
    record {
      x = simp to_z-of_z (quotient_within c.args.p.x c.args.mass c.rdiv_by.result (simp to_z-of_z at c.rdiv_by.ensures) c.requires.positive c.requires.momentum.x);
      y = simp to_z-of_z (quotient_within c.args.p.y c.args.mass c.rdiv_by-2.result (simp to_z-of_z at c.rdiv_by-2.ensures) c.requires.positive c.requires.momentum.y);
    }
