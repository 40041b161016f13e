use Rattle.std.proofs.Common.{arith, refl, rules}
use Rattle.std.proofs.lemmas.Int.{to_z-of_z}
use Rattle.std.specs.Int.{w64}
use mir.Val.{SFits}
use Rattle.fixed_geom.proofs.Sizes.{sum_64}
use Rattle.momenta.specs.Motions.{aim}
use Rattle.momenta.proofs.Laws64.{slow_small}
use Rattle.momenta.proofs.travel.aim.Goals as goal

pub returns : goal.returns
unfolding aim
returns c =
    let mass : SFits w64 c.args.mass.mass = search rules in
    let value = simp to_z-of_z at c.velocity_64-velocity.ensures.value in
    let slow = rw (← value) at c.requires.slow in
    rw (
      (sum_64 c.args.motion.x.x c.velocity_64-velocity.result.x (omega (arith, c.requires.motion.x.x)) (omega (arith, slow.x))).value,
      (sum_64 c.args.motion.x.y c.velocity_64-velocity.result.y (omega (arith, c.requires.motion.x.y)) (omega (arith, slow.y))).value,
      value,
    ) (record { value = refl })

pub velocity_64-velocity-requires-clause-momentum : goal.velocity_64-velocity-requires-clause-momentum
velocity_64-velocity-requires-clause-momentum c = slow_small c.args.motion.p c.args.mass c.requires.mass c.requires.slow
