use Rattle.std.proofs.Common.{arith, rules}
use Rattle.std.proofs.lemmas.Int.{to_z-of_z}
use Rattle.std.specs.Int.{w64}
use mir.Val.{SFits}
use Rattle.momenta.proofs.MotionLaws.{clamped_slow}
use Rattle.momenta.proofs.speed_limit.is_slow.Goals as goal

pub returns-clause-same : goal.returns-clause-same
returns-clause-same c = λ told.
    let mass : SFits w64 c.args.mass.mass = search rules in
    clamped_slow c.args.mass c.args.motion (simp to_z-of_z at (c.is_below_limit.ensures.slow told))

pub returns-clause-motion : goal.returns-clause-motion
returns-clause-motion c = λ told.
    let small = c.is_below_limit.ensures.small told in
    let motion = c.requires.motion in
    record { p = record { x = omega (arith, small.x); y = omega (arith, small.y) }; l = motion.l; still = motion.still; x = motion.x; facing = motion.facing }
