use Rattle.std.proofs.Common.{◌^◌, ◌*ℤ◌, pos, rules}
use Rattle.std.proofs.lemmas.Int.{to_z-of_z}
use Rattle.std.specs.Int.{w64}
use mir.Val.{SFits}
use Rattle.momenta.specs.Motions.{velocity}
use Rattle.momenta.proofs.MotionLaws.{below_is_slow, below_is_small, limit_fits}
use Rattle.momenta.proofs.speed_limit.is_below_limit.Goals as goal

pub returns-clause-slow : goal.returns-clause-slow
unfolding velocity
returns-clause-slow c = λ told.
    let m : SFits w64 c.args.mass = c.ranges.mass in
    let px : SFits w64 c.args.p.x = search rules in
    let py : SFits w64 c.args.p.y = search rules in
    let limit : SFits w64 (c.args.mass *ℤ pos (2 ^ 20)) = limit_fits c.args.mass c.requires.mass in
    let x = simp to_z-of_z at (c.are_in.ensures.x told) in
    let y = simp to_z-of_z at (c.are_in.ensures.y told) in
    record { x = below_is_slow c.args.p.x c.args.mass c.requires.positive x; y = below_is_slow c.args.p.y c.args.mass c.requires.positive y }

pub returns-clause-small : goal.returns-clause-small
returns-clause-small c = λ told.
    let m : SFits w64 c.args.mass = c.ranges.mass in
    let px : SFits w64 c.args.p.x = search rules in
    let py : SFits w64 c.args.p.y = search rules in
    let limit : SFits w64 (c.args.mass *ℤ pos (2 ^ 20)) = limit_fits c.args.mass c.requires.mass in
    let x = simp to_z-of_z at (c.are_in.ensures.x told) in
    let y = simp to_z-of_z at (c.are_in.ensures.y told) in
    record { x = below_is_small c.args.p.x c.args.mass c.requires.mass x; y = below_is_small c.args.p.y c.args.mass c.requires.mass y }

pub returns-clause-room : goal.returns-clause-room
returns-clause-room c =
    let m : SFits w64 c.args.mass = c.ranges.mass in
    let px : SFits w64 c.args.p.x = search rules in
    let py : SFits w64 c.args.p.y = search rules in
    let limit : SFits w64 (c.args.mass *ℤ pos (2 ^ 20)) = limit_fits c.args.mass c.requires.mass in
    λ x y. c.are_in.ensures.room (simp to_z-of_z x) (simp to_z-of_z y)
