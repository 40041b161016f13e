use Rattle.std.proofs.Common.{◌+◌, ◌*◌, ◌^◌, length, arith}
use Rattle.colour_solver.specs.States.{as_vector}
use Rattle.colour_solver.specs.declared.phase.Phase.TheVariants.{Solve, Warm}
use Rattle.part_solver.specs.Running.{mail_after, mail_before}
use Rattle.part_solver.proofs.PassSteps.{posted_as}
use Rattle.part_solver.proofs.TickSteps.{next_mail, sums_within, tick_added}
use Rattle.part_solver.proofs.run.run_tick.Goals as goal

pub sums_after-requires-clause-before : goal.sums_after-requires-clause-before
sums_after-requires-clause-before g c = sums_within (c.args.turn.tick * 2 ^ 86) (2 ^ 90) c.args.before.sums (omega (arith, c.requires.due, c.know.ensures.count)) c.requires.small

pub returns-clause-posted : goal.returns-clause-posted
returns-clause-posted g c =
    let t = c.args.step.now in
    let n = length c.args.ports.now.outs in
    let solved = c.pass_all-solved.ensures.posted in
    let warm = c.pass_all-warm.ensures.posted.outs_count in
    posted_as t n c.args.turn.number (mail_after t c.args.turn.tick Solve) (mail_before t (c.args.turn.tick + 1) Warm) c.pass_all-solved.new.ports (next_mail t c.args.turn.tick) (rw warm at solved)

pub returns-clause-sums : goal.returns-clause-sums
returns-clause-sums g c =
    let made = c.sums_after.ensures in
    let fallen = c.begin_tick-fallen in
    let moved = c.end_tick-moved in
    tick_added c.args.step.now c.args.turn.number c.args.turn.tick c.args.before.sums c.sums_after.result (as_vector fallen.result.first) (as_vector fallen.result.second) (as_vector c.pass_all-warm.result.given) (as_vector c.pass_all-solved.result.given) (as_vector moved.result.first)
    (as_vector moved.result.second)
    (record {
      gravity = made.gravity;
      immovable = made.immovable;
      clamp = made.clamp;
      fallen_is = fallen.ensures.pulled;
      limited_is = fallen.ensures.limited;
      warm_is = c.pass_all-warm.ensures.given;
      solved_is = c.pass_all-solved.ensures.given;
      again_is = moved.ensures.limited;
      moved_is = moved.ensures.moved;
    })
    c.requires.sums

pub returns-clause-small : goal.returns-clause-small
returns-clause-small g c =
    sums_within (c.args.turn.tick * 2 ^ 86 + 2 ^ 86) ((c.args.turn.tick + 1) * 2 ^ 86) c.sums_after.result (omega arith) (c.sums_after.ensures.small (c.args.turn.tick * 2 ^ 86) c.requires.small)

pub pass_all-warm-requires-clause-posted : goal.pass_all-warm-requires-clause-posted
pass_all-warm-requires-clause-posted g c = c.requires.posted

pub pass_all-solved-requires-clause-part : goal.pass_all-solved-requires-clause-part
pass_all-solved-requires-clause-part g c = rw c.pass_all-warm.ensures.posted.outs_count c.requires.part

pub pass_all-solved-requires-clause-posted : goal.pass_all-solved-requires-clause-posted
pass_all-solved-requires-clause-posted g c = rw c.pass_all-warm.ensures.posted.outs_count c.pass_all-warm.ensures.posted
