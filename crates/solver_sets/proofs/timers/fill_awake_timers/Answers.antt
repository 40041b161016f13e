use Rattle.solver_sets.proofs.TimerLaws.{awake_size, awake_timer}
use Rattle.solver_sets.proofs.timers.fill_awake_timers.Goals as goal

pub returns-clause-size : goal.returns-clause-size
returns-clause-size c =
    awake_size c.args.bodies.now c.args.joints.now c.args.awake.now c.args.colours.now.lists c.fit.new.timers.items c.set_all_own.new.timers.items c.still_acting.new.timers.items c.fit.ensures c.set_all_own.ensures c.still_acting.ensures

pub returns-clause-same : goal.returns-clause-same
returns-clause-same c = λ labels contacts tell slot up listed.
    awake_timer c.args.bodies.now c.args.joints.now contacts labels c.args.awake.now c.args.colours.now.lists c.fit.new.timers.items c.set_all_own.new.timers.items c.still_acting.new.timers.items c.fit.ensures c.set_all_own.ensures c.still_acting.ensures tell slot up listed
