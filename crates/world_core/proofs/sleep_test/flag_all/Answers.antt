use Rattle.std.proofs.Common.{slice_index_or}
use Rattle.world_core.proofs.QuietSteps.{flagged_more}
use Rattle.world_core.proofs.sleep_test.flag_all.Goals as goal

pub loop-place-preserved : goal.loop-place-preserved
loop-place-preserved c = λ names timers tell has.
    flagged_more names c.args.islands.now.labels timers c.args.bodies.now c.loop-place.flags.items c.flag_if_short.new.flags.items (slice_index_or c.args.awake.now c.loop-place.place 0) tell (c.loop-place.invariant names timers tell has) c.flag_if_short.ensures
