use Rattle.world_core.proofs.kept_awake.flag_colour.Goals as goal

pub loop-place-preserved : goal.loop-place-preserved
loop-place-preserved c = λ names timers keep has. c.flag_by.ensures names timers keep (c.loop-place.invariant names timers keep has)
