use Rattle.world_core.proofs.kept_awake.flag_beside.Goals as goal

pub loop-colour-preserved : goal.loop-colour-preserved
loop-colour-preserved c = λ names timers keep has. c.flag_colour.ensures names timers keep (c.loop-colour.invariant names timers keep has)
