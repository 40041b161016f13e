use Rattle.script_engine.proofs.crowd_threads.start_all.Given as goal

abbrev pub invariant-loop-seat : goal.invariant-loop-seat
invariant-loop-seat g l = Unit {0}
