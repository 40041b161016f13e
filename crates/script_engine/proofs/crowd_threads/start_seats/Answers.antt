use Rattle.script_engine.proofs.crowd_threads.start_seats.Goals as goal

pub start_all-requires-sync-S : goal.start_all-requires-sync-S
start_all-requires-sync-S g c = λ κs fits. record { shared = c.may_be_shared.ensures.shared }
