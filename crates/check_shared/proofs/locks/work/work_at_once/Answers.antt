use Rattle.check_shared.proofs.locks.work.work_at_once.Goals as goal

pub answers_at_once-answers-requires-sync-S : goal.answers_at_once-answers-requires-sync-S
answers_at_once-answers-requires-sync-S g c = λ κs fits. record { shared = c.may_be_shared.ensures.shared }
