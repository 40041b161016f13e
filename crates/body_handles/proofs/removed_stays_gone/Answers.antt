use Rattle.body_handles.proofs.GoneLemmas.{removed_stays_gone-holds}
use Rattle.body_handles.proofs.removed_stays_gone.Goals as goal

pub returns : goal.returns
returns c = removed_stays_gone-holds
