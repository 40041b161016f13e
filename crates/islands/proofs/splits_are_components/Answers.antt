use Rattle.islands.proofs.ReachLemmas.{reaching_is_joined}
use Rattle.islands.proofs.SplitLemmas.{merging_splits}
use Rattle.islands.proofs.splits_are_components.Goals as goal

pub returns-clause-reaching : goal.returns-clause-reaching
returns-clause-reaching c = reaching_is_joined

pub returns-clause-merging : goal.returns-clause-merging
returns-clause-merging c = merging_splits
