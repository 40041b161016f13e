use Rattle.islands.proofs.KeptLemmas.{adding_keeps, merging_keeps, loosening_keeps, taking_out_keeps, state_change_keeps}
use Rattle.islands.proofs.SplitLemmas.{splitting_keeps}
use Rattle.islands.proofs.islands_are_kept.Goals as goal

pub returns-clause-adding : goal.returns-clause-adding
returns-clause-adding c = adding_keeps

pub returns-clause-merging : goal.returns-clause-merging
returns-clause-merging c = merging_keeps

pub returns-clause-loosening : goal.returns-clause-loosening
returns-clause-loosening c = loosening_keeps

pub returns-clause-taking_out : goal.returns-clause-taking_out
returns-clause-taking_out c = taking_out_keeps

pub returns-clause-state_change : goal.returns-clause-state_change
returns-clause-state_change c = state_change_keeps

pub returns-clause-splitting : goal.returns-clause-splitting
returns-clause-splitting c = splitting_keeps
