use Rattle.world_core.proofs.GrownLaws.{each_call_books_little, settling_books_nothing}
use Rattle.world_core.proofs.laws.each_call_books_little.Goals as goal

pub returns-clause-calls : goal.returns-clause-calls
returns-clause-calls c = each_call_books_little

pub returns-clause-settling : goal.returns-clause-settling
returns-clause-settling c = settling_books_nothing
