use Rattle.std.proofs.Common.{arith}
use Rattle.graph_colours.proofs.BitLaws.{next_set}
use Rattle.graph_colours.proofs.taken_colours.next_candidate.Goals as goal

pub returns-clause-candidate : goal.returns-clause-candidate
returns-clause-candidate c = (next_set c.args.candidates c.args.from (omega arith)).set

pub returns-clause-skipped : goal.returns-clause-skipped
returns-clause-skipped c = (next_set c.args.candidates c.args.from (omega arith)).skipped
