use Rattle.contacts.proofs.StripLemmas.{few_strips}
use Rattle.contacts.proofs.strips.strip_of.Goals as goal

pub returns-clause-few : goal.returns-clause-few
returns-clause-few c = λ least. few_strips c.args.bits c.column.result least c.column.ensures.small
