use Rattle.loaded_text.proofs.Parts.{if_both, natural_stands}
use Rattle.loaded_text.proofs.leaves.read_natural.Goals as goal

pub returns-clause-text : goal.returns-clause-text
returns-clause-text c = if_both c.natural.result (λ n small is. natural_stands c.args.lead.now n _ _ small is) c.natural.ensures.small c.natural.ensures.text
