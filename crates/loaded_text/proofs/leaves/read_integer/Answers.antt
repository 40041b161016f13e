use Rattle.loaded_text.proofs.Parts.{if_both, integer_stands}
use Rattle.loaded_text.proofs.leaves.read_integer.Goals as goal

pub returns-clause-text : goal.returns-clause-text
returns-clause-text c = if_both c.integer.result (λ z small is. integer_stands c.args.lead.now z _ _ small is) c.integer.ensures.signed c.integer.ensures.text
