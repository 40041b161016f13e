use Rattle.loaded_text.proofs.WorldLaws.{answer_is}
use Rattle.loaded_text.proofs.world.read_text.Goals as goal

pub returns : goal.returns
returns c = answer_is c.args.text.now c.in_ok-saved.saved c.fit.result c.in_ok-saved.ensures c.fit.ensures.keeps c.fit.ensures.world c.fit.ensures.totals c.fit.ensures.refused
