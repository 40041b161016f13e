use Rattle.std.proofs.Common.{sym, ltb-true, ltb-false}
use Rattle.box_tree.proofs.IndexLemmas.{box_beyond, box_there}
use Rattle.box_tree.proofs.index.box_in.Goals as goal

pub returns-in-None : goal.returns-in-None
returns-in-None c = sym (box_beyond c.args.boxes.now c.args.key (ltb-false _ _ (sym c.in-None.ensures.lookup.0)))

pub returns-in-Some : goal.returns-in-Some
returns-in-Some c = sym (box_there c.args.boxes.now c.args.key c.in-Some.entry.now (ltb-true _ _ (sym c.in-Some.ensures.lookup.0)) c.in-Some.ensures.lookup.1)
