use Rattle.std.proofs.Common.{sym, ltb-true, ltb-false, arith}
use Rattle.contacts.proofs.MarkLemmas.{mark_beyond, mark_there}
use Rattle.contacts.proofs.marks.is_marked.Goals as goal

pub returns-in-None : goal.returns-in-None
returns-in-None c = mark_beyond c.args.marks.now c.args.id (omega arith) (ltb-false _ _ (sym c.in-None.ensures.lookup.0))

pub returns-in-Some : goal.returns-in-Some
returns-in-Some c = mark_there c.args.marks.now c.args.id c.in-Some.marked.now c.in-Some.marked.now (omega arith) (ltb-true _ _ (sym c.in-Some.ensures.lookup.0)) c.in-Some.ensures.lookup.1
