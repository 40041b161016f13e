use Rattle.contacts.specs.SurveyPieces.{shown_looks}
use Rattle.contacts.proofs.JoinLaws.{long_pairs}
use Rattle.contacts.proofs.SurveyPieceLaws.{looks_are_all}
use Rattle.contacts.proofs.by_marks.make_of_looks.Goals as goal

pub update_known-requires-clause-looked : goal.update_known-requires-clause-looked
update_known-requires-clause-looked g c =
    looks_are_all c.args.stirring.now.flags.items c.args.collide.now.marks.now (g.F.ForbiddenPairs.pairs c.args.collide.now.forbidden.now) (g.S.ShapesById.proxies c.args.collide.now.shapes.now) c.args.contacts.now c.args.stirring.now.places.items (shown_looks c.args.found.now)
    c.know_ascending.ensures.flags c.requires.quiet (long_pairs c.args.contacts.now c.requires.known.keys) c.requires.places c.requires.looks
