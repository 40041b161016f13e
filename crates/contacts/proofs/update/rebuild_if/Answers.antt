use Rattle.std.proofs.Common.{refl}
use Rattle.contacts_base.specs.ShortLists.{counted_in}
use Rattle.contacts.proofs.JoinLaws.{none_go, short_stays}
use Rattle.contacts.proofs.UpdateLemmas.{empty_of}
use Rattle.contacts.proofs.update.rebuild_if.Goals as goal

pub returns-then-not-may_one_stir-clause-rebuilt : goal.returns-then-not-may_one_stir-clause-rebuilt
returns-then-not-may_one_stir-clause-rebuilt g c =
    short_stays c.args.flags.now c.args.collide.now.marks.now (g.F.ForbiddenPairs.pairs c.args.collide.now.forbidden.now) (g.S.ShapesById.proxies c.args.collide.now.shapes.now) (counted_in c.args.short.now) c.args.fresh.now c.requires.quiet c.requires.short c.requires.keys (c.may_one_stir.ensures c.if-not-may_one_stir.true) (empty_of c.args.fresh.now _ c.is_empty.result refl c.is_empty.ensures c.if-is_empty.true)

pub returns-then-not-may_one_stir-clause-gone : goal.returns-then-not-may_one_stir-clause-gone
returns-then-not-may_one_stir-clause-gone g c =
    none_go c.args.flags.now c.args.collide.now.marks.now (g.F.ForbiddenPairs.pairs c.args.collide.now.forbidden.now) (g.S.ShapesById.proxies c.args.collide.now.shapes.now) (counted_in c.args.short.now) c.requires.quiet c.requires.keys (c.may_one_stir.ensures c.if-not-may_one_stir.true)
