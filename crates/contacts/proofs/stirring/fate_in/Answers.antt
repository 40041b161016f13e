use Rattle.std.proofs.Common.{sym, ◌∙◌}
use Rattle.contacts.specs.Fates.{moved_by}
use Rattle.contacts.proofs.StirringLaws.{quiet_outcome}
use Rattle.contacts.proofs.stirring.fate_in.Goals as goal

pub returns-then-not-is_one_flagged : goal.returns-then-not-is_one_flagged
returns-then-not-is_one_flagged g c =
    let both = c.requires.quiet c.args.entry.now c.requires.key (sym c.is_one_flagged.ensures ∙ c.if-not-is_one_flagged.true) in
    sym (quiet_outcome (moved_by c.args.collide.now.marks.now) (g.F.ForbiddenPairs.pairs c.args.collide.now.forbidden.now) (g.S.ShapesById.proxies c.args.collide.now.shapes.now) c.args.entry.now both.0 both.1)
