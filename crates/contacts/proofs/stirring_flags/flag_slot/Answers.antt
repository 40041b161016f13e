use Rattle.std.proofs.Common.{sym, ap, ◌∙◌}
use Rattle.contacts.specs.Stirring.{is_flagged}
use Rattle.contacts.proofs.FlaggedLaws.{flag_more}
use Rattle.contacts.proofs.stirring_flags.flag_slot.Goals as goal

pub returns-in_ok-push-clause-flagged : goal.returns-in_ok-push-clause-flagged
returns-in_ok-push-clause-flagged c =
    let off = ap (λ flags. is_flagged flags c.args.slot) (sym c.deref.ensures.value) ∙ sym c.is_flagged.ensures ∙ c.if-not-is_flagged.true in
    flag_more c.args.flags.now.items c.args.flagged.now.items c.push.new.self.items c.args.slot c.requires off c.in_ok-push.ensures.items
