use Rattle.std.proofs.Common.{◌≡◌, ◌∙◌, false, sym}
use Rattle.contacts_base.specs.declared.contact.ContactEntry.{ContactEntry}
use Rattle.contacts.specs.Stirring.{one_flagged}
use Rattle.contacts.proofs.ShortLaws.{holds_next, holds_of_all, holds_passed, stands_at}
use Rattle.contacts.proofs.update.may_one_stir.Goals as goal

pub loop-place-preserved-then-is_over : goal.loop-place-preserved-then-is_over
loop-place-preserved-then-is_over c =
    holds_passed (λ (e : ContactEntry). one_flagged c.args.flags.now e ≡ false) c.args.short.now c.entries-entries.result.now c.loop-place.place c.entries-entries.ensures.value c.entries-entries.ensures.flags (sym c.is_over.ensures ∙ c.if-is_over.true) c.loop-place.invariant

pub loop-place-preserved : goal.loop-place-preserved
loop-place-preserved c =
    let entry = c.index-entries-place.result in
    holds_next (λ (e : ContactEntry). one_flagged c.args.flags.now e ≡ false) c.args.short.now c.loop-place.place entry
    (stands_at c.args.short.now c.entries-entries.result.now c.loop-place.place entry c.entries-entries.ensures.value c.entries-entries.ensures.flags c.loop-place-test.true (sym c.is_over.ensures ∙ c.if-is_over.false) c.index-entries-place.is) (sym c.is_one_flagged.ensures ∙ c.if-is_one_flagged.false) c.loop-place.invariant

pub returns : goal.returns
returns c = λ t. holds_of_all (λ (e : ContactEntry). one_flagged c.args.flags.now e ≡ false) c.args.short.now c.entries-entries.result.now c.loop-place.place c.entries-entries.ensures.value c.entries-entries.ensures.flags c.loop-place-test.false c.loop-place.invariant
