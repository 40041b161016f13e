use Rattle.std.proofs.Common.{List, refl, sym, subst}
use Rattle.contacts_base.specs.declared.contact.ContactEntry.{ContactEntry}
use Rattle.contacts_base.specs.Split.{contacts_in}
use Rattle.contacts.specs.Numbered.{AreNumbered}
use Rattle.contacts.specs.PendingUpdates.{pending_contacts}
use Rattle.contacts.proofs.NumberChangeLaws.{made_absent}
use Rattle.contacts.proofs.StirringLaws.{held_over}
use Rattle.contacts.proofs.renumber.apply_and_renumber.Goals as goal

pub renumber-requires-clause-absent : goal.renumber-requires-clause-absent
renumber-requires-clause-absent c =
    made_absent (contacts_in c.args.contacts.now) (pending_contacts c.args.pending.now c.args.contacts.now) c.args.pending.now.made.items c.args.pending.now.gone.items c.args.pending.now.begin.items c.args.pending.now.end.items c.args.numbers.now.contacts.items c.requires.numbered c.requires.pending.change

pub returns-else-not-apply_pending-clause-held : goal.returns-else-not-apply_pending-clause-held
returns-else-not-apply_pending-clause-held c = held_over c.args.memory.now.stirring c.args.contacts.now c.apply_pending.new.contacts c.requires.held (c.if-not-apply_pending.ensures.keys refl)

pub returns-then-not-apply_pending-clause-held : goal.returns-then-not-apply_pending-clause-held
returns-then-not-apply_pending-clause-held c = c.invalidate.ensures c.apply_pending.new.contacts

pub returns-else-not-apply_pending-clause-numbered : goal.returns-else-not-apply_pending-clause-numbered
returns-else-not-apply_pending-clause-numbered c =
    subst (λ (es : List ContactEntry). AreNumbered es c.renumber.new.numbers.contacts.items) (sym c.apply_pending.ensures.contacts) (c.renumber.ensures.change (contacts_in c.args.contacts.now) (pending_contacts c.args.pending.now c.args.contacts.now) c.requires.numbered c.requires.pending.change)

pub returns-then-not-apply_pending-clause-numbered : goal.returns-then-not-apply_pending-clause-numbered
returns-then-not-apply_pending-clause-numbered c =
    subst (λ (es : List ContactEntry). AreNumbered es c.renumber.new.numbers.contacts.items) (sym c.apply_pending.ensures.contacts) (c.renumber.ensures.change (contacts_in c.args.contacts.now) (pending_contacts c.args.pending.now c.args.contacts.now) c.requires.numbered c.requires.pending.change)

pub returns-else-not-apply_pending-clause-turnover : goal.returns-else-not-apply_pending-clause-turnover
returns-else-not-apply_pending-clause-turnover c = c.renumber.ensures.turnover (contacts_in c.args.contacts.now) (pending_contacts c.args.pending.now c.args.contacts.now) c.requires.numbered c.requires.pending.change

pub returns-then-not-apply_pending-clause-turnover : goal.returns-then-not-apply_pending-clause-turnover
returns-then-not-apply_pending-clause-turnover c = c.renumber.ensures.turnover (contacts_in c.args.contacts.now) (pending_contacts c.args.pending.now c.args.contacts.now) c.requires.numbered c.requires.pending.change
