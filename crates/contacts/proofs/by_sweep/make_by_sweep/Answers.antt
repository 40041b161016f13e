use Rattle.std.proofs.Common.{◌≡◌, ap, subst, sym, ◌∙◌}
use Rattle.std.specs.List.{All}
use Rattle.std.specs.Prelude.{OnOk}
use Rattle.std.proofs.lemmas.Result.{on_ok_weaker}
use Rattle.contacts_base.specs.declared.contact.ContactEntry.{ContactEntry}
use Rattle.contacts_base.specs.ContactLists.{AreContacts}
use Rattle.contacts_base.specs.Proxies.{IsProxyList}
use Rattle.contacts_base.specs.Split.{Split, contacts_in}
use Rattle.contacts.specs.Known.{IsPairKey}
use Rattle.contacts.specs.NumberChanges.{IsNoted}
use Rattle.contacts.specs.PendingUpdates.{IsPendingUpdate}
use Rattle.contacts.specs.Stirring.{AreHeld}
use Rattle.contacts.proofs.KeptLaws.{noted_between}
use Rattle.contacts.proofs.by_sweep.make_by_sweep.Goals as goal

pub returns-in_err-changes-clause-held : goal.returns-in_err-changes-clause-held
returns-in_err-changes-clause-held g c = subst (AreHeld c.flush.new.memory.stirring) (sym (c.update_contacts.ensures.contacts ∙ c.take_spare-room.ensures)) c.flush.ensures.held

pub returns-clause-held : goal.returns-clause-held
returns-clause-held g c = subst (AreHeld c.flush.new.memory.stirring) (sym (c.update_contacts.ensures.contacts ∙ c.take_spare-room.ensures)) c.flush.ensures.held

pub returns-clause-pending : goal.returns-clause-pending
returns-clause-pending g c =
    let s : Split = c.take_spare-room.new.self in
    let kept : contacts_in s ≡ contacts_in c.args.contacts.now = ap contacts_in c.take_spare-room.ensures ∙ c.flush.ensures.contacts in
    let one : s.long ≡ contacts_in s = ap (λ (t : Split). t.long) c.take_spare-room.ensures ∙ c.in_ok-flush.ensures.one ∙ sym kept in
    let are : AreContacts (contacts_in s) = subst AreContacts one c.know_ascending.ensures.long in
    let found = c.in_ok-changes.ensures in
    let noted : IsNoted (contacts_in s) c.in_ok-changes.changes =
    noted_between (g.F.ForbiddenPairs.pairs c.args.collide.now.forbidden.now) c.gather.new.broad (contacts_in s) s.long c.in_ok-changes.changes (subst IsProxyList (sym c.in_ok-gather.ensures.gathered) c.requires.can.shapes) are
    (subst (All (λ (e : ContactEntry). IsPairKey e.key)) (sym kept) c.requires.can.known.keys) one found.now found.made found.gone found.begin found.end found.made_rising in
    subst (λ (t : Split). OnOk c.note_changes.result (IsPendingUpdate c.note_changes.new.pending t)) (sym c.update_contacts.ensures.contacts) (on_ok_weaker c.note_changes.result (λ pending. pending s are noted) c.note_changes.ensures.pending)
