-- What is pending where nothing is.
use Rattle.std.proofs.Common.{◌≡◌, refl, List, [], map, Option, ap, sym, subst, ◌∙◌}
use Rattle.contacts_base.specs.ContactLists.{AreContacts}
use Rattle.contacts_base.specs.Split.{Split, contacts_in}
use Rattle.contacts.specs.declared.number_book.NumberedContact.{NumberedContact}
use Rattle.contacts.specs.declared.pending_update.PendingUpdate.{PendingUpdate}
use Rattle.contacts_base.specs.ChangedKeys.{AreRising}
use Rattle.contacts.specs.declared.stirring.Stirring.{Stirring}
use Rattle.contacts.specs.PendingUpdates.{IsPendingUpdate, IsNothing, after, pending_contacts, whole_or}
use Rattle.contacts.specs.Stirring.{AreHeld}
use Rattle.contacts.proofs.ChangeOfLaws.{nothing_changes}
use Rattle.contacts_base.proofs.Rising.{increasing_from_rising}

-- where nothing is noted the lists stay as they are
pub nothing_after : (d : PendingUpdate) (s : Split) → IsNothing d → after d s ≡ s
nothing_after d s n = rw (n.notes, n.ends, n.short) refl

-- and so do the contacts
pub nothing_pending : (d : PendingUpdate) (s : Split) → IsNothing d → pending_contacts d s ≡ contacts_in s
nothing_pending d s n = ap (λ (o : Option Split). contacts_in (whole_or o (after d s))) n.whole ∙ ap contacts_in (nothing_after d s n)

-- and that can be carried out
pub nothing_is_pending : (d : PendingUpdate) (s : Split) → IsNothing d → AreContacts (contacts_in s) → IsPendingUpdate d s
nothing_is_pending d s n all = record {
  short = rw n.short (λ x is. cc);
  contacts = subst (λ (t : Split). AreContacts (contacts_in t)) (sym (nothing_after d s n)) all;
  idle = λ h. n;
  change = rw (nothing_pending d s n, n.made, n.gone, n.begin, n.end) (nothing_changes (contacts_in s) all.rising);
  rising = subst (λ (l : List NumberedContact). AreRising (map (λ (c : NumberedContact). c.key) l)) (sym n.made) (increasing_from_rising [] tt);
}

-- the same flags and places hold of the same lists
pub held_again : (s t : Stirring) (c d : Split) → t.flags.items ≡ s.flags.items → t.flagged.items ≡ s.flagged.items → t.holds ≡ s.holds → t.places.items ≡ s.places.items → d ≡ c → AreHeld s c → AreHeld t d
held_again s t c d flags flagged holds places is h = record {
  flagged = rw (flags, flagged) h.flagged;
  places = λ on. rw (flags, is, places) (h.places (sym holds ∙ on));
}
