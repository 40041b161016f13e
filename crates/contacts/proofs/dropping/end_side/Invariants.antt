use Rattle.std.proofs.Common.{◌≡◌, ℕ, ◌-◌, List, length, Option, Some}
use Rattle.contacts_base.specs.Split.{Split}
use Rattle.contacts.specs.declared.number_book.NumberedContact.{NumberedContact}
use Rattle.contacts.specs.Dropping.{IsDropping}
use Rattle.contacts.specs.Numbered.{contact_at}
use Rattle.contacts.specs.NumberBooks.{IsBook, gone_of}
use Rattle.contacts.proofs.dropping.end_side.Given as goal

abbrev pub invariant-loop-number : goal.invariant-loop-number
invariant-loop-number l = record {
  book : IsBook l.numbers;
  dropping : (was : Split) (numbered : List (Option NumberedContact)) → IsDropping l.slot was numbered l.fn.contacts l.fn.numbers → IsDropping l.slot was numbered l.contacts l.numbers;
  fewer : (number : ℕ) (c : NumberedContact) → contact_at l.numbers.contacts.items number ≡ Some c → contact_at l.fn.numbers.contacts.items number ≡ Some c;
}

abbrev pub decreases-loop-number : goal.decreases-loop-number
decreases-loop-number l = length l.numbers.contacts.items - length (gone_of l.numbers)
