use Rattle.std.proofs.Common.{◌≡◌, ◌≤◌, drop, length}
use Rattle.contacts.specs.NumberBooks.{IsBook, gone_of}
use Rattle.contacts.specs.NumberChanges.{HaveGone}
use Rattle.contacts.proofs.number_book.NumberBook.end_all.Given as goal

abbrev pub invariant-loop-left : goal.invariant-loop-left
invariant-loop-left l = HaveGone (drop l.left l.keys) l.fn.self.contacts.items l.self.contacts.items (gone_of l.self) × ((l.self.made.items ≡ l.fn.self.made.items) × (IsBook l.self × (l.left ≤ length l.keys)))

abbrev pub decreases-loop-left : goal.decreases-loop-left
decreases-loop-left l = l.left
