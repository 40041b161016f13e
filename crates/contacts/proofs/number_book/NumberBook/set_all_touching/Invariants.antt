use Rattle.std.proofs.Common.{◌≡◌, ◌≤◌, ℕ, drop, length}
use Rattle.contacts.specs.NumberBooks.{HasRoom, IsBook, bound_of, gone_of}
use Rattle.contacts.specs.NumberChanges.{HaveTouched}
use Rattle.contacts.proofs.number_book.NumberBook.set_all_touching.Given as goal

abbrev pub invariant-loop-left : goal.invariant-loop-left
invariant-loop-left l = HaveTouched (drop l.left l.keys) l.touching l.fn.self.contacts.items l.self.contacts.items
    × ((l.self.made.items ≡ l.fn.self.made.items) × ((gone_of l.self ≡ gone_of l.fn.self) × (IsBook l.self × (((added : ℕ) → bound_of l.self added ≡ bound_of l.fn.self added) × (((added slots : ℕ) → HasRoom added slots l.fn.self → HasRoom added slots l.self) × (l.left ≤ length l.keys))))))

abbrev pub decreases-loop-left : goal.decreases-loop-left
decreases-loop-left l = l.left
