use Rattle.std.proofs.Common.{◌≡◌, ◌≤◌, ◌-◌, ℕ, [], length, take}
use Rattle.contacts.specs.NumberBooks.{HasRoom, IsBook, bound_of, gone_of}
use Rattle.contacts.specs.NumberChanges.{HaveMade}
use Rattle.contacts.proofs.number_book.NumberBook.make_all.Given as goal

abbrev pub invariant-loop-place : goal.invariant-loop-place
invariant-loop-place l = HaveMade (take l.place l.contacts) l.fn.self.contacts.items l.self.contacts.items l.self.made.items
    × ((gone_of l.self ≡ []) × ((bound_of l.self (length l.contacts - l.place) ≤ bound_of l.fn.self (length l.contacts)) × (IsBook l.self × ((slots : ℕ) → HasRoom (length l.contacts) slots l.fn.self → HasRoom (length l.contacts - l.place) slots l.self))))
