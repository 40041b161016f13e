use Rattle.std.proofs.Common.{take}
use Rattle.contacts.specs.NumberBooks.{AreSlotsBelow}
use Rattle.contacts.proofs.number_book.count_slots.Given as goal

abbrev pub invariant-loop-place : goal.invariant-loop-place
invariant-loop-place l = AreSlotsBelow l.count (take l.place l.contacts)
