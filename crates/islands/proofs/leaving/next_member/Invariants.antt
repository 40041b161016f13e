use Rattle.std.proofs.Common.{◌≡◌, ◌<◌, ◌≤◌, ℕ, false}
use Rattle.islands.specs.Packed.{by_slot, in_part, note_at}
use Rattle.islands.proofs.leaving.next_member.Given as goal

abbrev pub invariant-loop-slot : goal.invariant-loop-slot
invariant-loop-slot l = (t : ℕ) → l.from ≤ t → t < l.slot → in_part l.part (note_at (by_slot l.node_entries l.notes) t) ≡ false
