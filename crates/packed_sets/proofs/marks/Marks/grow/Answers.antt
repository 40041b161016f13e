use Rattle.std.proofs.Common.{rules, arith}
use Rattle.packed_sets.proofs.MarkLaws.{marks_grown}
use Rattle.packed_sets.proofs.marks.Marks.grow.Goals as goal

pub invariant_of-self-2 : goal.invariant_of-self-2
invariant_of-self-2 c = marks_grown c.self.inside.flags.items c.self.inside.slots.items _ _ _ _ c.self.invariant c.in_ok-push.ensures.items (search rules) (omega (arith, c.push_slot.ensures.capacity, c.in_ok-reserve.ensures.ok))
