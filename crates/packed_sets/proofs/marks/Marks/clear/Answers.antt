use Rattle.std.proofs.Common.{length, arith}
use Rattle.packed_sets.proofs.MarkLaws.{marks_cleared}
use Rattle.packed_sets.proofs.marks.Marks.clear.Goals as goal

pub invariant_of-self : goal.invariant_of-self
invariant_of-self c =
    marks_cleared (length c.self.inside.flags.items) c.unmark_all.new.flags.items c.clear.new.self.items _ c.unmark_all.ensures c.clear.ensures.items (omega (arith, c.self.invariant.room, c.clear.ensures.capacity))
