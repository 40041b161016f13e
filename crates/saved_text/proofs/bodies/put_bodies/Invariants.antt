use Rattle.std.proofs.Common.{drop}
use Rattle.world_file_base.specs.SavedSlots.{body_slots}
use Rattle.saved_text.specs.Tokens.{ItemsLeft}
use Rattle.saved_text.proofs.bodies.put_bodies.Given as goal

abbrev pub invariant-loop-slot : goal.invariant-loop-slot
invariant-loop-slot l = ItemsLeft (body_slots l.slot (drop l.slot l.slot_entries) (drop l.slot l.bodies) l.labels) (body_slots 0 l.slot_entries l.bodies l.labels) l.fn.out l.out
