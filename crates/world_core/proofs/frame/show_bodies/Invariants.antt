use Rattle.std.proofs.Common.{◌≡◌}
use Rattle.world_core.specs.Frames.{shown_up}
use Rattle.world_core.proofs.frame.show_bodies.Given as goal

abbrev pub invariant-loop-slot : goal.invariant-loop-slot
invariant-loop-slot l = l.shown.items ≡ shown_up l.slot_entries l.bodies l.slot
