use Rattle.std.proofs.Common.{sym}
use Rattle.body_handles.specs.SlotEntries.{is_live}
use Rattle.world_core.proofs.Whole.{named}
use Rattle.world_core.proofs.pushes.momenta_after.Goals as goal

pub pushed-requires : goal.pushed-requires
pushed-requires c = named (is_live c.args.handles.now.slot_entries c.args.handle) c.args.bodies.now c.args.handle.slot c.in-Some.body.now c.requires (sym c.in-Some.ensures)
