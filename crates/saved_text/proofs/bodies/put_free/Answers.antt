use Rattle.std.proofs.Common.{[], None}
use Rattle.world_file_base.specs.SavedSlots.{slot_of}
use Rattle.saved_text.proofs.Objects.{free_object}
use Rattle.saved_text.proofs.bodies.put_free.Goals as goal

pub returns : goal.returns
returns c = record { text = c.put_object.ensures.text (slot_of c.args.slot_entry [] None) (free_object c.args.slot_entry) }
