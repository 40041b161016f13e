use Rattle.std.proofs.Common.{arith}
use Rattle.body_handles.specs.SlotEntries.{IsLive}
use Rattle.body_handles.proofs.TableLemmas.{IsTable-taken}
use Rattle.body_handles.proofs.GoneLemmas.{gone-taken}
use Rattle.body_handles.proofs.handles.Handles.remove.Goals as goal

pub invariant_of-self : goal.invariant_of-self
invariant_of-self c =
    let live : IsLive c.self.inside.slot_entries.items c.args.handle = rw (← c.self.view_is) at c.requires in
    rw c.take_back.ensures.slot_entries (IsTable-taken _ c.args.handle c.self.inside.first_open _ c.self.invariant live (omega arith) (omega arith))

pub returns-clause-gone : goal.returns-clause-gone
returns-clause-gone c =
    let live : IsLive c.self.inside.slot_entries.items c.args.handle = rw (← c.self.view_is) at c.requires in
    rw c.take_back.ensures.slot_entries (gone-taken c.self.inside.slot_entries.items c.args.handle.slot c.args.handle.generation live)
