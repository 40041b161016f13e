use Rattle.std.proofs.Common.{◌≡◌, ◌<◌, arith}
use Rattle.body_handles.specs.declared.slot_table.TheConstants.{MAX_SLOTS}
use Rattle.body_handles.specs.SlotEntries.{lowest, generation_at}
use Rattle.body_handles.proofs.LowestLemmas.{lowest-le-length}
use Rattle.body_handles.proofs.TableLemmas.{IsTable-given, IsLive-given, IsSlotEntry-given}
use Rattle.body_handles.proofs.handles.Handles.insert.Goals as goal

pub invariant_of-self : goal.invariant_of-self
invariant_of-self c =
    let slot_entries = c.self.inside.slot_entries.items in
    let slot : c.lowest_slot-slot.result ≡ lowest slot_entries = cc in
    let below : lowest slot_entries < MAX_SLOTS = omega arith in
    rw (c.give_out.ensures.slot_entries, slot) (IsTable-given slot_entries c.self.invariant.each c.self.invariant.few below)

pub returns-clause-live : goal.returns-clause-live
returns-clause-live c =
    let slot_entries = c.self.inside.slot_entries.items in
    let slot : c.lowest_slot-slot.result ≡ lowest slot_entries = cc in
    let generation : c.generation_at-generation.result ≡ generation_at slot_entries c.lowest_slot-slot.result = cc in
    let within = lowest-le-length slot_entries in
    rw (c.give_out.ensures.slot_entries, generation) (IsLive-given slot_entries c.lowest_slot-slot.result (omega arith))

pub returns-clause-positive : goal.returns-clause-positive
returns-clause-positive c =
    let slot_entries = c.self.inside.slot_entries.items in
    let generation : c.generation_at-generation.result ≡ generation_at slot_entries (lowest slot_entries) = cc in
    rw generation (IsSlotEntry-given slot_entries c.self.invariant.each).positive
