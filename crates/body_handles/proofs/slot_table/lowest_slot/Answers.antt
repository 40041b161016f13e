use Rattle.std.proofs.Common.{◌≡◌, get_or, true, false, sym, arith}
use Rattle.std.proofs.lemmas.Grind.{common_steps}
use Rattle.body_handles.specs.SlotEntries.{is_open}
use Rattle.body_handles.proofs.LowestLemmas.{no_slot_entry, lowest-le-length, suc-le-lowest, lowest_at}
use Rattle.body_handles.proofs.slot_table.lowest_slot.Goals as goal

pub returns-then-is_open-clause-value : goal.returns-then-is_open-clause-value
returns-then-is_open-clause-value c =
    let here : is_open (get_or c.args.slot_entries.now c.loop-slot.slot no_slot_entry) ≡ true = grind (arith, common_steps) in
    sym (lowest_at c.args.slot_entries.now c.loop-slot.slot c.loop-slot-test.true c.loop-slot.invariant here)

pub loop-slot-preserved : goal.loop-slot-preserved
loop-slot-preserved c =
    let here : is_open (get_or c.args.slot_entries.now c.loop-slot.slot no_slot_entry) ≡ false = grind (arith, common_steps) in
    suc-le-lowest c.args.slot_entries.now c.loop-slot.slot c.loop-slot-test.true c.loop-slot.invariant here

pub returns-clause-value : goal.returns-clause-value
returns-clause-value c = let within = lowest-le-length c.args.slot_entries.now in omega arith
