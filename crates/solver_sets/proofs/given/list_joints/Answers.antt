use Rattle.std.proofs.Common.{◌∙◌, ◌<◌, ◌≤◌, length, false, None, arith}
use Rattle.body_handles.specs.declared.slot_table.SlotEntry.{SlotEntry}
use Rattle.solver_sets.proofs.GivenLaws.{bond_tie_step, bond_ties_end}
use Rattle.solver_sets.proofs.given.list_joints.Goals as goal

abbrev nowhere : SlotEntry
nowhere = record { generation = 0; live = false }

pub loop-index-preserved : goal.loop-index-preserved
loop-index-preserved c =
    let i = c.loop-index.index in
    let short : i < length c.args.joints.now = c.loop-index-test.true in
    let slots = c.requires.slots in
    bond_tie_step c.args.bodies.now i c.args.slot_entries.now c.args.joints.now nowhere None _ c.loop-index.ties.items c.push_some.new.items.items _
    (omega (arith, slots, short)) short c.in_ok-push_some.ensures.pushed c.as_ref.ensures.value c.joint_tie_in.ensures ∙ c.loop-index.invariant

pub returns-clause-ties : goal.returns-clause-ties
returns-clause-ties c =
    let past : length c.args.joints.now ≤ c.loop-index.index = c.loop-index-test.false in
    let slots = c.requires.slots in
    bond_ties_end c.args.bodies.now c.loop-index.index c.args.slot_entries.now c.args.joints.now c.loop-index.ties.items (omega (arith, slots, past)) c.loop-index.invariant
