use Rattle.std.proofs.Common.{◌≡◌, ◌<◌, ◌≤◌, refl, get_or, length, Some, None, false, arith, ap, ◌∙◌}
use Rattle.std.proofs.lemmas.List.{get_or_default}
use Rattle.body_handles.specs.declared.slot_table.SlotEntry.{SlotEntry}
use Rattle.solver_sets.specs.Ties.{slots_of}
use Rattle.solver_sets.specs.declared.census.Item.TheVariants as items
use Rattle.solver_sets.specs.Census.{joint_standings, standing_of_joint}
use Rattle.solver_sets.specs.CensusListing.{listed_in, with_all}
use Rattle.solver_sets.proofs.CensusLaws.{named_listed, slot_listed, slot_passed, slots_end}
use Rattle.solver_sets.proofs.census.list_joints.Goals as goal
use Rattle.solver_sets.proofs.census.list_joints.Goals.{in-Some+in_ok-list, in_default}

abbrev nowhere : SlotEntry
nowhere = record { generation = 0; live = false }

pub loop-slot-preserved : goal.loop-slot-preserved
loop-slot-preserved c =
    let slot_entries = c.args.slot_entries.now in
    let bodies = c.args.bodies.now in
    let joints = c.args.joints.now in
    let slot = c.loop-slot.slot in
    let now = c.loop-slot.census in
    let in_places : slot < length slot_entries = omega (arith, c.requires.matched.slots, c.loop-slot-test.true) in
    elim c.match-entry.branch [
      | in-Some+in_ok-list w ↦
          let here : get_or joints slot (Some w.in-Some.joint) ≡ Some w.in-Some.joint = get_or_default joints slot (Some w.in-Some.joint) _ c.loop-slot-test.true ∙ w.in-Some.is in
          let item = items.Joint (record { slot = slot; generation = (get_or slot_entries slot nowhere).generation }) in
          let is : w.list.new.self ≡ listed_in now item (standing_of_joint bodies w.in-Some.joint) = w.in_ok-list.ensures.listed ∙ ap (listed_in now item) w.standing_of_joint.ensures in
          rw (w.census-is, is) (record {
            listed = slot_listed items.Joint (standing_of_joint bodies) slot_entries joints slot nowhere w.in-Some.joint now (listed_in now item (standing_of_joint bodies w.in-Some.joint)) in_places c.loop-slot-test.true here refl ∙ c.loop-slot.invariant.listed;
            named = named_listed now item (standing_of_joint bodies w.in-Some.joint) c.loop-slot.invariant.named;
          })
      | in_default w ↦
          let here : get_or joints slot None ≡ None = get_or_default joints slot None _ c.loop-slot-test.true ∙ w.in_default.is in
          rw w.census-is (record {
            listed = slot_passed items.Joint (standing_of_joint bodies) slot_entries joints slot nowhere now in_places c.loop-slot-test.true here ∙ c.loop-slot.invariant.listed;
            named = c.loop-slot.invariant.named;
          })
    ]

pub returns-clause-listed : goal.returns-clause-listed
returns-clause-listed c =
    let passed : length c.args.slot_entries.now ≤ c.loop-slot.slot = omega (arith, c.requires.matched.slots, c.loop-slot-test.false) in
    slots_end items.Joint (standing_of_joint c.args.bodies.now) c.args.slot_entries.now c.args.joints.now c.loop-slot.slot c.loop-slot.census (with_all c.args.census.now (joint_standings c.args.bodies.now (slots_of c.args.slot_entries.now c.args.joints.now))) passed c.loop-slot.invariant.listed
