use Rattle.world_core.proofs.LoadingLaws.{Parts, contacts_are, made_core, made_same, totals_within}
use Rattle.world_core.proofs.KeepLaws.{named_asleep, told_acting}
use Rattle.world_rules.specs.Sets.{acting_of}
use Rattle.world_core.proofs.Refusals.{handed_on}
use Rattle.world_core.proofs.world.WorldCore.from_plain.Goals as goal

pub load_joints-requires-clause-named : goal.load_joints-requires-clause-named
load_joints-requires-clause-named c = named_asleep c.args.plain.now.bodies (acting_of c.args.plain.now) c.requires.sound.promises.consistent (told_acting c.args.plain.now c.requires.sound.promises.told)

pub list_contacts_asleep-requires : goal.list_contacts_asleep-requires
list_contacts_asleep-requires c = rw (c.bodies.ensures, c.in_ok-bodies.ensures.bodies) (named_asleep c.args.plain.now.bodies (acting_of c.args.plain.now) c.requires.sound.promises.consistent (told_acting c.args.plain.now c.requires.sound.promises.told))

pub load_constraints-requires-clause-contacts : goal.load_constraints-requires-clause-contacts
load_constraints-requires-clause-contacts c = contacts_are c.args.plain.now c.args.totals c.requires.sound

pub from_totals-requires : goal.from_totals-requires
from_totals-requires c = totals_within c.args.plain.now c.args.totals c.requires.sound

pub invariant_of-result : goal.invariant_of-result
invariant_of-result c =
    let p = c.args.plain.now in
    let x : Parts = record {
      slot_entries = c.in_ok-bodies.bodies.handles.slot_entries;
      bodies = c.in_ok-bodies.bodies.table.bodies;
      joint_entries = c.in_ok-joints.joints.handles.slot_entries;
      joints = c.in_ok-joints.joints.table.joints;
      contacts = c.in_ok-constraints.constraints.contacts.contacts;
      acts = c.in_ok-constraints.constraints.sets.acting;
      gravity = c.gravity.result;
      steps = c.steps.result;
      calls = c.calls.result;
      entries = c.from_totals.result.entries;
      settled = c.from_totals.result.settled;
      events = c.new-3.result;
    } in
    made_core p c.args.totals x c.in_ok-bodies.bodies.table.marks c.requires.sound (record {
      places_are = c.in_ok-bodies.ensures.slot_entries;
      bodies_are = c.in_ok-bodies.ensures.bodies;
      joint_places_are = c.in_ok-joints.ensures.slot_entries;
      joints_are = c.in_ok-joints.ensures.joints;
      contacts_are = c.in_ok-constraints.ensures.contacts;
      acts_are = c.in_ok-constraints.ensures.acting;
      gravity_is = c.gravity.ensures;
      steps_are = c.steps.ensures;
      calls_are = c.calls.ensures;
      no_entries = c.from_totals.ensures.entries;
      settled_are = c.from_totals.ensures.settled;
      events_are = c.new-3.ensures;
    })
    c.in_ok-bodies.ensures.all
    c.in_ok-joints.joints.sets (rw (c.in_ok-bodies.ensures.bodies, c.in_ok-joints.ensures.joints) c.in_ok-joints.ensures.sets)
    c.in_ok-constraints.constraints.contacts.numbered c.in_ok-contact_sets.contact_sets (rw (← c.bodies.ensures) c.in_ok-contact_sets.ensures.asleep)

pub returns-clause-made : goal.returns-clause-made
returns-clause-made c =
    let p = c.args.plain.now in
    let x : Parts = record {
      slot_entries = c.in_ok-bodies.bodies.handles.slot_entries;
      bodies = c.in_ok-bodies.bodies.table.bodies;
      joint_entries = c.in_ok-joints.joints.handles.slot_entries;
      joints = c.in_ok-joints.joints.table.joints;
      contacts = c.in_ok-constraints.constraints.contacts.contacts;
      acts = c.in_ok-constraints.constraints.sets.acting;
      gravity = c.gravity.result;
      steps = c.steps.result;
      calls = c.calls.result;
      entries = c.from_totals.result.entries;
      settled = c.from_totals.result.settled;
      events = c.new-3.result;
    } in
    made_same p c.args.totals x c.requires.sound (record {
      places_are = c.in_ok-bodies.ensures.slot_entries;
      bodies_are = c.in_ok-bodies.ensures.bodies;
      joint_places_are = c.in_ok-joints.ensures.slot_entries;
      joints_are = c.in_ok-joints.ensures.joints;
      contacts_are = c.in_ok-constraints.ensures.contacts;
      acts_are = c.in_ok-constraints.ensures.acting;
      gravity_is = c.gravity.ensures;
      steps_are = c.steps.ensures;
      calls_are = c.calls.ensures;
      no_entries = c.from_totals.ensures.entries;
      settled_are = c.from_totals.ensures.settled;
      events_are = c.new-3.ensures;
    })

pub returns-in_err-contact_sets-clause-memory_only : goal.returns-in_err-contact_sets-clause-memory_only
returns-in_err-contact_sets-clause-memory_only c = handed_on c.from_residual-in_err-contact_sets.result c.in_err-contact_sets.field-0.0 (c.from_residual-in_err-contact_sets.ensures).0 (c.from_residual-in_err-contact_sets.ensures).1 c.in_err-contact_sets.ensures.memory_only
