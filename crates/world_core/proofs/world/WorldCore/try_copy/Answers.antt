use Rattle.world_core.proofs.CopyLaws.{copied_whole}
use Rattle.world_core.proofs.WorldSourceLaws.{whole_named}
use Rattle.world_core.specs.contracts.world.WorldCore.{the_view}
use Rattle.world_core.proofs.KnownLaws.{known_as}
use Rattle.world_core.proofs.Refusals.{handed_on}
use Rattle.world_core.proofs.world.WorldCore.try_copy.Goals as goal

pub copy_joint_parts-requires : goal.copy_joint_parts-requires
copy_joint_parts-requires c = whole_named (the_view c.self.inside) c.self.inside.activity.sets.acting c.self.invariant.whole

pub list_contacts_asleep-requires : goal.list_contacts_asleep-requires
list_contacts_asleep-requires c = rw c.bodies.ensures (whole_named (the_view c.self.inside) c.self.inside.activity.sets.acting c.self.invariant.whole)

pub invariant_of-result : goal.invariant_of-result
invariant_of-result c =
    let whole_as = copied_whole
    (record {
      slot_entries = c.in_ok-bodies.bodies.handles.slot_entries;
      bodies = c.in_ok-bodies.bodies.table.bodies;
      joint_entries = c.in_ok-joints.joints.handles.slot_entries;
      joints = c.in_ok-joints.joints.table.joints;
      contacts = c.in_ok-constraints.constraints.contacts.contacts;
      acts = c.in_ok-constraints.constraints.sets.acting;
      gravity = c.self.inside.gravity;
      steps = c.self.inside.steps;
      calls = c.self.inside.calls;
      entries = c.in_ok-records.records.ledger.entries;
      settled = c.in_ok-records.records.ledger.settled;
      events = c.in_ok-records.records.events;
    })
    (record {
      slot_entries = c.self.inside.handles.slot_entries;
      bodies = c.self.inside.activity.bodies.bodies;
      joint_entries = c.self.inside.joint_handles.slot_entries;
      joints = c.self.inside.constraints.joints.joints;
      contacts = c.self.inside.constraints.contacts.contacts;
      acts = c.self.inside.activity.sets.acting;
      gravity = c.self.inside.gravity;
      steps = c.self.inside.steps;
      calls = c.self.inside.calls;
      entries = c.self.inside.ledger.entries;
      settled = c.self.inside.ledger.settled;
      events = c.self.inside.events;
    })
    (λ j. record {
      slot_entries = c.in_ok-bodies.ensures.slot_entries j;
      bodies = c.in_ok-bodies.ensures.bodies j;
      joint_entries = c.in_ok-joints.ensures.slot_entries j;
      joints = c.in_ok-joints.ensures.joints j;
      contacts = c.in_ok-constraints.ensures.contacts j;
      acts = c.in_ok-constraints.ensures.acting j;
      gravity = c.self.inside.gravity;
      steps = c.self.inside.steps;
      calls = c.self.inside.calls;
      entries = c.in_ok-records.ensures.entries j;
      settled = c.in_ok-records.ensures.settled j;
      events = c.in_ok-records.ensures.events j;
    }) in
    record {
      whole = whole_as c.self.invariant.whole;
      known = known_as _ _ _ _ _ _ _ _ c.self.invariant.known c.in_ok-bodies.ensures.marks c.in_ok-bodies.ensures.bodies c.in_ok-joints.ensures.joints c.in_ok-constraints.ensures.contacts;
      standing = rw (c.in_ok-bodies.ensures.bodies, c.in_ok-joints.ensures.joints) c.in_ok-joints.ensures.sets;
      contacts_standing = rw (c.in_ok-bodies.ensures.bodies, ← c.bodies.ensures) c.in_ok-contact_sets.ensures.asleep;
    }

pub returns-in_err-contact_sets-clause-memory_only : goal.returns-in_err-contact_sets-clause-memory_only
returns-in_err-contact_sets-clause-memory_only c = handed_on c.from_residual-in_err-contact_sets.result c.in_err-contact_sets.field-0.0 (c.from_residual-in_err-contact_sets.ensures).0 (c.from_residual-in_err-contact_sets.ensures).1 c.in_err-contact_sets.ensures.memory_only
