use Rattle.std.proofs.Common.{◌∙◌, List, ap, nat_eq}
use Rattle.std.specs.HashMap.{get}
use Rattle.body_handles.specs.declared.slot_table.SlotEntry.{SlotEntry}
use Rattle.contacts_base.specs.declared.contact.ContactEntry.{ContactEntry}
use Rattle.world_file.specs.Taken.{contact_colours_by, joint_colours_by}
use Rattle.world_file.proofs.Numbered.{contacts_numbered, joints_numbered}
use Rattle.world_file.proofs.colours.colours_of.Goals as goal

pub returns-clause-joints : goal.returns-clause-joints
returns-clause-joints c =
    c.in_ok-joints.ensures.value
    ∙ ap (λ (xs : List SlotEntry). joint_colours_by (get nat_eq c.in_ok-by_number.by_number) 0 xs) c.joint_entries.ensures
    ∙ joints_numbered (get nat_eq c.in_ok-by_number.by_number) c.args.plain.now.colours 0 c.args.plain.now.joint_entries c.in_ok-by_number.ensures.colours

pub returns-clause-contacts : goal.returns-clause-contacts
returns-clause-contacts c =
    c.in_ok-contacts.ensures.value
    ∙ ap (λ (xs : List ContactEntry). contact_colours_by (get nat_eq c.in_ok-by_number.by_number) xs) c.contacts.ensures
    ∙ contacts_numbered (get nat_eq c.in_ok-by_number.by_number) c.args.plain.now.colours c.args.plain.now.contacts c.in_ok-by_number.ensures.colours
