use Rattle.std.proofs.Common.{◌∷◌, [], ◌++◌, codes, sym}
use Rattle.world_file_base.specs.SavedContacts.{contacts_data}
use Rattle.world_file_base.specs.SavedSlots.{bodies_data, joints_data}
use Rattle.world_file_base.specs.SavedTotals.{totals_data}
use Rattle.world_file_base.specs.Written.{natural, vector_of}
use Rattle.world_file.specs.Files.{contact_colours, joint_colours, value_of, written_version}
use Rattle.saved_text.specs.Tokens.{AddsMembers}
use Rattle.saved_text.proofs.Adding.{members_then, object_added, wrote}
use Rattle.saved_text.proofs.Objects.{world_object}
use Rattle.saved_text.proofs.world.put_world.Goals as goal

pub returns : goal.returns
returns c =
    let p = c.args.plain.now in
    let t = c.args.totals.now in
    let bodies = (codes "bodies", bodies_data p.slot_entries p.bodies p.islands) ∷ [] in
    let calls = (codes "call", natural p.calls) ∷ [] in
    let contacts = (codes "contacts", contacts_data p.contacts (contact_colours p.colours p.contacts)) ∷ [] in
    let gravity = (codes "gravity", vector_of p.gravity) ∷ [] in
    let joints = (codes "joints", joints_data p.slot_entries p.joint_entries p.joints (joint_colours p.colours 0 p.joint_entries)) ∷ [] in
    let ledger = (codes "ledger", totals_data t) ∷ [] in
    let last = (codes "step", natural p.steps) ∷ (codes "version", natural written_version) ∷ [] in
    let call : AddsMembers calls c.put_all_bodies.new.out c.put_members.new.out = rw (sym c.calls.ensures) c.in_ok-put_members.ensures.text in
    let pull : AddsMembers gravity c.put_all_contacts.new.out c.put_members-2.new.out = rw (sym c.gravity.ensures) c.in_ok-put_members-2.ensures.text in
    let step : AddsMembers last c.put_ledger.new.out c.put_members-3.new.out = rw (sym c.steps.ensures) c.in_ok-put_members-3.ensures.text in
    let members =
    members_then bodies (calls ++ (contacts ++ (gravity ++ (joints ++ (ledger ++ last))))) _ _ _ c.in_ok-put_all_bodies.ensures.text
    (members_then calls (contacts ++ (gravity ++ (joints ++ (ledger ++ last)))) _ _ _ call
    (members_then contacts (gravity ++ (joints ++ (ledger ++ last))) _ _ _ c.in_ok-put_all_contacts.ensures.text
    (members_then gravity (joints ++ (ledger ++ last)) _ _ _ pull
    (members_then joints (ledger ++ last) _ _ _ c.in_ok-put_all_joints.ensures.text (members_then ledger last _ _ _ c.in_ok-put_ledger.ensures.text step))))) in
    record {
      text = object_added (bodies ++ (calls ++ (contacts ++ (gravity ++ (joints ++ (ledger ++ last)))))) (value_of p t) _ _ _ _ (world_object p t)
          (wrote _ _ _ _ c.in_ok-begin_object.ensures) members (wrote _ _ _ _ c.in_ok-end_object.ensures);
    }
