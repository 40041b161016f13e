-- Each tie of what was read has a colour of the world, or none.
use Rattle.std.proofs.Common.{ℕ, suc, Bool, true, false, cond, List, [], ◌∷◌, Option, Some, None}
use Rattle.std.specs.List.{flat_map}
use Rattle.body_handles.specs.declared.slot_table.SlotEntry.{SlotEntry}
use Rattle.contacts_base.proofs.Members.{Each, IsIn, each_append, each_in}
use Rattle.plain_world.specs.declared.constraint.Constraint.{Constraint}
use Rattle.plain_world.specs.declared.constraint.Constraint.TheVariants.{Joint, Contact}
use Rattle.graph_colours.specs.declared.member.Member.{Member}
use Rattle.plain_world.specs.declared.body.Body.{Body}
use Rattle.world_file_base.specs.declared.saved.SavedContact.{SavedContact}
use Rattle.world_file_base.specs.declared.saved.SavedJoint.{SavedJoint}
use Rattle.solver_sets.specs.Ties.{contact_movers, joint_movers, tie_with}
use Rattle.world_file.specs.Fitting.{contact_listed, joint_ties, tie_if_any, tie_read, ties_read}
use Rattle.world_file.specs.Saved.{Saved}
use Rattle.world_file.specs.declared.ties.Tie.{Tie}
use Rattle.world_file.proofs.ReadContacts.{IsColour, IsSavedContact}
use Rattle.world_file.proofs.ReadParts.{HasParts}
use Rattle.world_file.proofs.ReadSlots.{AreSavedSlots}

abbrev HasColour : Tie → Type 0
HasColour t = IsColour t.colour

one_has : (o : Option (Member Constraint)) (colour : Option ℕ) → IsColour colour → Each HasColour (tie_if_any (tie_read o colour))
one_has None colour h = tt
one_has (Some m) colour h = (h, tt)

joints_have : (bodies : List (Option Body)) (slot : ℕ) (ps : List SlotEntry) (os : List (Option SavedJoint)) → AreSavedSlots ps os → Each HasColour (flat_map tie_if_any (joint_ties bodies slot ps os))
joints_have bodies slot [] os are = tt
joints_have bodies slot (p ∷ ps) [] are = absurd are
joints_have bodies slot (p ∷ ps) (None ∷ os) are = joints_have bodies (suc slot) ps os are.1
joints_have bodies slot (p ∷ ps) (Some j ∷ os) are =
    let o : Option (Member Constraint) = tie_with (Joint (record { slot = slot; generation = p.generation })) (joint_movers bodies j.joint) in
    each_append HasColour (tie_if_any (tie_read o j.colour)) (flat_map tie_if_any (joint_ties bodies (suc slot) ps os)) (one_has o j.colour are.0.joint.colour) (joints_have bodies (suc slot) ps os are.1)

contact_has : (t : Bool) (o : Option (Member Constraint)) (colour : Option ℕ) → IsColour colour → Each HasColour (tie_if_any (cond t (tie_read o colour) None))
contact_has true o colour h = one_has o colour h
contact_has false o colour h = tt

contacts_have : (bodies : List (Option Body)) (cs : List SavedContact) → Each IsSavedContact cs → Each HasColour (flat_map (contact_listed bodies) cs)
contacts_have bodies [] all = tt
contacts_have bodies (c ∷ cs) all =
    each_append HasColour (contact_listed bodies c) (flat_map (contact_listed bodies) cs) (contact_has c.touching (tie_with (Contact c.key) (contact_movers bodies c.key)) c.colour all.0.colour) (contacts_have bodies cs all.1)

pub ties_coloured : (s : Saved) → HasParts s → (t : Tie) → IsIn t (ties_read s) → IsColour t.colour
ties_coloured s h t i =
    each_in HasColour t (ties_read s)
    (each_append HasColour (flat_map tie_if_any (joint_ties s.bodies 0 s.joint_entries s.joints)) (flat_map (contact_listed s.bodies) s.contacts) (joints_have s.bodies 0 s.joint_entries s.joints h.joints) (contacts_have s.bodies s.contacts h.contacts))
    i
