-- The ties of what was read are those of the world that is made of it.
use Rattle.std.proofs.Common.{◌≡◌, ℕ, suc, ◌++◌, Bool, true, false, cond, List, [], ◌∷◌, map, filter, Option, Some, None, refl, sym, ap, ap₂, ◌∙◌, subst}
use Rattle.std.specs.List.{cons_option, flat_map}
use Rattle.std.proofs.lemmas.List.Elements.{filter_map-append}
use Rattle.body_handles.specs.declared.slot_table.SlotEntry.{SlotEntry}
use Rattle.contacts_base.proofs.Members.{Each}
use Rattle.plain_world.specs.declared.constraint.Constraint.{Constraint}
use Rattle.plain_world.specs.declared.constraint.Constraint.TheVariants.{Joint, Contact}
use Rattle.contacts_base.specs.Evaluate.{touches}
use Rattle.contacts_base.specs.declared.contact.ContactEntry.{ContactEntry}
use Rattle.graph_colours.specs.declared.member.Member.{Member}
use Rattle.plain_world.specs.declared.body.Body.{Body}
use Rattle.world_file_base.specs.declared.saved.SavedContact.{SavedContact}
use Rattle.world_file_base.specs.declared.saved.SavedJoint.{SavedJoint}
use Rattle.solver_sets.specs.Ties as sets
use Rattle.solver_sets.specs.Ties.{contact_bond, contact_movers, joint_bonds_from, joint_movers, slots_of, tie_with, touching_keys}
use Rattle.world_file.specs.Fitting.{contact_listed, entry_read, joint_kept, joint_ties, tie_if_any, members_among, tie_read, ties_read}
use Rattle.world_file.specs.Saved.{Saved}
use Rattle.world_file.specs.declared.ties.Tie.{Tie}

one_put : (o : Option (Member Constraint)) (colour : Option ℕ) (xs : List Tie) (ms : List (Member Constraint)) → members_among xs ≡ ms → members_among (tie_if_any (tie_read o colour) ++ xs) ≡ cons_option o ms
one_put None colour xs ms e = e
one_put (Some m) colour xs ms e = ap (λ (l : List (Member Constraint)). m ∷ l) e

joint_ties_are : (bodies : List (Option Body)) (slot : ℕ) (slot_entries : List SlotEntry) (joints : List (Option SavedJoint)) → members_among (flat_map tie_if_any (joint_ties bodies slot slot_entries joints)) ≡ sets.ties_in bodies (joint_bonds_from slot slot_entries (map joint_kept joints))
joint_ties_are bodies slot [] joints = refl
joint_ties_are bodies slot (p ∷ ps) [] = refl
joint_ties_are bodies slot (p ∷ ps) (None ∷ joints) = joint_ties_are bodies (suc slot) ps joints
joint_ties_are bodies slot (p ∷ ps) (Some j ∷ joints) =
    one_put (tie_with (Joint (record { slot = slot; generation = p.generation })) (joint_movers bodies j.joint)) j.colour (flat_map tie_if_any (joint_ties bodies (suc slot) ps joints))
    (sets.ties_in bodies (joint_bonds_from (suc slot) ps (map joint_kept joints))) (joint_ties_are bodies (suc slot) ps joints)

-- a contact touches just if it says so
abbrev pub DoesTouch : SavedContact → Type 0
DoesTouch c = c.touching ≡ touches c.contact

-- the contacts, of which the first is there if it touches
abbrev touching_with : Bool → ContactEntry → List ContactEntry → List ContactEntry
touching_with t e es = cond t (e ∷ filter (λ (x : ContactEntry). touches x.contact) es) (filter (λ (x : ContactEntry). touches x.contact) es)

abbrev ties_with : List (Option Body) → List ContactEntry → List (Member Constraint)
ties_with bodies es = sets.ties_in bodies (map contact_bond (map (λ (x : ContactEntry). x.key) es))

one_contact : (bodies : List (Option Body)) (c : SavedContact) (t : Bool) (xs : List Tie) (es : List ContactEntry) → members_among xs ≡ ties_with bodies (filter (λ (x : ContactEntry). touches x.contact) es)
    → members_among (tie_if_any (cond t (tie_read (tie_with (Contact c.key) (contact_movers bodies c.key)) c.colour) None) ++ xs) ≡ ties_with bodies (touching_with t (entry_read bodies c) es)
one_contact bodies c true xs es e = one_put (tie_with (Contact c.key) (contact_movers bodies c.key)) c.colour xs (ties_with bodies (filter (λ (x : ContactEntry). touches x.contact) es)) e
one_contact bodies c false xs es e = e

contact_ties_are : (bodies : List (Option Body)) (cs : List SavedContact) → Each DoesTouch cs → members_among (flat_map (contact_listed bodies) cs) ≡ sets.ties_in bodies (map contact_bond (touching_keys (map (entry_read bodies) cs)))
contact_ties_are bodies [] all = refl
contact_ties_are bodies (c ∷ cs) all =
    let left : List Tie = contact_listed bodies c ++ flat_map (contact_listed bodies) cs in
    subst (λ (t : Bool). members_among left ≡ ties_with bodies (touching_with t (entry_read bodies c) (map (entry_read bodies) cs))) all.0
    (one_contact bodies c c.touching (flat_map (contact_listed bodies) cs) (map (entry_read bodies) cs) (contact_ties_are bodies cs all.1))

members_append : (xs ys : List Tie) → members_among (xs ++ ys) ≡ members_among xs ++ members_among ys
members_append [] ys = refl
members_append (x ∷ xs) ys = ap (λ (l : List (Member Constraint)). x.member ∷ l) (members_append xs ys)

-- the ties of the world
pub ties_are : (s : Saved) → Each DoesTouch s.contacts → members_among (ties_read s) ≡ sets.ties_of s.bodies (slots_of s.joint_entries (map joint_kept s.joints)) (map (entry_read s.bodies) s.contacts)
unfolding sets.ties_of
ties_are s all =
    let js : List Tie = flat_map tie_if_any (joint_ties s.bodies 0 s.joint_entries s.joints) in
    let cs : List Tie = flat_map (contact_listed s.bodies) s.contacts in
    let first : List sets.Bond = joint_bonds_from 0 s.joint_entries (map joint_kept s.joints) in
    let second : List sets.Bond = map contact_bond (touching_keys (map (entry_read s.bodies) s.contacts)) in
    members_append js cs
    ∙ ap₂ (λ (x y : List (Member Constraint)). x ++ y) (joint_ties_are s.bodies 0 s.joint_entries s.joints) (contact_ties_are s.bodies s.contacts all)
    ∙ sym (filter_map-append (sets.tie_of s.bodies) first second)
