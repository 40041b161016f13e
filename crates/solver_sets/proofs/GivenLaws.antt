-- What loops over the lists of a plain world make of its constraints.
use Rattle.std.proofs.Common.{◌≡◌, ℕ, ◌+◌, ◌<◌, ◌≤◌, Bool, true, false, cond, List, [], ◌∷◌, ◌++◌, length, drop, get_or, map, filter, Option, Some, None, refl, sym, ap, ◌∙◌, add-one}
use Rattle.std.specs.List.{cons_option, filter_map}
use Rattle.std.specs.Option.{option_to_list}
use Rattle.std.proofs.lemmas.List.{append-nil, append_assoc}
use Rattle.std.proofs.lemmas.List.Elements.{filter_map-append}
use Rattle.body_handles.specs.declared.handle.Handle.{Handle}
use Rattle.body_handles.specs.declared.slot_table.SlotEntry.{SlotEntry}
use Rattle.graph_colours.specs.declared.member.Member.{Member}
use Rattle.plain_world.specs.declared.constraint.Constraint.{Constraint}
use Rattle.plain_world.specs.declared.constraint.Constraint.TheVariants.{Joint, Contact}
use Rattle.contacts_base.specs.declared.contact.ContactEntry.{ContactEntry}
use Rattle.contacts_base.specs.declared.key.ContactKey.{ContactKey}
use Rattle.contacts_base.specs.Evaluate.{touches}
use Rattle.plain_world.specs.declared.body.Body.{Body}
use Rattle.plain_world.specs.declared.joint.BodyJoint.{BodyJoint}
use Rattle.solver_sets.specs.Given.{contact_tie_in, joint_tie_in, joints_alone}
use Rattle.solver_sets.specs.Ties.{Bond, JointSlots, bond_before, contact_bond, joint_bond, joint_bonds, joint_bonds_from, member_of, members_of, slots_of, tie_of, ties_in, ties_of, touching_keys}
use Rattle.solver_sets.proofs.ListingLaws.{cons_is, drop_is, drop_past}

-- ---- ties of joints

pub bond_ties_from : List (Option Body) → ℕ → List SlotEntry → List (Option BodyJoint) → List (Member Constraint)
bond_ties_from bodies n slot_entries joints = ties_in bodies (joint_bonds_from n slot_entries joints)

tie_before : (bodies : List (Option Body)) (h : Handle) (o : Option BodyJoint) (bonds : List Bond) → ties_in bodies (bond_before h o bonds) ≡ option_to_list (joint_tie_in bodies h o) ++ ties_in bodies bonds
tie_before bodies h None bonds = refl
tie_before bodies h (Some j) bonds = cons_is (tie_of bodies (joint_bond h j)) (ties_in bodies bonds)

pub bond_tie_step : (bodies : List (Option Body)) (i : ℕ) (slot_entries : List SlotEntry) (joints : List (Option BodyJoint)) (p : SlotEntry) (d o : Option BodyJoint) (now next : List (Member Constraint)) (tie : Option (Member Constraint))
    → i < length slot_entries → i < length joints → next ≡ now ++ option_to_list tie → o ≡ get_or joints i d → tie ≡ joint_tie_in bodies (record { slot = i; generation = (get_or slot_entries i p).generation }) o
    → next ++ bond_ties_from bodies (i + 1) (drop (i + 1) slot_entries) (drop (i + 1) joints) ≡ now ++ bond_ties_from bodies i (drop i slot_entries) (drop i joints)
unfolding bond_ties_from
bond_tie_step bodies i slot_entries joints p d o now next tie lt short pushed at is =
    let later : List Bond = joint_bonds_from (i + 1) (drop (i + 1) slot_entries) (drop (i + 1) joints) in
    let rest : List (Member Constraint) = ties_in bodies later in
    let h : Handle = record { slot = i; generation = (get_or slot_entries i p).generation } in
    let one : List (Member Constraint) = option_to_list (joint_tie_in bodies h (get_or joints i d)) in
    let split : joint_bonds_from i (drop i slot_entries) (drop i joints) ≡ bond_before h (get_or joints i d) later =
    rw (drop_is slot_entries i p lt, drop_is joints i d short) (ap (λ (k : ℕ). bond_before h (get_or joints i d) (joint_bonds_from k (drop (i + 1) slot_entries) (drop (i + 1) joints))) (sym (add-one i))) in
    let here : ties_in bodies (joint_bonds_from i (drop i slot_entries) (drop i joints)) ≡ one ++ rest = ap (ties_in bodies) split ∙ tie_before bodies h (get_or joints i d) later in
    ap (λ (l : List (Member Constraint)). l ++ rest) (pushed ∙ ap (λ (t : Option (Member Constraint)). now ++ option_to_list t) (is ∙ ap (joint_tie_in bodies h) at))
    ∙ append_assoc now one rest
    ∙ ap (λ (l : List (Member Constraint)). now ++ l) (sym here)

pub bond_ties_end : (bodies : List (Option Body)) (i : ℕ) (slot_entries : List SlotEntry) (joints : List (Option BodyJoint)) (now : List (Member Constraint)) → length slot_entries ≤ i
    → now ++ bond_ties_from bodies i (drop i slot_entries) (drop i joints) ≡ bond_ties_from bodies 0 slot_entries joints → now ≡ ties_in bodies (joint_bonds (slots_of slot_entries joints))
unfolding bond_ties_from
bond_ties_end bodies i slot_entries joints now le e =
    sym (append-nil now)
    ∙ ap (λ (ps : List SlotEntry). now ++ ties_in bodies (joint_bonds_from i ps (drop i joints))) (sym (drop_past slot_entries i le))
    ∙ e

-- ---- ties of contacts

keys_before : (t : Bool) (e : ContactEntry) (es : List ContactEntry) → map (λ (e : ContactEntry). e.key) (cond t (e ∷ es) es) ≡ cond t (e.key ∷ map (λ (e : ContactEntry). e.key) es) (map (λ (e : ContactEntry). e.key) es)
keys_before true e es = refl
keys_before false e es = refl

contact_before : (bodies : List (Option Body)) (t : Bool) (key : ContactKey) (keys : List ContactKey) → ties_in bodies (map contact_bond (cond t (key ∷ keys) keys)) ≡ cons_option (cond t (tie_of bodies (contact_bond key)) None) (ties_in bodies (map contact_bond keys))
contact_before bodies true key keys = refl
contact_before bodies false key keys = refl

contact_ties : (bodies : List (Option Body)) (contacts : List ContactEntry) → ties_in bodies (map contact_bond (touching_keys contacts)) ≡ filter_map (contact_tie_in bodies) contacts
contact_ties bodies [] = refl
contact_ties bodies (e ∷ es) =
    ap (λ (keys : List ContactKey). ties_in bodies (map contact_bond keys)) (keys_before (touches e.contact) e (filter (λ (e : ContactEntry). touches e.contact) es))
    ∙ contact_before bodies (touches e.contact) e.key (touching_keys es)
    ∙ ap (λ (l : List (Member Constraint)). cons_option (contact_tie_in bodies e) l) (contact_ties bodies es)

-- joints by slot, then contacts by key
pub all_ties : (bodies : List (Option Body)) (s : JointSlots) (contacts : List ContactEntry) → ties_in bodies (joint_bonds s) ++ filter_map (contact_tie_in bodies) contacts ≡ ties_of bodies s contacts
unfolding ties_of
all_ties bodies s contacts =
    ap (λ (l : List (Member Constraint)). ties_in bodies (joint_bonds s) ++ l) (sym (contact_ties bodies contacts))
    ∙ sym (filter_map-append (tie_of bodies) (joint_bonds s) (map contact_bond (touching_keys contacts)))

-- ---- members of colours

-- the places of joints say nothing of who is a member
member_alone : (bodies : List (Option Body)) (s : JointSlots) (id : Constraint) → member_of bodies (joints_alone s.joints) id ≡ member_of bodies s id
member_alone bodies s (Joint h) = refl
member_alone bodies s (Contact key) = refl

-- those of a colour
abbrev pub members_alone : List (Option Body) → List (Option BodyJoint) → List Constraint → List (Member Constraint)
members_alone bodies joints ids = filter_map (member_of bodies (joints_alone joints)) ids

all_alone : (bodies : List (Option Body)) (s : JointSlots) (colours : List (List Constraint)) → map (members_alone bodies s.joints) colours ≡ members_of bodies s colours
unfolding members_of
all_alone bodies s colours = λ j. map (filter_map (λ (id : Constraint). member_alone bodies s id j)) colours

pub members_end : (bodies : List (Option Body)) (s : JointSlots) (colours : List (List Constraint)) (i : ℕ) (now : List (List (Member Constraint))) → length colours ≤ i → now ++ map (members_alone bodies s.joints) (drop i colours) ≡ map (members_alone bodies s.joints) colours
    → now ≡ members_of bodies s colours
members_end bodies s colours i now le e =
    sym (append-nil now) ∙ ap (λ (l : List (List Constraint)). now ++ map (members_alone bodies s.joints) l) (sym (drop_past colours i le)) ∙ e ∙ all_alone bodies s colours
