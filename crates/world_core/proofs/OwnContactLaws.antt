-- The contacts of a body: those of its two threads of numbers, in the order of their keys.
use Rattle.std.proofs.Common.{◌≡◌, ◌⊎◌, ℕ, ◌++◌, ◌==◌, ◌||◌, Bool, true, false, cond, List, [], ◌∷◌, Option, Some, None, inl, inr, refl, sym, ap, ◌∙◌, subst, eq-eqb, eqb-true, ◌≢◌}
use Rattle.std.specs.Prelude.{filter, map, option_map}
use Rattle.std.specs.List.{filter_map, cons_option}
use Rattle.std.specs.List.Sorted.{IsPermutation}
use Rattle.std.proofs.lemmas.Bool.{false≢true}
use Rattle.std.proofs.lemmas.List.Elements.{filter_map-append}
use Rattle.plain_world.specs.declared.constraint.Constraint.{Constraint}
use Rattle.plain_world.specs.declared.constraint.Constraint.TheVariants.{Contact}
use Rattle.contacts.specs.Ends.{slot_on}
use Rattle.contacts_base.proofs.Members.{IsIn, contains_from_in, in_append, in_from_contains}
use Rattle.std.proofs.lemmas.Option.{same_Some}
use Rattle.contacts.specs.declared.ends.Side.TheVariants.{First, Second}
use Rattle.contacts.specs.declared.number_book.NumberedContact.{NumberedContact}
use Rattle.plain_world.specs.Constraints.{constraint_number}
use Rattle.contacts.specs.Numbered.{AreEndsAt, AreNumbered, key_of, numbered_of}
use Rattle.contacts_base.specs.declared.contact.ContactEntry.{ContactEntry}
use Rattle.contacts_base.specs.declared.key.ContactKey.{ContactKey}
use Rattle.contacts_base.specs.Contacts.{AreKeysRising}
use Rattle.graph_colours.specs.declared.member.Member.{Member}
use Rattle.graph_colours.specs.Members.{AreRising}
use Rattle.packed_sets.specs.Once.{AreOnce}
use Rattle.plain_world.specs.declared.body.Body.{Body}
use Rattle.solver_sets.specs.BesideByTies.{is_tie_of}
use Rattle.solver_sets.specs.Ties.{Bond, JointSlots, contact_bond, is_bond_of, joint_bonds, joint_ties_at, tie_of, ties_at, ties_in, touching_keys}
use Rattle.solver_sets.proofs.BondLaws.{bond_number, contacts_rise}
use Rattle.solver_sets.proofs.ListLaws.{in_mapped, pairs_from_rises, rises_filter}
use Rattle.solver_sets.proofs.TieLaws.{tie_is, tie_number, ties_rise_in}
use Rattle.world_core.specs.WorldTies.{AreOfTwo, all_contact_ties, contact_tie_in, contact_ties_at, kept}
use Rattle.world_core.proofs.ByNumberLaws.{all_told}
use Rattle.world_core.proofs.WorldTieLaws.{two_of, contact_tie, contacts_all, filter_append, on_side, sides_once}

-- the constraint is a contact of the body in the slot
abbrev pub is_contact_of : ℕ → Member Constraint → Bool
is_contact_of slot m = is_tie_of [] slot m.id

-- ---- bonds that pass, and ties that do

front_if : {X : Type 0} (p : X → Bool) (t : Bool) (o : Option X) (xs : List X) → ((x : X) → o ≡ Some x → p x ≡ t) → cond t (cons_option o xs) xs ≡ cons_option (kept p o) xs
front_if p true None xs h = refl
front_if p false None xs h = refl
front_if {X} p t (Some x) xs h = sym (by (p x) t (h x refl))
  where
    by : (s u : Bool) → s ≡ u → cons_option (cond s (Some x) None) xs ≡ cond u (x ∷ xs) xs
    by true true e = refl
    by true false e = absurd (false≢true (sym e))
    by false true e = absurd (false≢true e)
    by false false e = refl

kept_front : {X : Type 0} (p : X → Bool) (o : Option X) (xs : List X) → filter p (cons_option o xs) ≡ cons_option (kept p o) (filter p xs)
kept_front p None xs = refl
kept_front {X} p (Some x) xs = by (p x)
  where
    by : (t : Bool) → cond t (x ∷ filter p xs) (filter p xs) ≡ cons_option (cond t (Some x) None) (filter p xs)
    by true = refl
    by false = refl

taken_if : {B X : Type 0} (f : B → Option X) (t : Bool) (b : B) (bs : List B) → filter_map f (cond t (b ∷ bs) bs) ≡ cond t (cons_option (f b) (filter_map f bs)) (filter_map f bs)
taken_if f true b bs = refl
taken_if f false b bs = refl

-- ---- the contacts of a body

contact_bonds_pass : (bodies : List (Option Body)) (slot : ℕ) (keys : List ContactKey) → ties_in bodies (filter (is_bond_of slot) (map contact_bond keys)) ≡ filter (is_contact_of slot) (ties_in bodies (map contact_bond keys))
contact_bonds_pass bodies slot [] = refl
contact_bonds_pass bodies slot (key ∷ keys) =
    taken_if (tie_of bodies) (is_bond_of slot (contact_bond key)) (contact_bond key) (filter (is_bond_of slot) (map contact_bond keys))
    ∙ front_if (is_contact_of slot) (is_bond_of slot (contact_bond key)) (tie_of bodies (contact_bond key)) (ties_in bodies (filter (is_bond_of slot) (map contact_bond keys))) (λ m e. ap (is_tie_of [] slot) (tie_is bodies (contact_bond key) m e).named)
    ∙ ap (λ (l : List (Member Constraint)). cons_option (kept (is_contact_of slot) (tie_of bodies (contact_bond key))) l) (contact_bonds_pass bodies slot keys)
    ∙ sym (kept_front (is_contact_of slot) (tie_of bodies (contact_bond key)) (ties_in bodies (map contact_bond keys)))

pub own_contacts : (bodies : List (Option Body)) (contacts : List ContactEntry) (slot : ℕ) → contact_ties_at slot bodies contacts ≡ filter (is_contact_of slot) (all_contact_ties bodies contacts)
unfolding contact_ties_at
own_contacts bodies contacts slot = contact_bonds_pass bodies slot (touching_keys contacts)

-- the ties of a body are those of its joints, and then those of its contacts
pub ties_at_are : (bodies : List (Option Body)) (s : JointSlots) (contacts : List ContactEntry) (slot : ℕ) → ties_at slot bodies s contacts ≡ joint_ties_at slot bodies s ++ contact_ties_at slot bodies contacts
unfolding ties_at joint_ties_at contact_ties_at
ties_at_are bodies s contacts slot =
    ap (ties_in bodies) (filter_append (is_bond_of slot) (joint_bonds s) (map contact_bond (touching_keys contacts)))
    ∙ filter_map-append (tie_of bodies) (filter (is_bond_of slot) (joint_bonds s)) (filter (is_bond_of slot) (map contact_bond (touching_keys contacts)))

pub own_contacts_rise : (bodies : List (Option Body)) (contacts : List ContactEntry) (slot : ℕ) → AreKeysRising contacts → AreRising constraint_number (contact_ties_at slot bodies contacts)
unfolding contact_ties_at
own_contacts_rise bodies contacts slot rising =
    let bonds : List Bond = map contact_bond (touching_keys contacts) in
    pairs_from_rises tie_number (ties_in bodies (filter (is_bond_of slot) bonds)) (ties_rise_in bodies (filter (is_bond_of slot) bonds) (rises_filter bond_number (is_bond_of slot) bonds (contacts_rise contacts rising)))

either_slot : (a b slot : ℕ) → ((a == slot) || (b == slot)) ≡ true → (a ≡ slot) ⊎ (b ≡ slot)
either_slot a b slot h = by (a == slot) refl h
  where
    by : (t : Bool) → (a == slot) ≡ t → (t || (b == slot)) ≡ true → (a ≡ slot) ⊎ (b ≡ slot)
    by true e k = inl (eqb-true a slot e)
    by false e k = inr (eqb-true b slot k)

-- those of its two threads of numbers, in whatever order
pub own_told : (bodies : List (Option Body)) (contacts : List ContactEntry) (numbered : List (Option NumberedContact)) (slot : ℕ) (firsts seconds : List ℕ) → AreKeysRising contacts → AreNumbered contacts numbered → AreOfTwo contacts → AreOnce firsts → AreOnce seconds → AreEndsAt First numbered slot firsts → AreEndsAt Second numbered slot seconds
    → IsPermutation (contact_ties_at slot bodies contacts) (filter_map (contact_tie_in bodies numbered) firsts ++ filter_map (contact_tie_in bodies numbered) seconds)
own_told bodies contacts numbered slot firsts seconds rising are two once also on_first on_second =
    let at : ℕ → Option (Member Constraint) = contact_tie_in bodies numbered in
    let all : List (Member Constraint) = all_contact_ties bodies contacts in
    subst (λ (l : List (Member Constraint)). IsPermutation l (filter_map at firsts ++ filter_map at seconds)) (sym (own_contacts bodies contacts slot))
    (subst (λ (l : List (Member Constraint)). IsPermutation (filter (is_contact_of slot) all) l) (filter_map-append at firsts seconds)
    (all_told at all (is_contact_of slot) (firsts ++ seconds) (contacts_all bodies contacts numbered rising are) (sides_once numbered slot firsts seconds (two_of contacts numbered are two) once also on_first on_second)
    (λ n m e q.
    let t = contact_tie bodies numbered n m e in
    let own : is_tie_of [] slot (Contact t.contact.key) ≡ true = ap (is_tie_of [] slot) (sym (tie_is bodies (contact_bond t.contact.key) m t.tie).named) ∙ q in
    on_side numbered slot n firsts seconds t.contact on_first on_second t.at (either_slot t.contact.key.first.slot t.contact.key.second.slot slot own))
    (λ n m k e.
    let t = contact_tie bodies numbered n m e in
    let own : is_tie_of [] slot (Contact t.contact.key) ≡ true = slot_is t.contact.key (elim (in_append n firsts seconds k) [
      | inl h ↦ inl (same_Some t.contact.key.first.slot slot (sym (ap (λ (o : Option NumberedContact). option_map (slot_on First) (key_of o)) t.at) ∙ (on_first n).0 (contains_from_in firsts n h)))
      | inr h ↦ inr (same_Some t.contact.key.second.slot slot (sym (ap (λ (o : Option NumberedContact). option_map (slot_on Second) (key_of o)) t.at) ∙ (on_second n).0 (contains_from_in seconds n h)))
    ]) in
    ap (is_tie_of [] slot) (tie_is bodies (contact_bond t.contact.key) m t.tie).named ∙ own)))
  where
    or_true : (t : Bool) → (t || true) ≡ true
    or_true true = refl
    or_true false = refl

    slot_is : (key : ContactKey) → (key.first.slot ≡ slot) ⊎ (key.second.slot ≡ slot) → is_tie_of [] slot (Contact key) ≡ true
    slot_is key h = elim h [
      | inl e ↦ ap (λ (t : Bool). t || (key.second.slot == slot)) (eq-eqb key.first.slot slot e)
      | inr e ↦ ap (λ (t : Bool). (key.first.slot == slot) || t) (eq-eqb key.second.slot slot e) ∙ or_true (key.first.slot == slot)
    ]
