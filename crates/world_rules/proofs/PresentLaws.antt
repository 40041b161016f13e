-- The constraints between movers are those of joints that are there, and of contacts that touch.
use Rattle.std.proofs.Common.{◌≡◌, ℕ, zero, suc, ◌+◌, ◌<◌, Bool, true, false, cond, List, [], ◌∷◌, length, get_or, map, Option, Some, None, All, Contains, arith, refl, ap, ◌∙◌}
use Rattle.std.specs.Prelude.{filter, slice_get}
use Rattle.std.specs.List.{cons_option}
use Rattle.std.proofs.lemmas.List.Elements.{All-append, All-cons, All-contains, All-head, All-nil, All-tail}
use Rattle.body_handles.specs.declared.slot_table.SlotEntry.{SlotEntry}
use Rattle.contacts_base.specs.Contacts.{AreKeysRising}
use Rattle.contacts_base.specs.Evaluate.{touches}
use Rattle.contacts_base.specs.declared.contact.ContactEntry.{ContactEntry}
use Rattle.plain_world.specs.declared.constraint.Constraint.{Constraint}
use Rattle.graph_colours.specs.declared.member.Member.{Member}
use Rattle.graph_colours.specs.declared.member.Movers.{Movers}
use Rattle.plain_world.specs.declared.body.Body.{Body}
use Rattle.plain_world.specs.declared.joint.BodyJoint.{BodyJoint}
use Rattle.plain_world.specs.Joints.{joint_at}
use Rattle.solver_sets.specs.Ties.{Bond, JointSlots, bond_before, bonds_of, contact_bond, joint_bond, joint_bonds, joint_bonds_from, movers_with, tie_with, ties_in, ties_of, touching_keys}
use Rattle.world_core_base.specs.StepRuns.{HasContact, IsPresent}
use Rattle.world_core_base.proofs.SolvingContacts.{lookup_there}

abbrev IsThere : List (Option BodyJoint) → List ContactEntry → Bond → Type 0
IsThere joints contacts b = IsPresent joints contacts b.id

abbrev IsThereToo : List (Option BodyJoint) → List ContactEntry → Member Constraint → Type 0
IsThereToo joints contacts m = IsPresent joints contacts m.id

-- ---- joints

one_there : (whole : List (Option BodyJoint)) (contacts : List ContactEntry) (slot generation : ℕ) (o : Option BodyJoint) (bonds : List Bond) → joint_at whole slot ≡ o → All (IsThere whole contacts) bonds → All (IsThere whole contacts) (bond_before (record { slot = slot; generation = generation }) o bonds)
one_there whole contacts slot generation None bonds is all = all
one_there whole contacts slot generation (Some j) bonds is all = All-cons (IsThere whole contacts) (joint_bond (record { slot = slot; generation = generation }) j) bonds (record { joint = j; found = is }) all

joints_there : (whole : List (Option BodyJoint)) (contacts : List ContactEntry) (slot : ℕ) (entries : List SlotEntry) (rest : List (Option BodyJoint)) → ((k : ℕ) → joint_at whole (slot + k) ≡ joint_at rest k) → All (IsThere whole contacts) (joint_bonds_from slot entries rest)
joints_there whole contacts slot [] rest same = All-nil (IsThere whole contacts)
joints_there whole contacts slot (p ∷ entries) [] same = All-nil (IsThere whole contacts)
joints_there whole contacts slot (p ∷ entries) (o ∷ rest) same =
    one_there whole contacts slot p.generation o (joint_bonds_from (suc slot) entries rest) (ap (joint_at whole) (let here : slot ≡ slot + 0 = omega arith in here) ∙ same 0)
    (joints_there whole contacts (suc slot) entries rest (λ k. ap (joint_at whole) (let on : suc slot + k ≡ slot + suc k = omega arith in on) ∙ same (suc k)))

-- ---- contacts

get_there : {X : Type 0} (xs : List X) (i : ℕ) (d : X) → i < length xs → slice_get xs i ≡ Some (get_or xs i d)
get_there [] i d lt = absurd (omega (arith, lt))
get_there (x ∷ xs) zero d lt = refl
get_there (x ∷ xs) (suc i) d lt = get_there xs i d (omega (arith, lt))

touching_if : (whole : List ContactEntry) (t : Bool) (e : ContactEntry) (es : List ContactEntry) → touches e.contact ≡ t → (touches e.contact ≡ true → HasContact whole e.key) → All (λ (x : ContactEntry). HasContact whole x.key) es → All (λ (x : ContactEntry). HasContact whole x.key) (cond t (e ∷ es) es)
touching_if whole true e es is here rest = All-cons (λ (x : ContactEntry). HasContact whole x.key) e es (here is) rest
touching_if whole false e es is here rest = rest

filtered : (whole es : List ContactEntry) → All (λ (x : ContactEntry). touches x.contact ≡ true → HasContact whole x.key) es → All (λ (x : ContactEntry). HasContact whole x.key) (filter (λ (x : ContactEntry). touches x.contact) es)
filtered whole [] all = All-nil (λ (x : ContactEntry). HasContact whole x.key)
filtered whole (e ∷ es) all =
    let P : ContactEntry → Type 0 = λ x. touches x.contact ≡ true → HasContact whole x.key in
    touching_if whole (touches e.contact) e (filter (λ (x : ContactEntry). touches x.contact) es) refl (All-head P e es all) (filtered whole es (All-tail P e es all))

keyed : (joints : List (Option BodyJoint)) (whole es : List ContactEntry) → All (λ (x : ContactEntry). HasContact whole x.key) es → All (IsThere joints whole) (map contact_bond (map (λ (x : ContactEntry). x.key) es))
keyed joints whole [] all = All-nil (IsThere joints whole)
keyed joints whole (e ∷ es) all =
    let P : ContactEntry → Type 0 = λ x. HasContact whole x.key in
    All-cons (IsThere joints whole) (contact_bond e.key) (map contact_bond (map (λ (x : ContactEntry). x.key) es)) (All-head P e es all) (keyed joints whole es (All-tail P e es all))

contacts_there : (joints : List (Option BodyJoint)) (contacts : List ContactEntry) → AreKeysRising contacts → All (IsThere joints contacts) (map contact_bond (touching_keys contacts))
contacts_there joints contacts rising =
    keyed joints contacts (filter (λ (x : ContactEntry). touches x.contact) contacts)
    (filtered contacts contacts (λ i d lt touching. record { entry = get_or contacts i d; found = lookup_there contacts i (get_or contacts i d) rising (get_there contacts i d lt); same = refl; touching = touching }))

-- ---- ties

tied_if : (joints : List (Option BodyJoint)) (contacts : List ContactEntry) (id : Constraint) (o : Option Movers) (ms : List (Member Constraint)) → IsPresent joints contacts id → All (IsThereToo joints contacts) ms → All (IsThereToo joints contacts) (cons_option (tie_with id o) ms)
tied_if joints contacts id None ms here rest = rest
tied_if joints contacts id (Some v) ms here rest = All-cons (IsThereToo joints contacts) (record { id = id; movers = v }) ms here rest

tied : (bodies : List (Option Body)) (joints : List (Option BodyJoint)) (contacts : List ContactEntry) (bonds : List Bond) → All (IsThere joints contacts) bonds → All (IsThereToo joints contacts) (ties_in bodies bonds)
tied bodies joints contacts [] all = All-nil (IsThereToo joints contacts)
tied bodies joints contacts (b ∷ bonds) all =
    tied_if joints contacts b.id (movers_with bodies b.a b.b) (ties_in bodies bonds) (All-head (IsThere joints contacts) b bonds all) (tied bodies joints contacts bonds (All-tail (IsThere joints contacts) b bonds all))

pub tie_present : (bodies : List (Option Body)) (s : JointSlots) (contacts : List ContactEntry) (m : Member Constraint) → AreKeysRising contacts → Contains (ties_of bodies s contacts) m → IsPresent s.joints contacts m.id
unfolding ties_of
tie_present bodies s contacts m rising is =
    let bonds : All (IsThere s.joints contacts) (bonds_of s contacts) =
    All-append (IsThere s.joints contacts) (joint_bonds s) (map contact_bond (touching_keys contacts)) (joints_there s.joints contacts 0 s.slot_entries s.joints (λ k. ap (joint_at s.joints) (let none : 0 + k ≡ k = omega arith in none))) (contacts_there s.joints contacts rising) in
    All-contains (IsThereToo s.joints contacts) (ties_in bodies (bonds_of s contacts)) m (tied bodies s.joints contacts (bonds_of s contacts) bonds) is
