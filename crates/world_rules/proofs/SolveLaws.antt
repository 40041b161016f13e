-- What a kept world's step asks of its constraints: none stands twice, and the bodies of each are there.
use Rattle.std.proofs.Common.{◌≡◌, ◌≢◌, ℕ, suc, ◌+◌, ◌^◌, ◌≤◌, ◌==◌, true, cond, List, [], ◌∷◌, ◌++◌, map, get_or, Option, Some, None, All, Contains, refl, sym, ap, ◌∙◌, subst, arith}
use Rattle.std.specs.Prelude.{filter, option_map, slice_get}
use Rattle.std.specs.List.{AllPairs, cons_option, count_by}
use Rattle.std.proofs.lemmas.List.{map-append}
use Rattle.std.proofs.lemmas.List.Elements.{All-append, All-cons, All-contains, All-filter, All-head, All-map, All-nil, All-tail, All-weaker, Contains-get_or}
use Rattle.std.proofs.lemmas.List.Kept.{AllPairs-cons}
use Rattle.std.proofs.lemmas.List.Sums.{sum_by-cons}
use Rattle.std.proofs.lemmas.Option.{same_Some}
use Rattle.body_handles.specs.declared.handle.Handle.{Handle}
use Rattle.body_handles.specs.declared.slot_table.SlotEntry.{SlotEntry}
use Rattle.plain_world.specs.declared.constraint.Constraint.{Constraint}
use Rattle.plain_world.specs.declared.constraint.Constraint.TheVariants.{Contact, Joint}
use Rattle.plain_world.specs.Constraints.{constraint_number}
use Rattle.contacts_base.specs.Evaluate.{touches}
use Rattle.contacts_base.specs.declared.contact.ContactEntry.{ContactEntry}
use Rattle.contacts_base.specs.declared.key.ContactKey.{ContactKey}
use Rattle.graph_colours.specs.declared.member.Member.{Member}
use Rattle.graph_colours.specs.declared.member.Movers.{Movers}
use Rattle.graph_colours.specs.Colours.{all_members, ids_of}
use Rattle.graph_colours.proofs.ListLemmas.{pairs_none}
use Rattle.graph_colours.proofs.PlaceLemmas.{is_same}
use Rattle.plain_world.specs.declared.body.Body.{Body}
use Rattle.plain_world.specs.declared.joint.BodyJoint.{BodyJoint}
use Rattle.plain_world.specs.Joints.{AreJoints, IsBodyJoint, joint_at}
use Rattle.solver_sets.specs.Ties.{Bond, JointSlots, bond_before, bonds_of, contact_bond, joint_bond, joint_bonds, joint_bonds_from, members_of, movers_with, tie_with, ties_in, ties_of, touching_keys}
use Rattle.world_core_base.specs.Solving.{solve_order}
use Rattle.world_core_base.specs.SolvingArrays.{AreOther, AreThere, CanSolve, HasEnds, JointHasEnds}
use Rattle.world_rules.specs.Sets.{acting_of}
use Rattle.world_rules.specs.Sound.{HasBodies}
use Rattle.world_rules.specs.World.{World, joints_in_slots}
use Rattle.world_rules.proofs.SoundLaws.{IsKept}

-- ---- none stands twice

abbrev pub id_of : Member Constraint → Constraint
id_of m = m.id

-- how often a number stands among members
abbrev times : ℕ → List (Member Constraint) → ℕ
times n ms = count_by (λ (m : Member Constraint). constraint_number m.id == n) ms

counted : (n : ℕ) (m : Member Constraint) (ms : List (Member Constraint)) → times n (m ∷ ms) ≡ cond (constraint_number m.id == n) 1 0 + times n ms
counted n m ms = sum_by-cons (λ (x : Member Constraint). cond (constraint_number x.id == n) 1 0) m ms

counted_here : (n : ℕ) (m : Member Constraint) (ms : List (Member Constraint)) → constraint_number m.id ≡ n → times n (m ∷ ms) ≡ 1 + times n ms
counted_here n m ms e =
    let here : (constraint_number m.id == n) ≡ true = is_same (constraint_number m.id) n e in
    counted n m ms ∙ ap (λ t. cond t 1 0 + times n ms) here

-- where a number stands nowhere, each has another
others : (n : ℕ) (ms : List (Member Constraint)) → times n ms ≡ 0 → All (λ c. n ≢ constraint_number c) (map id_of ms)
others n [] none = All-nil (λ c. n ≢ constraint_number c)
others n (m ∷ ms) none =
    let split = counted n m ms in
    All-cons (λ c. n ≢ constraint_number c) m.id (map id_of ms) (λ e. let here = counted_here n m ms (sym e) in omega (arith, here, none)) (others n ms (omega (arith, split, none)))

ids_apart : (ms : List (Member Constraint)) → ((n : ℕ) → times n ms ≤ 1) → AllPairs (λ a b. constraint_number a ≢ constraint_number b) (map id_of ms)
ids_apart [] once = pairs_none (λ a b. constraint_number a ≢ constraint_number b)
ids_apart (m ∷ ms) once =
    let n = constraint_number m.id in
    let here = counted_here n m ms refl in
    let most = once n in
    AllPairs-cons (λ a b. constraint_number a ≢ constraint_number b) m.id (map id_of ms) (others n ms (omega (arith, here, most))) (ids_apart ms (λ k. let split = counted k m ms in let few = once k in omega (arith, split, few)))

-- ---- what is known of a tie

abbrev generation_in : Option SlotEntry → Option ℕ
generation_in o = option_map (λ (p : SlotEntry). p.generation) o

-- a joint has the generation of its slot, and both bodies of a contact are there
abbrev IsGood : List (Option Body) → List SlotEntry → Constraint → Type 0
IsGood bodies slot_entries (Joint h) = generation_in (slice_get slot_entries h.slot) ≡ Some h.generation
IsGood bodies slot_entries (Contact key) = AreThere bodies key.first.slot key.second.slot

-- the same of a joint where the places begin with a slot
record IsOwn (slot : ℕ) (slot_entries : List SlotEntry) (bond : Bond) : Type 0 where
  handle : Handle
  id : bond.id ≡ Joint handle
  place : ℕ
  there : handle.slot ≡ slot + place
  generation : generation_in (slice_get slot_entries place) ≡ Some handle.generation

later : (slot : ℕ) (p : SlotEntry) (slot_entries : List SlotEntry) (bond : Bond) → IsOwn (suc slot) slot_entries bond → IsOwn slot (p ∷ slot_entries) bond
later slot p slot_entries bond h = let t = h.there in record { handle = h.handle; id = h.id; place = suc h.place; there = omega (arith, t); generation = h.generation }

first_own : (slot : ℕ) (p : SlotEntry) (slot_entries : List SlotEntry) (o : Option BodyJoint) (bonds : List Bond) → All (IsOwn slot (p ∷ slot_entries)) bonds → All (IsOwn slot (p ∷ slot_entries)) (bond_before (record { slot = slot; generation = p.generation }) o bonds)
first_own slot p slot_entries None bonds all = all
first_own slot p slot_entries (Some j) bonds all =
    let h : Handle = record { slot = slot; generation = p.generation } in
    All-cons (IsOwn slot (p ∷ slot_entries)) (joint_bond h j) bonds (record { handle = h; id = refl; place = 0; there = omega arith; generation = refl }) all

joints_own : (slot : ℕ) (slot_entries : List SlotEntry) (joints : List (Option BodyJoint)) → All (IsOwn slot slot_entries) (joint_bonds_from slot slot_entries joints)
joints_own slot [] joints = All-nil (IsOwn slot [])
joints_own slot (p ∷ slot_entries) [] = All-nil (IsOwn slot (p ∷ slot_entries))
joints_own slot (p ∷ slot_entries) (o ∷ joints) =
    first_own slot p slot_entries o (joint_bonds_from (suc slot) slot_entries joints)
    (All-weaker (IsOwn (suc slot) slot_entries) (IsOwn slot (p ∷ slot_entries)) (λ bond h. later slot p slot_entries bond h) (joint_bonds_from (suc slot) slot_entries joints) (joints_own (suc slot) slot_entries joints))

own_good : (bodies : List (Option Body)) (slot_entries : List SlotEntry) (bond : Bond) → IsOwn 0 slot_entries bond → IsGood bodies slot_entries bond.id
own_good bodies slot_entries bond h =
    let t = h.there in
    let same : h.place ≡ h.handle.slot = omega (arith, t) in
    subst (IsGood bodies slot_entries) (sym h.id) (ap (λ (n : ℕ). generation_in (slice_get slot_entries n)) (sym same) ∙ h.generation)

abbrev BondIsGood : List (Option Body) → List SlotEntry → Bond → Type 0
BondIsGood bodies slot_entries bond = IsGood bodies slot_entries bond.id

bonds_good : (bodies : List (Option Body)) (js : JointSlots) (contacts : List ContactEntry) → All (HasBodies bodies) contacts → All (BondIsGood bodies js.slot_entries) (bonds_of js contacts)
bonds_good bodies js contacts there =
    let touching : List ContactEntry = filter (λ (e : ContactEntry). touches e.contact) contacts in
    let keys : All (λ (k : ContactKey). AreThere bodies k.first.slot k.second.slot) (touching_keys contacts) =
    All-map (λ (k : ContactKey). AreThere bodies k.first.slot k.second.slot) (λ (e : ContactEntry). e.key) touching
    (All-weaker (HasBodies bodies) (λ (e : ContactEntry). AreThere bodies e.key.first.slot e.key.second.slot) (λ e h. (h.first, h.second)) touching (All-filter (λ (e : ContactEntry). touches e.contact) (HasBodies bodies) contacts there)) in
    All-append (BondIsGood bodies js.slot_entries) (joint_bonds js) (map contact_bond (touching_keys contacts))
    (All-weaker (IsOwn 0 js.slot_entries) (BondIsGood bodies js.slot_entries) (λ bond h. own_good bodies js.slot_entries bond h) (joint_bonds js) (joints_own 0 js.slot_entries js.joints))
    (All-map (BondIsGood bodies js.slot_entries) contact_bond (touching_keys contacts) keys)

abbrev TieIsGood : List (Option Body) → List SlotEntry → Member Constraint → Type 0
TieIsGood bodies slot_entries m = IsGood bodies slot_entries m.id

one_good : (bodies : List (Option Body)) (slot_entries : List SlotEntry) (id : Constraint) (o : Option Movers) (ms : List (Member Constraint)) → IsGood bodies slot_entries id → All (TieIsGood bodies slot_entries) ms → All (TieIsGood bodies slot_entries) (cons_option (tie_with id o) ms)
one_good bodies slot_entries id None ms is all = all
one_good bodies slot_entries id (Some m) ms is all = All-cons (TieIsGood bodies slot_entries) (record { id = id; movers = m }) ms is all

in_good : (bodies : List (Option Body)) (slot_entries : List SlotEntry) (bonds : List Bond) → All (BondIsGood bodies slot_entries) bonds → All (TieIsGood bodies slot_entries) (ties_in bodies bonds)
in_good bodies slot_entries [] all = All-nil (TieIsGood bodies slot_entries)
in_good bodies slot_entries (bond ∷ bonds) all =
    one_good bodies slot_entries bond.id (movers_with bodies bond.a bond.b) (ties_in bodies bonds) (All-head (BondIsGood bodies slot_entries) bond bonds all) (in_good bodies slot_entries bonds (All-tail (BondIsGood bodies slot_entries) bond bonds all))

ties_good : (bodies : List (Option Body)) (js : JointSlots) (contacts : List ContactEntry) → All (HasBodies bodies) contacts → All (TieIsGood bodies js.slot_entries) (ties_of bodies js contacts)
unfolding ties_of
ties_good bodies js contacts there = in_good bodies js.slot_entries (bonds_of js contacts) (bonds_good bodies js contacts there)

-- ---- the constraints that have a colour

abbrev pub coloured : World → List (List (Member Constraint))
coloured w = members_of w.plain.bodies (joints_in_slots w.plain) w.plain.colours

coloured_good : (w : World) → IsKept w → All (TieIsGood w.plain.bodies w.plain.joint_entries) (all_members (coloured w))
unfolding acting_of
coloured_good w k i d lt =
    let m : Member Constraint = get_or (all_members (coloured w)) i d in
    let tie : Contains (ties_of w.plain.bodies (joints_in_slots w.plain) w.plain.contacts) m = ((k.consistent.acting m).0 (Contains-get_or (all_members (coloured w)) i d lt)).0 in
    All-contains (TieIsGood w.plain.bodies w.plain.joint_entries) (ties_of w.plain.bodies (joints_in_slots w.plain) w.plain.contacts) m (ties_good w.plain.bodies (joints_in_slots w.plain) w.plain.contacts k.there) tie

-- joints of different numbers are in different slots
joints_apart : (slot_entries : List SlotEntry) (g h : Handle) → generation_in (slice_get slot_entries g.slot) ≡ Some g.generation → generation_in (slice_get slot_entries h.slot) ≡ Some h.generation → constraint_number (Joint g) ≢ constraint_number (Joint h) → g.slot ≢ h.slot
joints_apart slot_entries g h own_g own_h ne = λ same.
    let both : Some g.generation ≡ Some h.generation = sym own_g ∙ ap (λ (n : ℕ). generation_in (slice_get slot_entries n)) same ∙ own_h in
    let generation : g.generation ≡ h.generation = same_Some g.generation h.generation both in
    ne (λ i. constraint_number (Joint (record { slot = same i; generation = generation i })))

other_of : (bodies : List (Option Body)) (slot_entries : List SlotEntry) (a b : Constraint) → IsGood bodies slot_entries a → IsGood bodies slot_entries b → constraint_number a ≢ constraint_number b → AreOther a b
other_of bodies slot_entries (Joint g) (Joint h) own_g own_h ne = joints_apart slot_entries g h own_g own_h ne
other_of bodies slot_entries (Joint g) (Contact l) own_g own_h ne = tt
other_of bodies slot_entries (Contact key) (Joint h) own_g own_h ne = tt
other_of bodies slot_entries (Contact key) (Contact l) own_g own_h ne = λ e. ne (ap (λ (n : ℕ). 2 ^ 80 + n) e)

all_other : (bodies : List (Option Body)) (slot_entries : List SlotEntry) (ids : List Constraint) → All (IsGood bodies slot_entries) ids → AllPairs (λ a b. constraint_number a ≢ constraint_number b) ids → AllPairs AreOther ids
all_other bodies slot_entries ids good apart = λ i j d lt long. other_of bodies slot_entries (get_or ids i d) (get_or ids j d) (good i d (omega (arith, lt, long))) (good j d long) (apart i j d lt long)

-- ---- both bodies are there

joint_ends : (bodies : List (Option Body)) (joints : List (Option BodyJoint)) (slot : ℕ) (o : Option BodyJoint) → AreJoints bodies joints → joint_at joints slot ≡ o → JointHasEnds bodies o
joint_ends bodies joints slot None are e = tt
joint_ends bodies joints slot (Some j) are e = let is : IsBodyJoint bodies j = are slot j e in (is.first, is.second)

has_ends : (bodies : List (Option Body)) (slot_entries : List SlotEntry) (joints : List (Option BodyJoint)) (id : Constraint) → AreJoints bodies joints → IsGood bodies slot_entries id → HasEnds bodies joints id
has_ends bodies slot_entries joints (Joint h) are good = joint_ends bodies joints h.slot (joint_at joints h.slot) are refl
has_ends bodies slot_entries joints (Contact key) are good = good

-- ---- the solve order

order_ids : (lists : List (List (Member Constraint))) → solve_order (ids_of lists) ≡ map id_of (all_members lists)
order_ids [] = refl
order_ids (ms ∷ lists) = ap (λ (l : List Constraint). map id_of ms ++ l) (order_ids lists) ∙ sym (map-append id_of ms (all_members lists))

-- a step of a kept world can be run in dense arrays
pub can_solve : (w : World) → IsKept w → CanSolve w.plain.bodies w.plain.joints (solve_order w.plain.colours)
unfolding acting_of
can_solve w k =
    let bodies : List (Option Body) = w.plain.bodies in
    let ids : List Constraint = map id_of (all_members (coloured w)) in
    let good : All (IsGood bodies w.plain.joint_entries) ids = All-map (IsGood bodies w.plain.joint_entries) id_of (all_members (coloured w)) (coloured_good w k) in
    let can : CanSolve bodies w.plain.joints ids = record {
      once = all_other bodies w.plain.joint_entries ids good (ids_apart (all_members (coloured w)) k.consistent.colouring.once);
      there = All-weaker (IsGood bodies w.plain.joint_entries) (HasEnds bodies w.plain.joints) (λ id h. has_ends bodies w.plain.joint_entries w.plain.joints id k.joints h) ids good;
    } in
    subst (CanSolve bodies w.plain.joints) (sym (order_ids (coloured w)) ∙ ap solve_order k.moved) can
