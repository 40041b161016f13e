-- What is of one body among all ties that there are.
use Rattle.std.proofs.Common.{◌≡◌, ℕ, suc, ◌≤◌, ◌==◌, ◌&&◌, ◌||◌, Bool, true, false, cond, List, [], ◌∷◌, ◌++◌, length, map, filter, Option, Some, None, inl, inr, refl, sym, ap, ap₂, ◌∙◌, arith}
use Rattle.std.specs.Prelude.{option_map}
use Rattle.std.specs.List.{filter_map, cons_option}
use Rattle.std.proofs.lemmas.Bool.{false≢true}
use Rattle.std.proofs.lemmas.List.{map-append}
use Rattle.std.proofs.lemmas.List.Elements.{filter_map-append}
use Rattle.body_handles.specs.declared.slot_table.SlotEntry.{SlotEntry}
use Rattle.contacts_base.proofs.Members.{IsIn}
use Rattle.plain_world.specs.declared.constraint.Constraint.{Constraint}
use Rattle.contacts_base.specs.declared.contact.ContactEntry.{ContactEntry}
use Rattle.contacts_base.specs.Evaluate.{touches}
use Rattle.graph_colours.specs.declared.member.Member.{Member}
use Rattle.graph_colours.specs.declared.member.Movers.{Movers}
use Rattle.graph_colours.proofs.PlaceLemmas.{same_from}
use Rattle.plain_world.specs.declared.body.Body.{Body}
use Rattle.plain_world.specs.declared.joint.BodyJoint.{BodyJoint}
use Rattle.plain_world.specs.Bodies.{is_mover, is_mover_in, moves}
use Rattle.plain_world.specs.Kinds.{is_dynamic}
use Rattle.plain_world.specs.Joints.{is_end_in}
use Rattle.plain_world.specs.Slots.{body_at}
use Rattle.solver_sets.specs.Beside.{joined_by, joined_to, mover_at, mover_beside, stirred_by, stirred_if, touched_by, touched_with}
use Rattle.solver_sets.specs.BesideByTies.{first_movers, stirred_among, is_tie_of, ties_among}
use Rattle.solver_sets.specs.Laws as laws
use Rattle.solver_sets.specs.Ties.{Bond, JointSlots, bonds_of, contact_bond, is_bond_of, is_enabled, is_enabled_in, joint_bond, joint_bonds, joint_bonds_from, movers_if, movers_with, tie_of, tie_with, ties_at, ties_in, ties_of, touching_keys}
use Rattle.solver_sets.proofs.BondLaws.{in_bonds}
use Rattle.solver_sets.proofs.ListingLaws.{filter_append}

-- ---- the ties of a body

-- a bond is of the body just if its tie is
abbrev pub IsTold : ℕ → List (Option BodyJoint) → Bond → Type 0
IsTold slot joints b = is_tie_of joints slot b.id ≡ is_bond_of slot b

told : (slot : ℕ) (s : JointSlots) (contacts : List ContactEntry) (b : Bond) → IsIn b (bonds_of s contacts) → IsTold slot s.joints b
told slot s contacts b h = elim (in_bonds s contacts b h) [
  | inl p ↦ rw p.is (ap (is_end_in slot) p.at_joint)
  | inr q ↦ rw q.is refl
]

picked_tie : (q : Constraint → Bool) (id : Constraint) (o : Option Movers) (t : Bool) (rest : List (Member Constraint)) → q id ≡ t
    → filter (λ (m : Member Constraint). q m.id) (cons_option (tie_with id o) rest) ≡ cond t (cons_option (tie_with id o) (filter (λ (m : Member Constraint). q m.id) rest)) (filter (λ (m : Member Constraint). q m.id) rest)
picked_tie q id None true rest e = refl
picked_tie q id None false rest e = refl
picked_tie q id (Some m) t rest e = ap (λ (u : Bool). cond u (record { id = id; movers = m } ∷ filter (λ (x : Member Constraint). q x.id) rest) (filter (λ (x : Member Constraint). q x.id) rest)) e

ties_if : (bodies : List (Option Body)) (b : Bond) (bonds : List Bond) (t : Bool) → ties_in bodies (cond t (b ∷ bonds) bonds) ≡ cond t (cons_option (tie_of bodies b) (ties_in bodies bonds)) (ties_in bodies bonds)
ties_if bodies b bonds true = refl
ties_if bodies b bonds false = refl

picked_in : (slot : ℕ) (bodies : List (Option Body)) (joints : List (Option BodyJoint)) (bonds : List Bond) → ((b : Bond) → IsIn b bonds → IsTold slot joints b)
    → filter (λ (m : Member Constraint). is_tie_of joints slot m.id) (ties_in bodies bonds) ≡ ties_in bodies (filter (is_bond_of slot) bonds)
picked_in slot bodies joints [] say = refl
picked_in slot bodies joints (b ∷ bonds) say =
    let rest = picked_in slot bodies joints bonds (λ c h. say c (inr h)) in
    picked_tie (is_tie_of joints slot) b.id (movers_with bodies b.a b.b) (is_bond_of slot b) (ties_in bodies bonds) (say b (inl refl))
    ∙ ap (λ (l : List (Member Constraint)). cond (is_bond_of slot b) (cons_option (tie_of bodies b) l) l) rest
    ∙ sym (ties_if bodies b (filter (is_bond_of slot) bonds) (is_bond_of slot b))

pub ties_picked : laws.TiesArePicked
unfolding ties_among ties_of ties_at
ties_picked slot bodies s contacts = picked_in slot bodies s.joints (bonds_of s contacts) (told slot s contacts)

-- ---- the movers beside a body that is enabled and no mover

pub if_both : (t u : Bool) → cond t u false ≡ true → t ≡ true
if_both true u e = refl
if_both false u e = cc

pub movers_enabled : (o : Option Body) → is_mover_in o ≡ true → is_enabled_in o ≡ true
movers_enabled None e = cc
movers_enabled (Some b) e = if_both b.enabled (is_dynamic b.kind) e

abbrev first_of : Option (Member Constraint) → Option ℕ
first_of o = option_map (λ (m : Member Constraint). m.movers.first) o

-- of two bodies the first is no mover
second_alone : (ea eb mb : Bool) (a b : ℕ) (id : Constraint) → ea ≡ true → (mb ≡ true → eb ≡ true) → first_of (tie_with id (cond (ea && eb) (movers_if false mb a b) None)) ≡ cond mb (Some b) None
second_alone true true true a b id e h = refl
second_alone true true false a b id e h = refl
second_alone true false true a b id e h = absurd (false≢true (h refl))
second_alone true false false a b id e h = refl
second_alone false eb mb a b id e h = absurd (false≢true e)

first_alone : (ea eb ma : Bool) (a b : ℕ) (id : Constraint) → eb ≡ true → (ma ≡ true → ea ≡ true) → first_of (tie_with id (cond (ea && eb) (movers_if ma false a b) None)) ≡ cond ma (Some a) None
first_alone true true true a b id e h = refl
first_alone true true false a b id e h = refl
first_alone false true true a b id e h = absurd (false≢true (h refl))
first_alone false true false a b id e h = refl
first_alone ea false ma a b id e h = absurd (false≢true e)

beside_by : (bodies : List (Option Body)) (slot a b : ℕ) (id : Constraint) (t u : Bool) → is_enabled bodies slot ≡ true → moves bodies slot ≡ false → (a == slot) ≡ t → (b == slot) ≡ u
    → first_of (cond (t || u) (tie_with id (movers_with bodies a b)) None) ≡ cond t (mover_at bodies b) (cond u (mover_at bodies a) None)
beside_by bodies slot a b id true u on still at_a at_b =
    let same : a ≡ slot = same_from a slot at_a in
    ap (λ (m : Bool). first_of (tie_with id (cond (is_enabled bodies a && is_enabled bodies b) (movers_if m (moves bodies b) a b) None))) (ap (moves bodies) same ∙ still)
    ∙ second_alone (is_enabled bodies a) (is_enabled bodies b) (moves bodies b) a b id (ap (is_enabled bodies) same ∙ on) (movers_enabled (body_at bodies b))
beside_by bodies slot a b id false true on still at_a at_b =
    let same : b ≡ slot = same_from b slot at_b in
    ap (λ (m : Bool). first_of (tie_with id (cond (is_enabled bodies a && is_enabled bodies b) (movers_if (moves bodies a) m a b) None))) (ap (moves bodies) same ∙ still)
    ∙ first_alone (is_enabled bodies a) (is_enabled bodies b) (moves bodies a) a b id (ap (is_enabled bodies) same ∙ on) (movers_enabled (body_at bodies a))
beside_by bodies slot a b id false false on still at_a at_b = refl

firsts : (o : Option (Member Constraint)) (ties : List (Member Constraint)) → first_movers (cons_option o ties) ≡ cons_option (first_of o) (first_movers ties)
firsts None ties = refl
firsts (Some m) ties = refl

ties_if_one : (bodies : List (Option Body)) (b : Bond) (bonds : List Bond) (t : Bool) → ties_in bodies (cond t (b ∷ bonds) bonds) ≡ cons_option (cond t (tie_of bodies b) None) (ties_in bodies bonds)
ties_if_one bodies b bonds true = refl
ties_if_one bodies b bonds false = refl

-- what is beside it by one bond more
next_beside : (bodies : List (Option Body)) (slot : ℕ) (b : Bond) (bonds : List Bond) → is_enabled bodies slot ≡ true → moves bodies slot ≡ false
    → first_movers (ties_in bodies (filter (is_bond_of slot) (b ∷ bonds))) ≡ cons_option (mover_beside bodies slot b.a b.b) (first_movers (ties_in bodies (filter (is_bond_of slot) bonds)))
next_beside bodies slot b bonds on still =
    let rest : List (Member Constraint) = ties_in bodies (filter (is_bond_of slot) bonds) in
    ap first_movers (ties_if_one bodies b (filter (is_bond_of slot) bonds) (is_bond_of slot b))
    ∙ firsts (cond (is_bond_of slot b) (tie_of bodies b) None) rest
    ∙ ap (λ (o : Option ℕ). cons_option o (first_movers rest)) (beside_by bodies slot b.a b.b b.id (b.a == slot) (b.b == slot) on still refl refl)

joined_beside : (bodies : List (Option Body)) (slot n : ℕ) (slot_entries : List SlotEntry) (joints : List (Option BodyJoint)) → is_enabled bodies slot ≡ true → moves bodies slot ≡ false → length joints ≤ length slot_entries
    → first_movers (ties_in bodies (filter (is_bond_of slot) (joint_bonds_from n slot_entries joints))) ≡ filter_map (joined_by bodies slot) joints
joined_beside bodies slot n [] [] on still le = refl
joined_beside bodies slot n [] (o ∷ joints) on still le = absurd (omega (arith, le))
joined_beside bodies slot n (p ∷ slot_entries) [] on still le = refl
joined_beside bodies slot n (p ∷ slot_entries) (None ∷ joints) on still le = joined_beside bodies slot (suc n) slot_entries joints on still (omega (arith, le))
joined_beside bodies slot n (p ∷ slot_entries) (Some j ∷ joints) on still le =
    next_beside bodies slot (joint_bond (record { slot = n; generation = p.generation }) j) (joint_bonds_from (suc n) slot_entries joints) on still
    ∙ ap (λ (l : List ℕ). cons_option (mover_beside bodies slot j.a j.b) l) (joined_beside bodies slot (suc n) slot_entries joints on still (omega (arith, le)))

touched_next : (bodies : List (Option Body)) (slot : ℕ) (e : ContactEntry) (es : List ContactEntry) (t : Bool) (found : List ℕ) → is_enabled bodies slot ≡ true → moves bodies slot ≡ false
    → first_movers (ties_in bodies (filter (is_bond_of slot) (map contact_bond (map (λ (e : ContactEntry). e.key) es)))) ≡ found
    → first_movers (ties_in bodies (filter (is_bond_of slot) (map contact_bond (map (λ (e : ContactEntry). e.key) (cond t (e ∷ es) es))))) ≡ cons_option (cond t (mover_beside bodies slot e.key.first.slot e.key.second.slot) None) found
touched_next bodies slot e es true found on still rest =
    next_beside bodies slot (contact_bond e.key) (map contact_bond (map (λ (e : ContactEntry). e.key) es)) on still
    ∙ ap (λ (l : List ℕ). cons_option (mover_beside bodies slot e.key.first.slot e.key.second.slot) l) rest
touched_next bodies slot e es false found on still rest = rest

touched_beside : (bodies : List (Option Body)) (slot : ℕ) (contacts : List ContactEntry) → is_enabled bodies slot ≡ true → moves bodies slot ≡ false
    → first_movers (ties_in bodies (filter (is_bond_of slot) (map contact_bond (touching_keys contacts)))) ≡ filter_map (touched_with bodies slot) contacts
touched_beside bodies slot [] on still = refl
touched_beside bodies slot (e ∷ es) on still =
    touched_next bodies slot e (filter (λ (e : ContactEntry). touches e.contact) es) (touches e.contact) (filter_map (touched_with bodies slot) es) on still (touched_beside bodies slot es on still)

beside_picked : (slot : ℕ) (bodies : List (Option Body)) (s : JointSlots) (contacts : List ContactEntry) → length s.joints ≤ length s.slot_entries → is_enabled bodies slot ≡ true → moves bodies slot ≡ false
    → first_movers (ties_at slot bodies s contacts) ≡ joined_to bodies s.joints slot ++ touched_by bodies contacts slot
unfolding ties_at joined_to touched_by
beside_picked slot bodies s contacts le on still =
    let joints : List Bond = filter (is_bond_of slot) (joint_bonds s) in
    let others : List Bond = filter (is_bond_of slot) (map contact_bond (touching_keys contacts)) in
    ap (λ (l : List Bond). first_movers (ties_in bodies l)) (filter_append (is_bond_of slot) (joint_bonds s) (map contact_bond (touching_keys contacts)))
    ∙ ap first_movers (filter_map-append (tie_of bodies) joints others)
    ∙ map-append (λ (m : Member Constraint). m.movers.first) (ties_in bodies joints) (ties_in bodies others)
    ∙ ap₂ (λ (xs ys : List ℕ). xs ++ ys) (joined_beside bodies slot 0 s.slot_entries s.joints on still le) (touched_beside bodies slot contacts on still)

-- ---- whom a change of the body wakes

by_both : (slot : ℕ) (xs ys : List ℕ) (mover enabled : Bool) → (enabled ≡ true → mover ≡ false → xs ≡ ys) → cond mover (slot ∷ []) (cond enabled xs []) ≡ cond mover (slot ∷ []) (cond enabled ys [])
by_both slot xs ys true enabled same = refl
by_both slot xs ys false true same = same refl refl
by_both slot xs ys false false same = refl

stirred_same : (o : Option Body) (slot : ℕ) (xs ys : List ℕ) → (is_enabled_in o ≡ true → is_mover_in o ≡ false → xs ≡ ys) → stirred_if o slot xs ≡ stirred_if o slot ys
stirred_same None slot xs ys same = refl
stirred_same (Some b) slot xs ys same = by_both slot xs ys (is_mover b) b.enabled (λ on still. same on still)

pub stirred_picked : laws.StirredArePicked
unfolding stirred_among stirred_by
stirred_picked slot bodies s contacts matched =
    let le : length s.joints ≤ length s.slot_entries = let e = matched.slots in omega (arith, e) in
    stirred_same (body_at bodies slot) slot (first_movers (ties_among slot s.joints (ties_of bodies s contacts))) (joined_to bodies s.joints slot ++ touched_by bodies contacts slot)
    (λ on still. ap first_movers (ties_picked slot bodies s contacts) ∙ beside_picked slot bodies s contacts le on still)
