-- What hangs on a body's joints is told by its own joints' slots: those of others are passed over.
use Rattle.std.proofs.Common.{◌≡◌, ◌≢◌, ℕ, suc, ◌+◌, ◌<◌, ◌≤◌, ◌==◌, Bool, true, false, cond, List, [], ◌∷◌, length, map, drop, filter, get_or, Option, Some, None, refl, sym, ap, ◌∙◌, arith}
use Rattle.std.specs.Prelude.{slice_get}
use Rattle.std.specs.List.{All, filter_map, cons_option}
use Rattle.std.proofs.lemmas.List.{drop_all}
use Rattle.graph_colours.specs.declared.member.Member.{Member}
use Rattle.graph_colours.proofs.Cases.{by_test, or_left, or_right}
use Rattle.body_handles.specs.declared.handle.Handle.{Handle}
use Rattle.body_handles.specs.declared.slot_table.SlotEntry.{SlotEntry}
use Rattle.body_handles.specs.SlotEntries.{generation_of}
use Rattle.plain_world.specs.declared.constraint.Constraint.{Constraint}
use Rattle.contacts_base.proofs.Members.{Each, all_from_each}
use Rattle.plain_world.specs.declared.body.Body.{Body}
use Rattle.plain_world.specs.declared.joint.BodyJoint.{BodyJoint}
use Rattle.plain_world.specs.Joints.{is_end_in, is_joint_of, joint_at}
use Rattle.solver_sets.specs.Beside.{joined_by, joined_to}
use Rattle.solver_sets.specs.Joining.{handle_at, unjoined, unjoined_all, unjoined_if, unjoined_up}
use Rattle.solver_sets.specs.Ties.{Bond, JointSlots, bond_before, is_bond_of, joint_bond, joint_bonds_from, joint_ties_at, slots_of, tie_of, ties_in}
use Rattle.solver_sets.specs.BesideByTies.{joint_tie_of}
use Rattle.solver_sets.proofs.SlotLemmas.{item_at-set_other}
use Rattle.solver_sets.proofs.ListingLaws.{drop_is}
use Rattle.world_core_base.specs.JointTables.{own_from, own_slots}

-- ---- all slots are below the joints' end

below_passed : (n b : ℕ) (t : Bool) (ys : List ℕ) → n < b → Each (λ (y : ℕ). y < b) ys → Each (λ (y : ℕ). y < b) (cond t (n ∷ ys) ys)
below_passed n b true ys lt h = (lt, h)
below_passed n b false ys lt h = h

own_below_from : (body n b : ℕ) (joints : List (Option BodyJoint)) → n + length joints ≤ b → Each (λ (y : ℕ). y < b) (own_from body n joints)
own_below_from body n b [] le = tt
own_below_from body n b (o ∷ joints) le = below_passed n b (is_end_in body o) (own_from body (suc n) joints) (omega (arith, le)) (own_below_from body (suc n) b joints (omega (arith, le)))

pub own_below : (body : ℕ) (joints : List (Option BodyJoint)) (slots : List ℕ) → slots ≡ own_slots body joints → (place : ℕ) (d : ℕ) → place < length slots → get_or slots place d < length joints
unfolding own_slots
own_below body joints slots is place d lt =
    let each : Each (λ (y : ℕ). y < length joints) slots = rw is (own_below_from body 0 (length joints) joints (omega arith)) in
    let all : All (λ (y : ℕ). y < length joints) slots = all_from_each (λ (y : ℕ). y < length joints) slots each in
    all place d lt

-- ---- lists that go on

later : {X : Type 0} (f g : ℕ → X) (n : ℕ) → ((m : ℕ) → f (n + m) ≡ g m) → (m : ℕ) → f (suc n + m) ≡ g (suc m)
later f g n at m = let e : suc n + m ≡ n + suc m = omega arith in ap f e ∙ at (suc m)

first : {X : Type 0} (f g : ℕ → X) (n : ℕ) → ((m : ℕ) → f (n + m) ≡ g m) → f n ≡ g 0
first f g n at = let e : n ≡ n + 0 = omega arith in ap f e ∙ at 0

-- ---- whom they join

not_joined : (bodies : List (Option Body)) (body : ℕ) (o : Option BodyJoint) → is_end_in body o ≡ false → joined_by bodies body o ≡ None
not_joined bodies body None h = refl
not_joined bodies body (Some j) h = rw (or_left (j.a == body) (j.b == body) h, or_right (j.a == body) (j.b == body) h) refl

joined_step : (f : Option BodyJoint → Option ℕ) (at : ℕ → Option BodyJoint) (n : ℕ) (o : Option BodyJoint) (t : Bool) (slots rest : List ℕ) → at n ≡ o → (t ≡ false → f o ≡ None) → filter_map f (map at slots) ≡ rest → filter_map f (map at (cond t (n ∷ slots) slots)) ≡ cons_option (f o) rest
joined_step f at n o true slots rest here none e = λ i. cons_option (f (here i)) (e i)
joined_step f at n o false slots rest here none e = e ∙ ap (λ (p : Option ℕ). cons_option p rest) (sym (none refl))

joined_from : (bodies : List (Option Body)) (body : ℕ) (at : ℕ → Option BodyJoint) (n : ℕ) (joints : List (Option BodyJoint)) → ((m : ℕ) → at (n + m) ≡ joint_at joints m) → filter_map (joined_by bodies body) (map at (own_from body n joints)) ≡ filter_map (joined_by bodies body) joints
joined_from bodies body at n [] all = refl
joined_from bodies body at n (o ∷ joints) all =
    joined_step (joined_by bodies body) at n o (is_end_in body o) (own_from body (suc n) joints) (filter_map (joined_by bodies body) joints) (first at (joint_at (o ∷ joints)) n all) (not_joined bodies body o)
    (joined_from bodies body at (suc n) joints (later at (joint_at (o ∷ joints)) n all))

pub own_joined : (bodies : List (Option Body)) (joints own : List (Option BodyJoint)) (body : ℕ) (slots : List ℕ) → slots ≡ own_slots body joints → own ≡ map (joint_at joints) slots → joined_to bodies own body ≡ joined_to bodies joints body
unfolding own_slots joined_to
own_joined bodies joints own body slots is made =
    ap (filter_map (joined_by bodies body)) (made ∙ ap (map (joint_at joints)) is) ∙ joined_from bodies body (joint_at joints) 0 joints (λ m. let e : 0 + m ≡ m = omega arith in ap (joint_at joints) e)

-- ---- their ties

not_tied : (bodies : List (Option Body)) (body : ℕ) (h : Handle) (o : Option BodyJoint) → is_end_in body o ≡ false → joint_tie_of bodies body h o ≡ None
not_tied bodies body h None e = refl
not_tied bodies body h (Some j) e = rw e refl

tie_first : (bodies : List (Option Body)) (body : ℕ) (h : Handle) (o : Option BodyJoint) (bonds : List Bond) → ties_in bodies (filter (is_bond_of body) (bond_before h o bonds)) ≡ cons_option (joint_tie_of bodies body h o) (ties_in bodies (filter (is_bond_of body) bonds))
tie_first bodies body h None bonds = refl
tie_first bodies body h (Some j) bonds = by_slot (is_joint_of body j)
  where
    by_slot : (t : Bool) → ties_in bodies (cond t (joint_bond h j ∷ filter (is_bond_of body) bonds) (filter (is_bond_of body) bonds)) ≡ cons_option (cond t (tie_of bodies (joint_bond h j)) None) (ties_in bodies (filter (is_bond_of body) bonds))
    by_slot true = refl
    by_slot false = refl

tie_step : (tie : ℕ → Option (Member Constraint)) (n : ℕ) (o : Option (Member Constraint)) (t : Bool) (slots : List ℕ) (rest : List (Member Constraint)) → tie n ≡ o → (t ≡ false → o ≡ None) → filter_map tie slots ≡ rest → filter_map tie (cond t (n ∷ slots) slots) ≡ cons_option o rest
tie_step tie n o true slots rest here none e = λ i. cons_option (here i) (e i)
tie_step tie n o false slots rest here none e = e ∙ ap (λ (p : Option (Member Constraint)). cons_option p rest) (sym (none refl))

ties_from : (bodies : List (Option Body)) (body : ℕ) (slot_entries : List SlotEntry) (joints : List (Option BodyJoint)) (n : ℕ) (ps : List SlotEntry) (js : List (Option BodyJoint)) → length ps ≡ length js → ((m : ℕ) → slice_get slot_entries (n + m) ≡ slice_get ps m) → ((m : ℕ) → joint_at joints (n + m) ≡ joint_at js m)
    → filter_map (λ k. joint_tie_of bodies body (handle_at slot_entries k) (joint_at joints k)) (own_from body n js) ≡ ties_in bodies (filter (is_bond_of body) (joint_bonds_from n ps js))
ties_from bodies body slot_entries joints n [] [] long at_places at_joints = refl
ties_from bodies body slot_entries joints n (p ∷ ps) [] long at_places at_joints = absurd (omega (arith, long))
ties_from bodies body slot_entries joints n [] (o ∷ js) long at_places at_joints = absurd (omega (arith, long))
ties_from bodies body slot_entries joints n (p ∷ ps) (o ∷ js) long at_places at_joints =
    let h : Handle = record { slot = n; generation = p.generation } in
    let handle : handle_at slot_entries n ≡ h = ap (λ (q : Option SlotEntry). record { slot = n; generation = generation_of q }) (first (slice_get slot_entries) (slice_get (p ∷ ps)) n at_places) in
    let here : joint_tie_of bodies body (handle_at slot_entries n) (joint_at joints n) ≡ joint_tie_of bodies body h o = λ i. joint_tie_of bodies body (handle i) (first (joint_at joints) (joint_at (o ∷ js)) n at_joints i) in
    tie_step (λ k. joint_tie_of bodies body (handle_at slot_entries k) (joint_at joints k)) n (joint_tie_of bodies body h o) (is_end_in body o) (own_from body (suc n) js) (ties_in bodies (filter (is_bond_of body) (joint_bonds_from (suc n) ps js))) here (not_tied bodies body h o)
    (ties_from bodies body slot_entries joints (suc n) ps js (omega (arith, long)) (later (slice_get slot_entries) (slice_get (p ∷ ps)) n at_places) (later (joint_at joints) (joint_at (o ∷ js)) n at_joints))
    ∙ sym (tie_first bodies body h o (joint_bonds_from (suc n) ps js))

-- the tie of the joint in a slot
abbrev pub own_tie : List (Option Body) → ℕ → List SlotEntry → List (Option BodyJoint) → ℕ → Option (Member Constraint)
own_tie bodies body slot_entries joints slot = joint_tie_of bodies body (handle_at slot_entries slot) (joint_at joints slot)

pub own_ties : (bodies : List (Option Body)) (body : ℕ) (slot_entries : List SlotEntry) (joints : List (Option BodyJoint)) (slots : List ℕ) → length slot_entries ≡ length joints → slots ≡ own_slots body joints → filter_map (own_tie bodies body slot_entries joints) slots ≡ joint_ties_at body bodies (slots_of slot_entries joints)
unfolding own_slots joint_ties_at
own_ties bodies body slot_entries joints slots long is =
    ap (filter_map (own_tie bodies body slot_entries joints)) is ∙ ties_from bodies body slot_entries joints 0 slot_entries joints long (λ m. let e : 0 + m ≡ m = omega arith in ap (slice_get slot_entries) e) (λ m. let e : 0 + m ≡ m = omega arith in ap (joint_at joints) e)

-- ---- joints that go

abbrev pub unjoined_in : ℕ → List ℕ → JointSlots → JointSlots
unjoined_in body [] s = s
unjoined_in body (slot ∷ slots) s = unjoined_in body slots (unjoined_if body slot s)

unjoined_other : (body slot : ℕ) (s : JointSlots) (k : ℕ) → k ≢ slot → joint_at (unjoined_if body slot s).joints k ≡ joint_at s.joints k
unjoined_other body slot s k ne =
    by_test (λ (r : JointSlots). joint_at r.joints k ≡ joint_at s.joints k) (is_end_in body (joint_at s.joints slot)) (unjoined (handle_at s.slot_entries slot) s) s (λ q. item_at-set_other s.joints slot None k ne) (λ q. refl)

unjoined_step : (body n : ℕ) (o : Option BodyJoint) (s all : JointSlots) (t : Bool) (slots : List ℕ) → joint_at s.joints n ≡ o → is_end_in body o ≡ t → unjoined_in body slots (unjoined_if body n s) ≡ all → unjoined_in body (cond t (n ∷ slots) slots) s ≡ all
unjoined_step body n o s all true slots at q e = e
unjoined_step body n o s all false slots at q e = ap (unjoined_in body slots) (sym (ap (λ (t : Bool). cond t (unjoined (handle_at s.slot_entries n) s) s) (ap (is_end_in body) at ∙ q))) ∙ e

unjoined_from : (body n : ℕ) (s : JointSlots) (joints : List (Option BodyJoint)) → ((m : ℕ) → joint_at (unjoined_up body n s).joints (n + m) ≡ joint_at joints m) → unjoined_in body (own_from body n joints) (unjoined_up body n s) ≡ unjoined_up body (n + length joints) s
unjoined_from body n s [] at = let e : n ≡ n + 0 = omega arith in ap (λ (k : ℕ). unjoined_up body k s) e
unjoined_from body n s (o ∷ joints) at =
    let now : JointSlots = unjoined_up body n s in
    let end : suc n + length joints ≡ n + suc (length joints) = omega arith in
    let beyond : (m : ℕ) → joint_at (unjoined_if body n now).joints (suc n + m) ≡ joint_at joints m = λ m. unjoined_other body n now (suc n + m) (λ e. omega (arith, e)) ∙ later (joint_at now.joints) (joint_at (o ∷ joints)) n at m in
    unjoined_step body n o now (unjoined_up body (n + suc (length joints)) s) (is_end_in body o) (own_from body (suc n) joints) (first (joint_at now.joints) (joint_at (o ∷ joints)) n at) refl
    (unjoined_from body (suc n) s joints beyond ∙ ap (λ (k : ℕ). unjoined_up body k s) end)

pub own_unjoined : (body : ℕ) (s : JointSlots) (slots : List ℕ) → slots ≡ own_slots body s.joints → unjoined_in body slots s ≡ unjoined_all body s
unfolding own_slots
own_unjoined body s slots is =
    let zero_more : (m : ℕ) → 0 + m ≡ m = λ m. omega arith in
    ap (λ (l : List ℕ). unjoined_in body l s) is ∙ unjoined_from body 0 s s.joints (λ m. ap (joint_at s.joints) (zero_more m)) ∙ ap (λ (k : ℕ). unjoined_up body k s) (zero_more (length s.joints))

-- ---- steps of the loops

pub unjoined_next : (body : ℕ) (slots : List ℕ) (old now next : JointSlots) (place : ℕ) → place < length slots → next ≡ unjoined_if body (get_or slots place 0) now
    → unjoined_in body (drop place slots) now ≡ unjoined_in body slots old → unjoined_in body (drop (place + 1) slots) next ≡ unjoined_in body slots old
unjoined_next body slots old now next place lt is so_far =
    ap (unjoined_in body (drop (place + 1) slots)) is ∙ ap (λ (l : List ℕ). unjoined_in body l now) (sym (drop_is slots place 0 lt)) ∙ so_far

pub unjoined_done : (body : ℕ) (slots : List ℕ) (old now : JointSlots) (place : ℕ) → length slots ≤ place → slots ≡ own_slots body old.joints → unjoined_in body (drop place slots) now ≡ unjoined_in body slots old → now ≡ unjoined_all body old
unjoined_done body slots old now place past is so_far = ap (λ (l : List ℕ). unjoined_in body l now) (sym (drop_all place slots past)) ∙ so_far ∙ own_unjoined body old slots is
