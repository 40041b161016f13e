-- Rows that a part gathers as it walks, one constraint further.
use Rattle.std.proofs.Common.{◌≡◌, ℕ, suc, ◌+◌, ◌<◌, Bool, true, false, cond, List, [], ◌∷◌, ◌++◌, get_or, length, take, Option, Some, arith, refl, sym, ap, ◌∙◌}
use Rattle.std.specs.Prelude.{nat_eq}
use Rattle.std.specs.List.{cons_option, filter_map}
use Rattle.std.proofs.lemmas.List.{take_more}
use Rattle.std.proofs.lemmas.List.Elements.{filter_map-append, filter_more}
use Rattle.momenta.specs.declared.state.BodyState.{BodyState}
use Rattle.graph_colours.specs.declared.member.Member.{Member}
use Rattle.contacts_base.specs.declared.contact.ContactEntry.{ContactEntry}
use Rattle.plain_world.specs.declared.constraint.Constraint.{Constraint}
use Rattle.colour_solver.specs.ConstraintVisits.{constraint_slots}
use Rattle.colour_solver.specs.declared.constraint_row.ConstraintRow.{ConstraintRow}
use Rattle.colour_solver.specs.declared.row_visits.Slots.{Slots}
use Rattle.plain_world.specs.declared.joint.BodyJoint.{BodyJoint}
use Rattle.world_core_base.specs.ConstraintRows.{constraint_row, rows_in}
use Rattle.world_core_base.specs.StepRuns.{ArePresent}
use Rattle.world_core_base.proofs.PresentLaws.{IsRowOf, row_there}
use Rattle.part_runs.specs.Hidden.{owned}
use Rattle.part_runs.proofs.ListLaws.{get_or-mapped}
use Rattle.part_solver.specs.Stages.{slots_in, slots_of}
use Rattle.part_solver.specs.Walking.{own_members, owner_in, owner_of}
use Rattle.part_solver.proofs.NameLaws.{row_stands}

-- one constraint further
pub rows_next : (states : List BodyState) (joints : List (Option BodyJoint)) (contacts : List ContactEntry) (members : List (Member Constraint)) (i : ℕ) (d : Member Constraint) (r : ConstraintRow) → i < length members → constraint_row states joints contacts (get_or members i d).id ≡ Some r
    → rows_in states joints contacts (take (i + 1) members) ≡ rows_in states joints contacts (take i members) ++ r ∷ []
rows_next states joints contacts members i d r lt is =
    let find : Member Constraint → Option ConstraintRow = λ m. constraint_row states joints contacts m.id in
    ap (filter_map find) (take_more members i d lt) ∙ filter_map-append find (take i members) (get_or members i d ∷ []) ∙ ap (λ (o : Option ConstraintRow). filter_map find (take i members) ++ cons_option o []) is

-- the rows of constraints that have one are as many
pub rows_count : (states : List BodyState) (joints : List (Option BodyJoint)) (contacts : List ContactEntry) (members : List (Member Constraint)) → ArePresent joints contacts members → length members ≡ length (rows_in states joints contacts members)
rows_count states joints contacts [] there = refl
rows_count states joints contacts (m ∷ members) there =
    let first : IsRowOf states joints contacts m.id = row_there states joints contacts m.id (there 0 m (omega arith)) in
    let rest = rows_count states joints contacts members (λ k d lt. there (suc k) d (omega (arith, lt))) in
    ap suc rest ∙ ap (λ (o : Option ConstraintRow). length (cons_option o (rows_in states joints contacts members))) (sym first.is)

-- the slots at a place are those of the constraint there
pub slots_there : (joints : List (Option BodyJoint)) (members : List (Member Constraint)) (slots : List Slots) (i : ℕ) (d : Member Constraint) (s : Slots) → i < length members → slots ≡ slots_of joints members → s ≡ get_or slots i s → s ≡ slots_in joints (get_or members i d).id
slots_there joints members slots i d s lt are here =
    here ∙ ap (λ (l : List Slots). get_or l i s) are ∙ get_or-mapped (λ (m : Member Constraint). slots_in joints m.id) members i d s lt

-- and those of the row there
pub slots_here : (states : List BodyState) (joints : List (Option BodyJoint)) (contacts : List ContactEntry) (members : List (Member Constraint)) (slots : List Slots) (i : ℕ) (d : Member Constraint) (s : Slots) (r : ConstraintRow) → i < length members → slots ≡ slots_of joints members → s ≡ get_or slots i s
    → constraint_row states joints contacts (get_or members i d).id ≡ Some r → s ≡ constraint_slots r
slots_here states joints contacts members slots i d s r lt are here is =
    slots_there joints members slots i d s lt are here ∙ sym (row_stands states joints contacts (get_or members i d).id r is)

-- ---- the part's own

-- a constraint further
pub own_next : (states : List BodyState) (home : List ℕ) (coloured : Bool) (k : ℕ) (joints : List (Option BodyJoint)) (members own : List (Member Constraint)) (i : ℕ) (m : Member Constraint) (part : ℕ) → i < length members → m ≡ get_or members i m → part ≡ owner_of states home coloured (slots_in joints (get_or members i m).id)
    → own ≡ own_members states home coloured k joints (take i members) → own ++ cond (nat_eq part k) (m ∷ []) [] ≡ own_members states home coloured k joints (take (i + 1) members)
own_next states home coloured k joints members own i m part lt there is known =
    let so_far : List (Member Constraint) = own_members states home coloured k joints (take i members) in
    ap (λ (l : List (Member Constraint)). l ++ cond (nat_eq part k) (m ∷ []) []) known
    ∙ ap (λ (q : ℕ). so_far ++ cond (nat_eq q k) (m ∷ []) []) is
    ∙ ap (λ (n : Member Constraint). so_far ++ cond (nat_eq (owner_of states home coloured (slots_in joints (get_or members i m).id)) k) (n ∷ []) []) there
    ∙ sym (filter_more (λ (n : Member Constraint). nat_eq (owner_of states home coloured (slots_in joints n.id)) k) members i m lt)

own_if : (states : List BodyState) (joints : List (Option BodyJoint)) (contacts : List ContactEntry) (m : Member Constraint) (own : List (Member Constraint)) (r : ConstraintRow) (rows : List ConstraintRow) (t : Bool) → constraint_row states joints contacts m.id ≡ Some r
    → rows_in states joints contacts own ≡ rows → rows_in states joints contacts (cond t (m ∷ own) own) ≡ cond t (r ∷ rows) rows
own_if states joints contacts m own r rows true is rest = ap (λ (o : Option ConstraintRow). cons_option o (rows_in states joints contacts own)) is ∙ ap (λ (l : List ConstraintRow). r ∷ l) rest
own_if states joints contacts m own r rows false is rest = rest

-- their rows are the part's own rows
pub own_rows : (states : List BodyState) (home : List ℕ) (coloured : Bool) (k : ℕ) (joints : List (Option BodyJoint)) (contacts : List ContactEntry) (members : List (Member Constraint)) → ArePresent joints contacts members
    → rows_in states joints contacts (own_members states home coloured k joints members) ≡ owned (owner_in states home coloured) k (rows_in states joints contacts members)
own_rows states home coloured k joints contacts [] there = refl
own_rows states home coloured k joints contacts (m ∷ members) there =
    let first : IsRowOf states joints contacts m.id = row_there states joints contacts m.id (there 0 m (omega arith)) in
    let rest = own_rows states home coloured k joints contacts members (λ j d lt. there (suc j) d (omega (arith, lt))) in
    let rows : List ConstraintRow = rows_in states joints contacts members in
    let own : List ConstraintRow = owned (owner_in states home coloured) k rows in
    own_if states joints contacts m (own_members states home coloured k joints members) first.row own (nat_eq (owner_of states home coloured (slots_in joints m.id)) k) first.is rest
    ∙ ap (λ (s : Slots). cond (nat_eq (owner_of states home coloured s) k) (first.row ∷ own) own) (sym (row_stands states joints contacts m.id first.row first.is))
    ∙ ap (λ (o : Option ConstraintRow). owned (owner_in states home coloured) k (cons_option o rows)) (sym first.is)
