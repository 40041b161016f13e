-- Which constraint a row is of that is gathered, and where its bodies stand.
use Rattle.std.proofs.Common.{◌≡◌, ℕ, zero, suc, ◌+◌, ◌<◌, List, [], ◌∷◌, length, get_or, map, take, Option, Some, None, arith, refl, sym, ap, ◌∙◌, subst}
use Rattle.std.specs.Prelude.{option_map, slice_get, slice_index_or}
use Rattle.std.specs.List.{AllPairs, filter_map}
use Rattle.std.proofs.lemmas.List.{length-map}
use Rattle.std.proofs.lemmas.Option.{none-some, same_Some}
use Rattle.momenta.specs.declared.state.BodyState.{BodyState}
use Rattle.graph_colours.specs.declared.limits.TheConstants.{COLOURS}
use Rattle.graph_colours.specs.declared.member.Member.{Member}
use Rattle.graph_colours.specs.Colours.{ids_of}
use Rattle.contacts_base.specs.Contacts.{lookup}
use Rattle.contacts_base.specs.Keys.{key_number}
use Rattle.contacts_base.specs.declared.key.ContactKey.{ContactKey}
use Rattle.contacts_base.specs.declared.contact.ContactEntry.{ContactEntry}
use Rattle.plain_world.specs.declared.constraint.Constraint.{Constraint}
use Rattle.plain_world.specs.declared.constraint.Constraint.TheVariants as constraints
use Rattle.joint_rows.specs.Rows.{joint_row}
use Rattle.joint_rows.specs.declared.row.JointBodies.{JointBodies}
use Rattle.colour_solver_base.specs.declared.row.Bodies.{Bodies}
use Rattle.colour_solver_base.specs.declared.row.ContactRow.{ContactRow}
use Rattle.colour_solver_base.specs.Rows.{key_of}
use Rattle.colour_solver.specs.ColourRows.{all_rows}
use Rattle.colour_solver.specs.ConstraintVisits.{RowName, constraint_slots, row_name}
use Rattle.colour_solver.specs.declared.constraint_row.ConstraintRow.{ConstraintRow}
use Rattle.colour_solver.specs.declared.constraint_row.ConstraintRow.TheVariants as rows
use Rattle.colour_solver.specs.declared.row_visits.Slots.{Slots}
use Rattle.plain_world.specs.declared.joint.BodyJoint.{BodyJoint}
use Rattle.plain_world.specs.Joints.{joint_at}
use Rattle.world_core_base.specs.ConstraintRows.{constraint_row, joint_bodies, joint_ends, joint_row_in, rows_in, rows_of}
use Rattle.world_core_base.specs.Gather.{bodies_of, ends_at, row_in, row_of}
use Rattle.world_core_base.specs.Solving.{solve_order}
use Rattle.world_core_base.specs.SolvingArrays.{AreOther}
use Rattle.world_core_base.proofs.ColourLists.{joined}
use Rattle.world_core_base.proofs.ContactLaws.{row_bodies, row_is}
use Rattle.world_core_base.proofs.RowColourLaws.{pairs_made}
use Rattle.world_core_base.proofs.SolvingRuns.{begun_rows}
use Rattle.part_runs.proofs.ListLaws.{get_or-mapped}
use Rattle.part_solver.specs.PuttingBack.{AreOtherNames}
use Rattle.part_solver.specs.Stages as stages
use Rattle.part_solver.specs.Stages.{rows_by, slots_in}

-- the row r is of the joint in this slot, or of the contact with this key, and its bodies stand there
record IsOfJoint (slot : ℕ) (s : Slots) (r : ConstraintRow) : Type 0 where
  bodies : JointBodies
  is : row_name r ≡ record { joint = Some bodies; contact = None }
  at : bodies.index ≡ slot
  stand : constraint_slots r ≡ s

record IsOfContact (key : ContactKey) (s : Slots) (r : ConstraintRow) : Type 0 where
  bodies : Bodies
  is : row_name r ≡ record { joint = None; contact = Some bodies }
  at : key_number (key_of bodies) ≡ key_number key
  stand : constraint_slots r ≡ s

abbrev IsOf : List (Option BodyJoint) → Constraint → ConstraintRow → Type 0
IsOf joints (constraints.Joint h) r = IsOfJoint h.slot (slots_in joints (constraints.Joint h)) r
IsOf joints (constraints.Contact key) r = IsOfContact key (slots_in joints (constraints.Contact key)) r

of_joint : (states : List BodyState) (slot : ℕ) (o : Option BodyJoint) (r : ConstraintRow) → option_map rows.Joint (joint_row_in states slot o) ≡ Some r → IsOfJoint slot (stages.joint_ends o) r
unfolding joint_row
of_joint states slot None r e = absurd (none-some r e)
of_joint states slot (Some j) r e =
    let same : rows.Joint (joint_row (joint_bodies slot j) (joint_ends states j) j.joint) ≡ r = same_Some (rows.Joint (joint_row (joint_bodies slot j) (joint_ends states j) j.joint)) r e in
    record { bodies = joint_bodies slot j; is = ap row_name (sym same); at = refl; stand = ap constraint_slots (sym same) }

-- the name of the row of a contact's bodies, and where these stand
abbrev contact_name : Bodies → RowName
contact_name b = record { joint = None; contact = Some b }

abbrev contact_stand : Bodies → Slots
contact_stand b = record { a = b.a; b = b.b }

of_entry : (states : List BodyState) (key : ContactKey) (o : Option ContactEntry) (q : ContactRow) (r : ConstraintRow) → row_in states key o ≡ Some q → rows.Contact q ≡ r → IsOfContact key (record { a = key.first.slot; b = key.second.slot }) r
of_entry states key None q r e is = absurd (cc e)
of_entry states key (Some f) q r e is =
    let here : q.bodies ≡ bodies_of key f.surface = row_bodies (bodies_of key f.surface) (ends_at states key) f.contact q e in
    record {
      bodies = bodies_of key f.surface;
      is = ap row_name (sym is) ∙ ap contact_name here;
      at = refl;
      stand = ap constraint_slots (sym is) ∙ ap contact_stand here;
    }

of_contact : (states : List BodyState) (contacts : List ContactEntry) (key : ContactKey) (o : Option ContactRow) (r : ConstraintRow) → row_of states contacts (constraints.Contact key) ≡ o → option_map rows.Contact o ≡ Some r → IsOfContact key (record { a = key.first.slot; b = key.second.slot }) r
of_contact states contacts key None r is e = absurd (none-some r e)
of_contact states contacts key (Some q) r is e = of_entry states key (lookup contacts key) q r (sym (row_is states contacts key) ∙ is) (same_Some (rows.Contact q) r e)

of_id : (states : List BodyState) (joints : List (Option BodyJoint)) (contacts : List ContactEntry) (id : Constraint) (r : ConstraintRow) → constraint_row states joints contacts id ≡ Some r → IsOf joints id r
of_id states joints contacts (constraints.Joint h) r e = of_joint states h.slot (joint_at joints h.slot) r e
of_id states joints contacts (constraints.Contact key) r e = of_contact states contacts key (row_of states contacts (constraints.Contact key)) r refl e

-- the bodies of a row stand where those of its constraint do
stand_there : (joints : List (Option BodyJoint)) (id : Constraint) (r : ConstraintRow) → IsOf joints id r → constraint_slots r ≡ slots_in joints id
stand_there joints (constraints.Joint h) r is = is.stand
stand_there joints (constraints.Contact key) r is = is.stand

pub row_stands : (states : List BodyState) (joints : List (Option BodyJoint)) (contacts : List ContactEntry) (id : Constraint) (r : ConstraintRow) → constraint_row states joints contacts id ≡ Some r → constraint_slots r ≡ slots_in joints id
row_stands states joints contacts id r e = stand_there joints id r (of_id states joints contacts id r e)

-- ---- rows of different constraints

named : (n m one two : RowName) → n ≡ one → m ≡ two → AreOtherNames one two → AreOtherNames n m
named n m one two is_one is_two other = subst (λ (x : RowName). AreOtherNames x m) (sym is_one) (subst (λ (x : RowName). AreOtherNames one x) (sym is_two) other)

others : (joints : List (Option BodyJoint)) (id other : Constraint) (r q : ConstraintRow) → AreOther id other → IsOf joints id r → IsOf joints other q → AreOtherNames (row_name r) (row_name q)
others joints (constraints.Joint h) (constraints.Joint k) r q apart one two =
    named (row_name r) (row_name q) (record { joint = Some one.bodies; contact = None }) (record { joint = Some two.bodies; contact = None }) one.is two.is ((λ same. apart (sym one.at ∙ same ∙ two.at)), tt)
others joints (constraints.Joint h) (constraints.Contact k) r q apart one two =
    named (row_name r) (row_name q) (record { joint = Some one.bodies; contact = None }) (contact_name two.bodies) one.is two.is (tt, tt)
others joints (constraints.Contact key) (constraints.Joint k) r q apart one two =
    named (row_name r) (row_name q) (contact_name one.bodies) (record { joint = Some two.bodies; contact = None }) one.is two.is (tt, tt)
others joints (constraints.Contact key) (constraints.Contact k) r q apart one two =
    named (row_name r) (row_name q) (contact_name one.bodies) (contact_name two.bodies) one.is two.is (tt, (λ same. apart (sym one.at ∙ same ∙ two.at)))

get_there : {X : Type 0} (xs : List X) (i : ℕ) (d : X) → i < length xs → slice_get xs i ≡ Some (get_or xs i d)
get_there [] i d lt = absurd (omega (arith, lt))
get_there (x ∷ xs) zero d lt = refl
get_there (x ∷ xs) (suc i) d lt = get_there xs i d (omega (arith, lt))

of_mapped : {X Y : Type 0} (P : Y → Y → Type 0) (f : X → Y) (xs : List X) → ((i j : ℕ) (x z : X) → i < j → slice_get xs i ≡ Some x → slice_get xs j ≡ Some z → P (f x) (f z)) → (i j : ℕ) (d : Y) → i < j → j < length xs → P (get_or (map f xs) i d) (get_or (map f xs) j d)
of_mapped P f [] pairs i j d before lt = absurd (omega (arith, lt))
of_mapped {X} {Y} P f (x ∷ xs) pairs i j d before lt =
    let one : get_or (map f (x ∷ xs)) i d ≡ f (get_or (x ∷ xs) i x) = get_or-mapped f (x ∷ xs) i x d (omega (arith, before, lt)) in
    let two : get_or (map f (x ∷ xs)) j d ≡ f (get_or (x ∷ xs) j x) = get_or-mapped f (x ∷ xs) j x d lt in
    subst (λ (y : Y). P y (get_or (map f (x ∷ xs)) j d)) (sym one)
    (subst (λ (y : Y). P (f (get_or (x ∷ xs) i x)) y) (sym two) (pairs i j (get_or (x ∷ xs) i x) (get_or (x ∷ xs) j x) before (get_there (x ∷ xs) i x (omega (arith, before, lt))) (get_there (x ∷ xs) j x lt)))

mapped_pairs : {X Y : Type 0} (P : Y → Y → Type 0) (f : X → Y) (xs : List X) → ((i j : ℕ) (x z : X) → i < j → slice_get xs i ≡ Some x → slice_get xs j ≡ Some z → P (f x) (f z)) → AllPairs P (map f xs)
mapped_pairs {X} P f xs pairs i j d before lt =
    let long : length (map f xs) ≡ length xs = length-map xs f in
    of_mapped P f xs pairs i j d before (omega (arith, lt, long))

-- no two rows that are gathered are of one constraint
pub names_apart : (states : List BodyState) (joints : List (Option BodyJoint)) (contacts : List ContactEntry) (lists : List (List (Member Constraint))) → length lists ≡ COLOURS + 1 → AllPairs AreOther (solve_order (ids_of lists)) → AllPairs AreOtherNames (map row_name (all_rows (rows_by states joints contacts lists)))
unfolding rows_of
names_apart states joints contacts lists count once =
    let whole : all_rows (rows_by states joints contacts lists) ≡ rows_of states joints contacts lists = joined (rows_in states joints contacts) lists COLOURS [] (map (rows_in states joints contacts) (take COLOURS lists)) (rows_in states joints contacts (slice_index_or lists COLOURS [])) count refl refl in
    let order : List Constraint = solve_order (ids_of lists) in
    let find : Constraint → Option ConstraintRow = constraint_row states joints contacts in
    subst (λ (l : List ConstraintRow). AllPairs AreOtherNames (map row_name l)) (sym (whole ∙ begun_rows states joints contacts lists))
    (mapped_pairs AreOtherNames row_name (filter_map find order)
    (λ i j r q before at_i at_j.
    pairs_made find (λ id. Unit {0}) AreOther (λ x y. AreOtherNames (row_name x) (row_name y)) (λ id other x y u v apart is_x is_y. others joints id other x y apart (of_id states joints contacts id x is_x) (of_id states joints contacts other y is_y)) order (λ k d lt. tt) once i j r q before at_i at_j))
