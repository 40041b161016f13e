-- Joints and contacts are given the impulses of all rows, part after part.
use Rattle.std.proofs.Common.{◌≡◌, ◌≢◌, ℕ, zero, suc, ◌<◌, Bool, true, false, cond, ℤ, List, [], ◌∷◌, length, set, Option, Some, None, refl, sym, ap, ap₂, ◌∙◌, subst}
use Rattle.std.specs.Prelude.{◌==◌}
use Rattle.std.specs.List.{AllPairs, flat_map}
use Rattle.std.proofs.lemmas.Bool.{eqb-true}
use Rattle.contacts_base.specs.Contacts.{number_of}
use Rattle.contacts_base.specs.Keys.{key_number}
use Rattle.contacts_base.specs.declared.contact.ContactEntry.{ContactEntry}
use Rattle.colour_solver_base.specs.declared.row.ContactRow.{ContactRow}
use Rattle.colour_solver_base.specs.Rows.{key_of}
use Rattle.colour_solver.specs.declared.constraint_row.ConstraintRow.{ConstraintRow}
use Rattle.colour_solver.specs.declared.constraint_row.ConstraintRow.TheVariants.{Contact, Joint}
use Rattle.colour_solver.specs.ConstraintVisits.{constraint_slots, contacts_among, joints_among, row_name}
use Rattle.colour_solver.specs.Ticks.{Run}
use Rattle.plain_world.specs.declared.joint.BodyJoint.{BodyJoint}
use Rattle.plain_world.specs.InSlots.{impulse_set, with_impulse}
use Rattle.plain_world.specs.Joints.{joint_at}
use Rattle.world_core_base.specs.ConstraintRows.{put_joint_row, with_joint_rows}
use Rattle.world_core_base.specs.Gather.{put_row, with_row, with_rows}
use Rattle.world_core_base.proofs.SolvingJoints.{joint_put_other}
use Rattle.part_runs.specs.Laws.{IsReadBack}
use Rattle.part_runs.specs.ReadBack.{owners_of, picked}
use Rattle.part_runs.specs.Runs.{Step, part_ran}
use Rattle.part_solver.specs.Parts.{IsRunBy, Solved, run_at, run_of_all}
use Rattle.part_solver.specs.PuttingBack.{AreNamesApart, AreOtherNames, contacts_by, joints_by}
use Rattle.part_solver.proofs.PutLaws.{pairs_named, parts_are_all, put_all, put_parts, same_parts}

abbrev AreOtherRows : ConstraintRow → ConstraintRow → Type 0
AreOtherRows r q = AreOtherNames (row_name r) (row_name q)

-- ---- contacts

abbrev put_contact : ConstraintRow → List ContactEntry → List ContactEntry
put_contact (Joint r) es = es
put_contact (Contact r) es = put_row r es

all_contacts : (rows : List ConstraintRow) (es : List ContactEntry) → put_all put_contact rows es ≡ with_rows es (contacts_among rows)
all_contacts [] es = refl
all_contacts (Joint r ∷ rows) es = all_contacts rows es
all_contacts (Contact r ∷ rows) es = all_contacts rows (put_row r es)

contacts_parts : (es : List ContactEntry) (parts : List Solved) (n : ℕ) → contacts_by es parts n ≡ put_parts put_contact n (λ k. (run_at parts k).rows) es
contacts_parts es parts zero = refl
contacts_parts es parts (suc n) =
    sym (all_contacts (run_at parts n).rows (contacts_by es parts n)) ∙ ap (put_all put_contact (run_at parts n).rows) (contacts_parts es parts n)

-- a contact has the key of one row at most
one_if : (t u : Bool) (r q : ContactRow) (e : ContactEntry) → (number_of e == key_number (key_of r.bodies)) ≡ t → (number_of e == key_number (key_of q.bodies)) ≡ u → key_number (key_of r.bodies) ≢ key_number (key_of q.bodies)
    → cond (number_of e == key_number (key_of q.bodies)) (with_row q (cond t (with_row r e) e)) (cond t (with_row r e) e) ≡ cond t (with_row r (cond u (with_row q e) e)) (cond u (with_row q e) e)
one_if true true r q e is_r is_q other =
    let first : number_of e ≡ key_number (key_of r.bodies) = eqb-true (number_of e) (key_number (key_of r.bodies)) is_r in
    let second : number_of e ≡ key_number (key_of q.bodies) = eqb-true (number_of e) (key_number (key_of q.bodies)) is_q in
    absurd (other (sym first ∙ second))
one_if true false r q e is_r is_q other = ap (λ (t : Bool). cond t (with_row q (with_row r e)) (with_row r e)) is_q
one_if false true r q e is_r is_q other = ap (λ (t : Bool). cond t (with_row q e) e) is_q
one_if false false r q e is_r is_q other = ap (λ (t : Bool). cond t (with_row q e) e) is_q

abbrev given_by : ContactRow → ContactEntry → ContactEntry
given_by r e = cond (number_of e == key_number (key_of r.bodies)) (with_row r e) e

number_if : (t : Bool) (r : ContactRow) (e : ContactEntry) → number_of (cond t (with_row r e) e) ≡ number_of e
number_if true r e = refl
number_if false r e = refl

-- each is given what it is due, whoever comes first
one_swapped : (r q : ContactRow) (e : ContactEntry) → key_number (key_of r.bodies) ≢ key_number (key_of q.bodies) → given_by q (given_by r e) ≡ given_by r (given_by q e)
one_swapped r q e other =
    let t : Bool = number_of e == key_number (key_of r.bodies) in
    let u : Bool = number_of e == key_number (key_of q.bodies) in
    ap (λ (n : ℕ). cond (n == key_number (key_of q.bodies)) (with_row q (given_by r e)) (given_by r e)) (number_if t r e) ∙ one_if t u r q e refl refl other
    ∙ ap (λ (n : ℕ). cond (n == key_number (key_of r.bodies)) (with_row r (given_by q e)) (given_by q e)) (sym (number_if u q e))

all_swapped : (r q : ContactRow) (es : List ContactEntry) → key_number (key_of r.bodies) ≢ key_number (key_of q.bodies) → put_row q (put_row r es) ≡ put_row r (put_row q es)
all_swapped r q [] other = refl
all_swapped r q (e ∷ es) other = ap₂ (λ (x : ContactEntry) (l : List ContactEntry). x ∷ l) (one_swapped r q e other) (all_swapped r q es other)

contacts_swap : (r q : ConstraintRow) → AreOtherRows r q → (es : List ContactEntry) → put_contact q (put_contact r es) ≡ put_contact r (put_contact q es)
contacts_swap (Joint r) (Joint q) other es = refl
contacts_swap (Joint r) (Contact q) other es = refl
contacts_swap (Contact r) (Joint q) other es = refl
contacts_swap (Contact r) (Contact q) other es = all_swapped r q es other.1

-- ---- joints

abbrev put_joint : ConstraintRow → List (Option BodyJoint) → List (Option BodyJoint)
put_joint (Joint r) js = put_joint_row r js
put_joint (Contact r) js = js

all_joints : (rows : List ConstraintRow) (js : List (Option BodyJoint)) → put_all put_joint rows js ≡ with_joint_rows js (joints_among rows)
all_joints [] js = refl
all_joints (Joint r ∷ rows) js = all_joints rows (put_joint_row r js)
all_joints (Contact r ∷ rows) js = all_joints rows js

joints_parts : (js : List (Option BodyJoint)) (parts : List Solved) (n : ℕ) → joints_by js parts n ≡ put_parts put_joint n (λ k. (run_at parts k).rows) js
joints_parts js parts zero = refl
joints_parts js parts (suc n) =
    sym (all_joints (run_at parts n).rows (joints_by js parts n)) ∙ ap (put_all put_joint (run_at parts n).rows) (joints_parts js parts n)

set_swapped : {X : Type 0} (xs : List X) (i j : ℕ) (x y : X) → i ≢ j → set (set xs i x) j y ≡ set (set xs j y) i x
set_swapped [] i j x y other = refl
set_swapped (z ∷ xs) zero zero x y other = absurd (other refl)
set_swapped (z ∷ xs) zero (suc j) x y other = refl
set_swapped (z ∷ xs) (suc i) zero x y other = refl
set_swapped {X} (z ∷ xs) (suc i) (suc j) x y other = ap (λ (l : List X). z ∷ l) (set_swapped xs i j x y (λ same. other (ap suc same)))

joint_if : (js : List (Option BodyJoint)) (i j : ℕ) (x y : ℤ) (o p : Option BodyJoint) → joint_at js i ≡ o → joint_at js j ≡ p → i ≢ j
    → impulse_set j y (impulse_set i x js o) (joint_at (impulse_set i x js o) j) ≡ impulse_set i x (impulse_set j y js p) (joint_at (impulse_set j y js p) i)
joint_if js i j x y None None is_o is_p other = ap (impulse_set j y js) is_p ∙ ap (impulse_set i x js) (sym is_o)
joint_if js i j x y None (Some b) is_o is_p other =
    ap (impulse_set j y js) is_p ∙ ap (impulse_set i x (set js j (Some (with_impulse y b)))) (sym (joint_put_other js j i (Some (with_impulse y b)) (λ same. other (sym same)) ∙ is_o))
joint_if js i j x y (Some a) None is_o is_p other =
    ap (impulse_set j y (set js i (Some (with_impulse x a)))) (joint_put_other js i j (Some (with_impulse x a)) other ∙ is_p) ∙ ap (impulse_set i x js) (sym is_o)
joint_if js i j x y (Some a) (Some b) is_o is_p other =
    ap (impulse_set j y (set js i (Some (with_impulse x a)))) (joint_put_other js i j (Some (with_impulse x a)) other ∙ is_p)
    ∙ set_swapped js i j (Some (with_impulse x a)) (Some (with_impulse y b)) other
    ∙ ap (impulse_set i x (set js j (Some (with_impulse y b)))) (sym (joint_put_other js j i (Some (with_impulse y b)) (λ same. other (sym same)) ∙ is_o))

joints_swap : (r q : ConstraintRow) → AreOtherRows r q → (js : List (Option BodyJoint)) → put_joint q (put_joint r js) ≡ put_joint r (put_joint q js)
joints_swap (Joint r) (Joint q) other js = joint_if js r.bodies.index q.bodies.index r.impulse q.impulse (joint_at js r.bodies.index) (joint_at js q.bodies.index) refl refl other.0
joints_swap (Joint r) (Contact q) other js = refl
joints_swap (Contact r) (Joint q) other js = refl
joints_swap (Contact r) (Contact q) other js = refl

-- ---- the parts of a step

module _ (t : Step) (parts : List Solved) (by : IsRunBy t t.states t.home parts) (back : IsReadBack (length parts) t (run_of_all t) (part_ran t)) (apart : AreNamesApart t) where
  abbrev owners : List ℕ
  owners = owners_of constraint_slots t.home t.states (flat_map (λ rs. rs) t.rows.colours) t.rows.left

  rows_apart : AllPairs AreOtherRows (run_of_all t).rows
  rows_apart = pairs_named AreOtherNames row_name (run_of_all t).rows (subst (AllPairs AreOtherNames) (sym back.names) apart)

  each_part : (k : ℕ) → k < length parts → (run_at parts k).rows ≡ picked k owners (run_of_all t).rows
  each_part k lt = ap (λ (r : Run). r.rows) (by.runs k lt) ∙ back.rows k

  pub joints_put : (js : List (Option BodyJoint)) → joints_by js parts (length parts) ≡ with_joint_rows js (joints_among (run_of_all t).rows)
  joints_put js =
      joints_parts js parts (length parts) ∙ same_parts put_joint (length parts) (λ k. (run_at parts k).rows) (λ k. picked k owners (run_of_all t).rows) js each_part
      ∙ parts_are_all put_joint AreOtherRows joints_swap (length parts) owners (run_of_all t).rows js back.count back.below rows_apart ∙ all_joints (run_of_all t).rows js

  pub contacts_put : (es : List ContactEntry) → contacts_by es parts (length parts) ≡ with_rows es (contacts_among (run_of_all t).rows)
  contacts_put es =
      contacts_parts es parts (length parts) ∙ same_parts put_contact (length parts) (λ k. (run_at parts k).rows) (λ k. picked k owners (run_of_all t).rows) es each_part
      ∙ parts_are_all put_contact AreOtherRows contacts_swap (length parts) owners (run_of_all t).rows es back.count back.below rows_apart ∙ all_contacts (run_of_all t).rows es
