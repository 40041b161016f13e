-- In a colour joints come before contacts, since their numbers are lower.
use Rattle.std.proofs.Common.{◌≡◌, ℕ, ◌+◌, ◌<◌, ◌^◌, List, [], ◌∷◌, ◌++◌, length, get_or, take, drop, All, Option, Some, None, arith, refl, sym, ap, ◌∙◌, subst}
use Rattle.std.specs.Prelude.{option_map}
use Rattle.std.specs.List.{cons_option, filter_map}
use Rattle.std.proofs.lemmas.List.{append_cancel_right, get_or-take, get_or_default, length-take-le, take-append-drop}
use Rattle.std.proofs.lemmas.List.Elements.{All-head, All-tail, filter_map-append}
use Rattle.momenta.specs.declared.state.BodyState.{BodyState}
use Rattle.joint_rows.specs.declared.row.JointRow.{JointRow}
use Rattle.contacts_base.specs.Keys.{key_number}
use Rattle.contacts_base.specs.declared.contact.ContactEntry.{ContactEntry}
use Rattle.plain_world.specs.Constraints.{constraint_number}
use Rattle.plain_world.specs.declared.constraint.Constraint.{Constraint}
use Rattle.plain_world.specs.declared.constraint.Constraint.TheVariants as constraints
use Rattle.graph_colours.specs.declared.member.Member.{Member}
use Rattle.graph_colours.specs.Members.{AreRising}
use Rattle.colour_solver.specs.ConstraintVisits.{contacts_among}
use Rattle.colour_solver.specs.declared.constraint_row.ConstraintRow.{ConstraintRow}
use Rattle.colour_solver.specs.declared.constraint_row.ConstraintRow.TheVariants as rows
use Rattle.plain_world.specs.declared.joint.BodyJoint.{BodyJoint}
use Rattle.plain_world.specs.Joints.{joint_at}
use Rattle.world_core_base.specs.ConstraintRows.{constraint_row, joint_row_in, rows_in}

-- the constraint is a joint
abbrev IsLow : Member Constraint → Type 0
IsLow m = constraint_number m.id < 2 ^ 80

joint_alone : (o : Option JointRow) (rest : List ConstraintRow) → contacts_among rest ≡ [] → contacts_among (cons_option (option_map rows.Joint o) rest) ≡ []
joint_alone None rest e = e
joint_alone (Some r) rest e = e

one_first : (states : List BodyState) (joints : List (Option BodyJoint)) (contacts : List ContactEntry) (id : Constraint) (rest : List ConstraintRow) → constraint_number id < 2 ^ 80 → contacts_among rest ≡ []
    → contacts_among (cons_option (constraint_row states joints contacts id) rest) ≡ []
one_first states joints contacts (constraints.Joint h) rest low e = joint_alone (joint_row_in states h.slot (joint_at joints h.slot)) rest e
one_first states joints contacts (constraints.Contact key) rest low e = let number : 2 ^ 80 + key_number key < 2 ^ 80 = low in absurd (omega (arith, number))

no_contacts : (states : List BodyState) (joints : List (Option BodyJoint)) (contacts : List ContactEntry) (ms : List (Member Constraint)) → All IsLow ms → contacts_among (rows_in states joints contacts ms) ≡ []
no_contacts states joints contacts [] all = refl
no_contacts states joints contacts (m ∷ ms) all =
    one_first states joints contacts m.id (rows_in states joints contacts ms) (All-head IsLow m ms all) (no_contacts states joints contacts ms (All-tail IsLow m ms all))

-- before a joint stand joints alone
low_before : (ms : List (Member Constraint)) (i : ℕ) (d : Member Constraint) → AreRising constraint_number ms → i < length ms → IsLow (get_or ms i d) → All IsLow (take i ms)
low_before ms i d rising lt low k e here =
    let long : length (take i ms) ≡ i = length-take-le i ms (omega (arith, lt)) in
    let before : k < i = omega (arith, here, long) in
    let less : constraint_number (get_or ms k e).id < constraint_number (get_or ms i e).id = rising k i e before lt in
    let same : get_or ms i e ≡ get_or ms i d = get_or_default ms i e d lt in
    let last : constraint_number (get_or ms i e).id < 2 ^ 80 = subst IsLow (sym same) low in
    let lower : constraint_number (get_or ms k e).id < 2 ^ 80 = omega (arith, less, last) in
    subst IsLow (sym (get_or-take i ms k e before)) lower

-- the rows so far, where the next constraint is a joint, are those of joints
pub joints_so_far : (states : List BodyState) (joints : List (Option BodyJoint)) (contacts : List ContactEntry) (ms : List (Member Constraint)) (i : ℕ) (d : Member Constraint) (left : List ConstraintRow) → AreRising constraint_number ms → i < length ms
    → left ++ rows_in states joints contacts (drop i ms) ≡ rows_in states joints contacts ms → constraint_number (get_or ms i d).id < 2 ^ 80 → contacts_among left ≡ []
joints_so_far states joints contacts ms i d left rising lt e low =
    let find : Member Constraint → Option ConstraintRow = λ m. constraint_row states joints contacts m.id in
    let whole : rows_in states joints contacts ms ≡ rows_in states joints contacts (take i ms) ++ rows_in states joints contacts (drop i ms) = ap (filter_map find) (sym (take-append-drop i ms)) ∙ filter_map-append find (take i ms) (drop i ms) in
    let same : left ≡ rows_in states joints contacts (take i ms) = append_cancel_right left (rows_in states joints contacts (take i ms)) (rows_in states joints contacts (drop i ms)) (e ∙ whole) in
    ap contacts_among same ∙ no_contacts states joints contacts (take i ms) (low_before ms i d rising lt low)
