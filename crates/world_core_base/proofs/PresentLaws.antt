-- A constraint that is there has a row, of two bodies that are there.
use Rattle.std.proofs.Common.{◌≡◌, ◌≢◌, ℕ, ◌<◌, true, is_some, List, Option, Some, None, length, refl, ap, ◌∙◌, subst}
use Rattle.std.specs.Prelude.{option_map}
use Rattle.momenta.specs.declared.state.BodyState.{BodyState}
use Rattle.momenta.specs.declared.state.Ends.{Ends}
use Rattle.contacts_base.specs.declared.contact.ContactPoint.{ContactPoint}
use Rattle.contacts_base.specs.declared.contact.ContactEntry.{ContactEntry}
use Rattle.contacts_base.specs.declared.key.ContactKey.{ContactKey}
use Rattle.plain_world.specs.declared.constraint.Constraint.{Constraint}
use Rattle.plain_world.specs.declared.constraint.Constraint.TheVariants as constraints
use Rattle.colour_solver_base.specs.declared.row.Bodies as pairs
use Rattle.colour_solver_base.specs.declared.row.ContactRow.{ContactRow}
use Rattle.colour_solver_base.specs.Rows.{row_from}
use Rattle.colour_solver.specs.declared.constraint_row.ConstraintRow.{ConstraintRow}
use Rattle.colour_solver.specs.declared.constraint_row.ConstraintRow.TheVariants as rows
use Rattle.plain_world.specs.declared.joint.BodyJoint.{BodyJoint}
use Rattle.world_core_base.specs.ConstraintRows.{constraint_row, joint_row_in}
use Rattle.world_core_base.specs.Gather.{AreContactsOn, IsContactOn, bodies_of, ends_at, row_in}
use Rattle.world_core_base.specs.StepRuns.{HasContact, IsPresent}
use Rattle.world_core_base.proofs.ContactLaws.{found_is, row_is}

-- the row of a constraint
pub record IsRowOf (states : List BodyState) (joints : List (Option BodyJoint)) (contacts : List ContactEntry) (id : Constraint) : Type 0 where
  pub row : ConstraintRow
  pub is : constraint_row states joints contacts id ≡ Some row

some_first : (b : pairs.Bodies) (n : Ends) (first second : Option ContactPoint) (o : Option ContactRow) → row_from b n first second ≡ o → is_some first ≡ true → is_some o ≡ true
some_first b n None second o e there = absurd (cc there)
some_first b n (Some p) second None e there = absurd (cc e)
some_first b n (Some p) second (Some r) e there = refl

record IsSome {X : Type 0} (o : Option X) : Type 0 where
  it : X
  is : o ≡ Some it

some_of : {X : Type 0} (o : Option X) → is_some o ≡ true → IsSome o
some_of None there = absurd (cc there)
some_of (Some x) there = record { it = x; is = refl }

pub row_there : (states : List BodyState) (joints : List (Option BodyJoint)) (contacts : List ContactEntry) (id : Constraint) → IsPresent joints contacts id → IsRowOf states joints contacts id
row_there states joints contacts (constraints.Joint h) there =
    record { row = _; is = ap (λ (o : Option BodyJoint). option_map rows.Joint (joint_row_in states h.slot o)) there.found }
row_there states joints contacts (constraints.Contact key) there =
    let e : ContactEntry = there.entry in
    let row : IsSome (row_in states key (Some e)) = some_of (row_in states key (Some e)) (some_first (bodies_of key e.surface) (ends_at states key) e.contact.first e.contact.second (row_in states key (Some e)) refl there.touching) in
    record { row = rows.Contact row.it; is = ap (option_map rows.Contact) (row_is states contacts key ∙ ap (row_in states key) there.found ∙ row.is) }

-- the two slots of its bodies
pub record ArePlaced (n a b : ℕ) : Type 0 where
  pub first : a < n
  pub second : b < n
  pub apart : a ≢ b

-- those of the contact with a key are those of the key
pub contact_placed : (states : List BodyState) (contacts : List ContactEntry) (key : ContactKey) → AreContactsOn states contacts → HasContact contacts key → ArePlaced (length states) key.first.slot key.second.slot
contact_placed states contacts key on there =
    let at : IsContactOn states there.entry = found_is (IsContactOn states) contacts key there.entry on there.found in
    subst (λ (k : ContactKey). ArePlaced (length states) k.first.slot k.second.slot) there.same (record { first = at.first; second = at.second; apart = at.apart })
