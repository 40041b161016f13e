-- Trusted: The plain world: what a world is, as lists, however it is kept.
use Rattle.std.specs.List.{list_any, position}
use Rattle.std.specs.Prelude.{ℕ, ◌==◌, Bool, List, Option}
use Rattle.fixed_geom.specs.declared.vectors.Vec2.{Vec2}
use Rattle.body_handles.specs.declared.slot_table.SlotEntry.{SlotEntry}
use Rattle.contacts_base.specs.declared.contact.ContactEntry.{ContactEntry}
use Rattle.plain_world.specs.Constraints.{constraint_number}
use Rattle.islands.specs.Labels.{Labels}
use Rattle.plain_world.specs.declared.constraint.Constraint.{Constraint}
use Rattle.plain_world.specs.declared.body.Body.{Body}
use Rattle.plain_world.specs.declared.joint.BodyJoint.{BodyJoint}

pub record Plain : Type 0 where
  -- each body slot that was ever used, and the body in it
  pub slot_entries : List SlotEntry
  pub bodies : List (Option Body)
  -- each joint slot that was ever used, and the joint in it
  pub joint_entries : List SlotEntry
  pub joints : List (Option BodyJoint)
  -- ascending by key
  pub contacts : List ContactEntry
  -- by slot the island of each mover
  pub islands : Labels
  -- for each colour the active constraints that have it, ascending, and last those in the overflow
  pub colours : List (List Constraint)
  -- u/tick²
  pub gravity : Vec2
  -- how many steps and how many calls were accepted
  pub steps : ℕ
  pub calls : ℕ

-- whether a constraint is among these
abbrev pub has_constraint : Constraint → List Constraint → Bool
has_constraint id ids = list_any (λ other. constraint_number other == constraint_number id) ids

-- the colour of an active constraint
unfoldable pub colour_of : Constraint → List (List Constraint) → Option ℕ
colour_of id colours = position (has_constraint id) colours
