-- Trusted: what a step works on in dense arrays is what the definition of a step says. The states of the bodies and the
-- rows of the constraints are gathered, the passes run over them, and motions and impulses are written back.
use Rattle.std.specs.Prelude.{◌≡◌, ◌≢◌, ℕ, true, List, Option, Some, None, All, is_some}
use Rattle.std.specs.List.{AllPairs}
use Rattle.fixed_geom.specs.declared.vectors.Vec2.{Vec2}
use Rattle.contacts_base.specs.Contacts.{AreKeysRising}
use Rattle.contacts_base.specs.Keys.{key_number}
use Rattle.contacts_base.specs.declared.contact.ContactEntry.{ContactEntry}
use Rattle.plain_world.specs.declared.constraint.Constraint.{Constraint}
use Rattle.plain_world.specs.declared.constraint.Constraint.TheVariants as constraints
use Rattle.graph_colours.specs.declared.member.Member.{Member}
use Rattle.graph_colours.specs.Colours.{ids_of}
use Rattle.colour_solver.specs.Ticks.{Run, ran, run_of, start}
use Rattle.plain_world.specs.declared.body.Body.{Body}
use Rattle.plain_world.specs.declared.joint.BodyJoint.{BodyJoint}
use Rattle.plain_world.specs.Joints.{joint_at}
use Rattle.plain_world.specs.Slots.{body_at}
use Rattle.colour_solver.specs.ConstraintVisits.{contacts_among, joints_among}
use Rattle.world_core_base.specs.ConstraintRows.{rows_of, with_joint_rows}
use Rattle.world_core_base.specs.Gather.{states_of, with_motions, with_rows}
use Rattle.world_core_base.specs.Solving.{Solving, bodies_of, solve_order, solved}

-- two constraints of different places
abbrev pub AreOther : Constraint → Constraint → Type 0
AreOther (constraints.Joint h) (constraints.Joint k) = h.slot ≢ k.slot
AreOther (constraints.Joint h) (constraints.Contact l) = Unit {0}
AreOther (constraints.Contact key) (constraints.Joint k) = Unit {0}
AreOther (constraints.Contact key) (constraints.Contact l) = key_number key ≢ key_number l

abbrev pub AreThere : List (Option Body) → ℕ → ℕ → Type 0
AreThere bodies a b = (is_some (body_at bodies a) ≡ true) × (is_some (body_at bodies b) ≡ true)

abbrev pub JointHasEnds : List (Option Body) → Option BodyJoint → Type 0
JointHasEnds bodies None = Unit {0}
JointHasEnds bodies (Some j) = AreThere bodies j.a j.b

-- both bodies of the constraint are there
abbrev pub HasEnds : List (Option Body) → List (Option BodyJoint) → Constraint → Type 0
HasEnds bodies joints (constraints.Joint h) = JointHasEnds bodies (joint_at joints h.slot)
HasEnds bodies joints (constraints.Contact key) = AreThere bodies key.first.slot key.second.slot

-- no constraint stands twice, and the bodies of each are there
pub record CanSolve (bodies : List (Option Body)) (joints : List (Option BodyJoint)) (order : List Constraint) : Type 0 where
  pub once : AllPairs AreOther order
  pub there : All (HasEnds bodies joints) order

-- the bodies, the joints, the contacts and the sums that the arrays leave are those of the definition
pub record IsRunOf (bodies : List (Option Body)) (joints : List (Option BodyJoint)) (contacts : List ContactEntry) (r : Run) (s : Solving) : Type 0 where
  pub bodies_left : with_motions bodies r.states ≡ bodies_of s
  pub joints_left : with_joint_rows joints (joints_among r.rows) ≡ s.joints
  pub contacts_left : with_rows contacts (contacts_among r.rows) ≡ s.contacts
  pub sums : r ≡ run_of r.states r.rows s.sums

-- no contact stands twice among those that a step begins with
abbrev pub ArraysAreSolving : Type 0
ArraysAreSolving = (n : ℕ) (gravity : Vec2) (bodies : List (Option Body)) (joints : List (Option BodyJoint)) (contacts : List ContactEntry) (lists : List (List (Member Constraint)))
    → AreKeysRising contacts → CanSolve bodies joints (solve_order (ids_of lists))
    → IsRunOf bodies joints contacts (ran n gravity (start (states_of bodies) (rows_of (states_of bodies) joints contacts lists))) (solved n gravity (solve_order (ids_of lists)) bodies joints contacts)
