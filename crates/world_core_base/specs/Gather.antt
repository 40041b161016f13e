-- Trusted: what a step works on in dense arrays, gathered from the bodies, the contacts and their colours, and written
-- back.
use Rattle.std.specs.Prelude.{◌≡◌, ℕ, ◌<◌, ◌⊎◌, ◌≢◌, true, List, [], ◌∷◌, length, map, All, Option, Some, None, option_map, slice_index_or}
use Rattle.momenta.specs.Reciprocals.{reciprocals_of}
use Rattle.momenta.specs.declared.state.BodyState.{BodyState}
use Rattle.momenta.specs.declared.state.Ends.{Ends}
use Rattle.contacts_base.specs.declared.key.ContactKey.{ContactKey}
use Rattle.contacts_base.specs.declared.evaluation.Impulses.{Impulses}
use Rattle.contacts_base.specs.declared.surface.Surface.{Surface}
use Rattle.contacts_base.specs.Surfaces.{IsSurface}
use Rattle.contacts_base.specs.declared.contact.ContactEntry.{ContactEntry}
use Rattle.contacts_base.specs.Contacts.{lookup}
use Rattle.contacts_base.specs.ContactLists.{impulses_given, with_points}
use Rattle.contacts_base.specs.Limits.{IsContact}
use Rattle.plain_world.specs.declared.constraint.Constraint.{Constraint}
use Rattle.plain_world.specs.declared.constraint.Constraint.TheVariants as constraints
use Rattle.colour_solver_base.specs.declared.row.PointRow.{PointRow}
use Rattle.colour_solver_base.specs.declared.row.ContactRow.{ContactRow}
use Rattle.colour_solver_base.specs.declared.row.Bodies as pairs
use Rattle.colour_solver_base.specs.Rows.{IsRow, contact_row, key_of}
use Rattle.colour_solver.specs.States.{nobody}
use Rattle.plain_world.specs.declared.body.Body.{Body}
use Rattle.plain_world.specs.Bodies.{is_awake}
use Rattle.world_core_base.specs.Carried.{moved_to, solver_mass, solver_motion}

-- ---- the bodies

-- a body as the solver works on it
abbrev pub state_of : Option Body → BodyState
state_of None = nobody
state_of (Some b) = record { movable = is_awake b; mass = solver_mass b; motion = solver_motion b; start = b.motion.x; reciprocals = reciprocals_of (solver_mass b) }

abbrev pub states_of : List (Option Body) → List BodyState
states_of bodies = map state_of bodies

-- ---- the contacts

-- which contact it is, and the surface that meets there
abbrev pub bodies_of : ContactKey → Surface → pairs.Bodies
bodies_of key surface = record { a = key.first.slot; b = key.second.slot; first = key.first.index; second = key.second.index; friction = surface.friction; restitution = surface.restitution }

abbrev pub ends_at : List BodyState → ContactKey → Ends
ends_at states key = record { a = slice_index_or states key.first.slot nobody; b = slice_index_or states key.second.slot nobody }

-- the row of the contact with a key, if it is there and touches
abbrev pub row_in : List BodyState → ContactKey → Option ContactEntry → Option ContactRow
row_in states key None = None
row_in states key (Some e) = contact_row (bodies_of key e.surface) (ends_at states key) e.contact

-- the row of a constraint, if it is a contact that touches
unfoldable pub row_of : List BodyState → List ContactEntry → Constraint → Option ContactRow
row_of states contacts (constraints.Joint h) = None
row_of states contacts (constraints.Contact key) = row_in states key (lookup contacts key)

-- ---- back to the bodies and the contacts

abbrev pub with_motion : BodyState → Body → Body
with_motion s b = moved_to s.motion b

-- each body with the motion that the step has left it
abbrev pub with_motions : List (Option Body) → List BodyState → List (Option Body)
with_motions [] states = []
with_motions (o ∷ bodies) [] = o ∷ bodies
with_motions (o ∷ bodies) (s ∷ states) = option_map (with_motion s) o ∷ with_motions bodies states

-- the state as the next step begins with it
abbrev pub begun : BodyState → BodyState
begun s = record s { start = s.motion.x }

-- the impulses of a point's row
abbrev pub impulses_of : PointRow → Impulses
impulses_of r = record { normal_impulse = r.normal_impulse; tangent_impulse = r.tangent_impulse }

-- the contact with the impulses of its row
abbrev pub with_row : ContactRow → ContactEntry → ContactEntry
with_row r e = with_points (impulses_of r.first) (option_map impulses_of r.second) e

-- the contact of a row with the impulses of the row
abbrev pub put_row : ContactRow → List ContactEntry → List ContactEntry
put_row r contacts = impulses_given (key_of r.bodies) (impulses_of r.first) (option_map impulses_of r.second) contacts

-- each contact with the impulses that the step has left it
abbrev pub with_rows : List ContactEntry → List ContactRow → List ContactEntry
with_rows contacts [] = contacts
with_rows contacts (r ∷ rs) = with_rows (put_row r contacts) rs

-- ---- what must hold of the contacts

-- one of the two states is movable
abbrev pub HasMovable : List BodyState → ℕ → ℕ → Type 0
HasMovable states a b = ((slice_index_or states a nobody).movable ≡ true) ⊎ ((slice_index_or states b nobody).movable ≡ true)

-- a contact of two different states, with its numbers within their limits
pub record IsContactOn (states : List BodyState) (e : ContactEntry) : Type 0 where
  pub first : e.key.first.slot < length states
  pub second : e.key.second.slot < length states
  pub apart : e.key.first.slot ≢ e.key.second.slot
  pub surface : IsSurface e.surface
  pub contact : IsContact e.contact

abbrev pub AreContactsOn : List BodyState → List ContactEntry → Type 0
AreContactsOn states contacts = All (IsContactOn states) contacts

-- ---- what holds of the rows of contacts

-- a whole row of two different bodies below n
pub record IsContactRowBelow (n : ℕ) (r : ContactRow) : Type 0 where
  pub row : IsRow r
  pub a : r.bodies.a < n
  pub b : r.bodies.b < n
  pub apart : r.bodies.a ≢ r.bodies.b
