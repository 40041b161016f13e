-- The walk as one part makes it: of all moves it keeps those from it and to it.
use Rattle.std.specs.Prelude.{◌≡◌, ℕ, Bool, ◌||◌, cond, nat_eq, List, ◌++◌, Option, filter, map}
use Rattle.momenta.specs.declared.state.BodyState.{BodyState}
use Rattle.graph_colours.specs.declared.member.Member.{Member}
use Rattle.plain_world.specs.declared.constraint.Constraint.{Constraint}
use Rattle.plain_world.specs.declared.joint.BodyJoint.{BodyJoint}
use Rattle.colour_solver.specs.declared.constraint_row.ConstraintRow.{ConstraintRow}
use Rattle.colour_solver.specs.ConstraintVisits.{constraint_slots}
use Rattle.colour_solver.specs.declared.row_visits.Slots.{Slots}
use Rattle.part_runs.specs.Hidden.{part_at, part_of}
use Rattle.part_runs.specs.Walks.{Move, Walk, fetched_mover}
use Rattle.part_solver.specs.Stages.{slots_in}
use Rattle.part_solver.specs.declared.moves.BodyMove.{BodyMove}

-- the moves from the part k and to it
abbrev pub kept : ℕ → List Move → List BodyMove
kept k moves = map (λ (m : Move). record { slot = m.slot; from = m.from; to = m.to }) (filter (λ (m : Move). nat_eq m.from k || nat_eq m.to k) moves)

-- a row's two bodies are wanted in the part `to`
abbrev pub slots_fetched : List BodyState → ℕ → Slots → Walk → Walk
slots_fetched states to s w = fetched_mover states to s.b (fetched_mover states to s.a w)

-- the part of a row that has a colour, and of one that has none
abbrev pub owner_of : List BodyState → List ℕ → Bool → Slots → ℕ
owner_of states home coloured s = cond coloured (part_of (λ (x : Slots). x) (part_at home) states s) 0

-- the same of a row of either kind
abbrev pub owner_in : List BodyState → List ℕ → Bool → ConstraintRow → ℕ
owner_in states home coloured r = owner_of states home coloured (constraint_slots r)

-- the constraints of the part k among those of a stage
abbrev pub own_members : List BodyState → List ℕ → Bool → ℕ → List (Option BodyJoint) → List (Member Constraint) → List (Member Constraint)
own_members states home coloured k joints members = filter (λ (m : Member Constraint). nat_eq (owner_of states home coloured (slots_in joints m.id)) k) members

-- a part has gone on with its walk: `whole` are the moves of all since
pub record IsOnward (k : ℕ) (whole : Walk) (after : List ℕ) (old new : List BodyMove) : Type 0 where
  pub at : after ≡ whole.at
  pub moves : new ≡ old ++ kept k whole.moves
