-- The states by slot, and the slots of the movers and of the bodies that are carried along: what a step goes over, kept
-- beside the bodies.
use Rattle.std.specs.Prelude.{◌≡◌, ℕ, ◌≤◌, ◌^◌, cond, nat_lt, List, [], ◌∷◌, ◌++◌, length, Option, slice_set, ◌+◌, Bool}
use Rattle.fixed_geom.specs.declared.boxes.Box2.{Box2}
use Rattle.momenta.specs.declared.state.BodyState.{BodyState}
use Rattle.colour_solver.specs.States.{is_carried, moves}
use Rattle.plain_world.specs.declared.body.Body.{Body}
use Rattle.world_core_base.specs.Covers.{AreCovered}
use Rattle.world_core_base.specs.Gather.{states_of}
use Rattle.world_core_base.specs.Listing.{AreListed, Listing}

-- a state put into a slot, or into a new one at the end
abbrev pub with_state : List BodyState → ℕ → BodyState → List BodyState
with_state states slot s = cond (nat_lt slot (length states)) (slice_set states slot s) (states ++ s ∷ [])

-- what contracts see of a table of bodies: the bodies by slot, for how many more there is room, the marks by slot
-- (`Marked`) and the boxes by slot that hold the fat boxes (`Covers`), and whether edits of the lists that a step goes
-- over may be put off (`pending`): if it is 0, none is
pub record Bodies : Type 0 where
  pub bodies : List (Option Body)
  pub room : ℕ
  pub marks : List Bool
  pub boxes : List (Option Box2)
  pub pending : ℕ

-- What a table keeps beside its bodies: their states, the slots of the awake movers and of the bodies that are carried
-- along, and room in each of its lists. No slot is beyond 32 bits. The two lists of slots have room for all bodies, so
-- that those that wake and those that are enabled take no memory; and there is a mark or none for each body and for
-- each that is to come; the box of each slot with a body holds the body's fat boxes.
pub record IsBodyTable (bodies : List (Option Body)) (ss : List BodyState) (awake carried : Listing) (marks : List Bool) (boxes : List (Option Box2)) (room bodies_left states_left : ℕ) : Type 0 where
  pub states : ss ≡ states_of bodies
  pub movers : AreListed moves ss awake
  pub along : AreListed is_carried ss carried
  pub few : length bodies ≤ 2 ^ 32
  pub for_bodies : room ≤ bodies_left
  pub for_states : room ≤ states_left
  pub for_awake : length bodies + room ≤ awake.capacity
  pub for_carried : length bodies + room ≤ carried.capacity
  pub for_marks : length bodies + room ≤ length marks
  pub covered : AreCovered bodies boxes
  pub for_boxes : length bodies ≤ length boxes
