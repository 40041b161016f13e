-- Trusted: What holds of each accepted command, whichever it is, and what being sound means.
use Rattle.std.specs.Prelude.{◌≡◌, ℕ, ◌+◌, ◌^◌, ◌&&◌, ◌↔◌, Bool, true, List, Option, Some, All, Contains, Ok, pos, take}
use Rattle.std.specs.Option.{option_map_or}
use Rattle.fixed_geom.specs.Vectors.{IsWithin}
use Rattle.fixed_geom.specs.declared.vectors.Vec2.{Vec2}
use Rattle.plain_world.specs.declared.constraint.Constraint.{Constraint}
use Rattle.graph_colours.specs.Colours.{all_members, ids_of}
use Rattle.graph_colours.specs.Members.{AreApart}
use Rattle.graph_colours.specs.declared.limits.TheConstants.{COLOURS}
use Rattle.graph_colours.specs.declared.member.Member.{Member}
use Rattle.graph_colours.specs.declared.member.Movers.{Movers}
use Rattle.islands.specs.Links.{Joined, Linked}
use Rattle.plain_world.specs.declared.body.Body.{Body}
use Rattle.plain_world.specs.Bodies.{standing_of}
use Rattle.plain_world.specs.Changes.{is_awake_in}
use Rattle.plain_world.specs.Plain.{Plain}
use Rattle.plain_world.specs.Slots.{body_at}
use Rattle.sleep_wake.specs.Acting.{links_of}
use Rattle.solver_sets.specs.Census.{census_of}
use Rattle.solver_sets.specs.EachOnce.{ListsEachOnce}
use Rattle.solver_sets.specs.Ties.{members_of, ties_of}
use Rattle.world_rules.specs.declared.command.Command.{Command}
use Rattle.world_rules.specs.declared.command.Command.TheVariants.{CreateBody, DestroyBody, CreateJoint, DestroyJoint, Push, PushAt, SetPose, SetVelocity, SetGravity, Disable, Enable, Wake, Sleep, Step}
use Rattle.world_rules.specs.Apply.{Applied, apply}
use Rattle.world_rules.specs.Replay.{answers_to, replay}
use Rattle.world_rules.specs.Sound.{IsSound}
use Rattle.world_rules.specs.World.{World, joints_in_slots}

-- the impulse that a command gives a body by itself: that of a push
abbrev pub push_of : Command → Vec2
push_of (CreateBody d) = record { x = pos 0; y = pos 0 }
push_of (DestroyBody h) = record { x = pos 0; y = pos 0 }
push_of (CreateJoint d) = record { x = pos 0; y = pos 0 }
push_of (DestroyJoint h) = record { x = pos 0; y = pos 0 }
push_of (Push h j) = j
push_of (PushAt h j r) = j
push_of (SetPose h o) = record { x = pos 0; y = pos 0 }
push_of (SetVelocity h course) = record { x = pos 0; y = pos 0 }
push_of (SetGravity g) = record { x = pos 0; y = pos 0 }
push_of (Disable h) = record { x = pos 0; y = pos 0 }
push_of (Enable h) = record { x = pos 0; y = pos 0 }
push_of (Wake h) = record { x = pos 0; y = pos 0 }
push_of (Sleep h) = record { x = pos 0; y = pos 0 }
push_of (Step n) = record { x = pos 0; y = pos 0 }

-- it counts one call more
abbrev pub EachCallCounts : Type 0
EachCallCounts = (w : Plain) (c : Command) (a : Applied) → apply w c ≡ Ok a → a.plain.calls ≡ w.calls + 1

-- its impulse is in its range
abbrev pub PushesAreSmall : Type 0
PushesAreSmall = (w : Plain) (c : Command) (a : Applied) → apply w c ≡ Ok a → IsWithin (2 ^ 40) (push_of c)

-- ---- what being sound means for those who touch, or are joined

-- the constraints of a world: joints and touching contacts, whether their movers are awake or not
abbrev pub ties_of_world : World → List (Member Constraint)
ties_of_world w = ties_of w.plain.bodies (joints_in_slots w.plain) w.plain.contacts

abbrev pub AreLinked : World → ℕ → ℕ → Type 0
AreLinked w a b = Linked (links_of (ties_of_world w)) a b

-- Linked movers stand together: both are awake, or both sleep in one set.
abbrev pub LinkedMoversStandTogether : Type 0
LinkedMoversStandTogether = (w : World) (a b : ℕ) (x y : Body) → IsSound w → AreLinked w a b → body_at w.plain.bodies a ≡ Some x → body_at w.plain.bodies b ≡ Some y → standing_of x ≡ standing_of y

pub record SleepsIn (bodies : List (Option Body)) (name slot : ℕ) : Type 0 where
  pub body : Body
  pub there : body_at bodies slot ≡ Some body
  pub asleep : body.asleep ≡ Some name

-- A sleeping set is one component: those that sleep in it are just those that constraints join to one of them.
abbrev pub SleepingSetsAreComponents : Type 0
SleepingSetsAreComponents = (w : World) (name slot other : ℕ) → IsSound w → SleepsIn w.plain.bodies name slot → SleepsIn w.plain.bodies name other ↔ Joined (AreLinked w) slot other

-- ---- and for the colours

-- the constraints that have a colour, with their movers, colour by colour, and last those in the overflow
abbrev pub coloured_in : World → List (List (Member Constraint))
coloured_in w = members_of w.plain.bodies (joints_in_slots w.plain) w.plain.colours

-- They are those that the world names, and no two of one colour share a mover.
abbrev pub ColoursAreApart : Type 0
ColoursAreApart = (w : World) → IsSound w → (ids_of (coloured_in w) ≡ w.plain.colours) × All AreApart (take COLOURS (coloured_in w))

abbrev pub movers_awake : List (Option Body) → Movers → Bool
movers_awake bodies m = is_awake_in (body_at bodies m.first) && option_map_or (λ (slot : ℕ). is_awake_in (body_at bodies slot)) m.second true

-- What acts has a colour, and nothing else has: a constraint whose movers are awake.
abbrev pub WhatActsHasAColour : Type 0
WhatActsHasAColour = (w : World) (m : Member Constraint) → IsSound w → Contains (all_members (coloured_in w)) m ↔ (Contains (ties_of_world w) m × (movers_awake w.plain.bodies m.movers ≡ true))

-- ---- and for the census

-- Each body, joint and contact stands in exactly one solver set, and the census of the world lists it there, once.
abbrev pub EachStandsInOneSet : Type 0
EachStandsInOneSet = (w : World) → IsSound w → ListsEachOnce w.plain.slot_entries w.plain.bodies (joints_in_slots w.plain) w.plain.contacts (census_of w.plain.slot_entries w.plain.bodies (joints_in_slots w.plain) w.plain.contacts)

-- ---- and for worlds that were put away and taken up again

-- from now on all commands have the same answers in both, and their plain lists are the same after each
pub record GoOnTheSame (v w : World) : Type 0 where
  pub answers : (commands : List Command) → answers_to v commands ≡ answers_to w commands
  pub plains : (commands : List Command) → (replay v commands).plain ≡ (replay w commands).plain

-- What becomes of a world, and what is answered, rests on its plain lists alone: not on its ledger, and not on its
-- events.
abbrev pub PlainListsDetermineAll : Type 0
PlainListsDetermineAll = (v w : World) → v.plain ≡ w.plain → GoOnTheSame v w
