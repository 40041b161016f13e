-- Trusted: What the headline says of a world whose lock is free, part by part.
use Rattle.std.specs.Prelude.{◌≡◌, ℕ, ◌↔◌, true, false, All, Contains, IsSome, Option, Some, option_map, pos, take}
use Rattle.plain_world.specs.Constraints.{constraint_number}
use Rattle.plain_world.specs.declared.constraint.Constraint.{Constraint}
use Rattle.contacts_base.specs.Contacts.{AreKeysRising}
use Rattle.graph_colours.specs.Colours.{IsColouring, all_members, ids_of}
use Rattle.graph_colours.specs.Members.{AreApart}
use Rattle.graph_colours.specs.declared.limits.TheConstants.{COLOURS}
use Rattle.graph_colours.specs.declared.member.Member.{Member}
use Rattle.islands.specs.Labels.{is_loose, label_at}
use Rattle.islands.specs.Links.{Joined}
use Rattle.islands.specs.declared.label.Label.{Label}
use Rattle.plain_world.specs.declared.body.Body.{Body}
use Rattle.plain_world.specs.declared.body.SetName.{SetName}
use Rattle.plain_world.specs.declared.body.SetName.TheVariants.{Sleeping}
use Rattle.plain_world.specs.Bodies.{is_awake, standing_of}
use Rattle.plain_world.specs.Slots.{AreMatched, body_at}
use Rattle.solver_sets.specs.declared.census.Item.{Item}
use Rattle.solver_sets.specs.EachOnce.{IsPresent, stand}
use Rattle.solver_sets.specs.Ties.{IsConstraintWithin, movers_of}
use Rattle.world_rules.specs.Laws.{AreLinked, SleepsIn, coloured_in, movers_awake, ties_of_world}
use Rattle.world_rules.specs.World.{World, joints_in_slots}

abbrev pub stand_in : World → Item → Option SetName
stand_in w item = stand w.plain.slot_entries w.plain.bodies (joints_in_slots w.plain) w.plain.contacts item

-- Each body, joint and contact stands in exactly one solver set, by a live handle or a key that no other item has.
-- A body stands in a sleeping set just if it sleeps under its name.
pub record EachStandsInOneSet (w : World) : Type 0 where
  pub stands : (item : Item) → IsPresent w.plain.slot_entries (joints_in_slots w.plain) w.plain.contacts item ↔ IsSome (stand_in w item)
  pub bodies : AreMatched w.plain.slot_entries w.plain.bodies
  pub joints : AreMatched w.plain.joint_entries w.plain.joints
  pub contacts : AreKeysRising w.plain.contacts
  pub sleepers : (name slot : ℕ) → SleepsIn w.plain.bodies name slot ↔ (option_map standing_of (body_at w.plain.bodies slot) ≡ Some (Sleeping name))

-- No two constraints of a colour share a mover: those with a colour are those that the world lists.
abbrev pub NoColourSharesAMover : World → Type 0
NoColourSharesAMover w = (ids_of (coloured_in w) ≡ w.plain.colours) × All AreApart (take COLOURS (coloured_in w))

-- A constraint has a colour, or stands in the overflow, just if its movers are awake.
abbrev pub WhatActsIsColoured : World → Type 0
WhatActsIsColoured w = (m : Member Constraint) → Contains (all_members (coloured_in w)) m ↔ (Contains (ties_of_world w) m × (movers_awake w.plain.bodies m.movers ≡ true))

-- Each has one colour: in the lists of the colours and that of the overflow constraints ascend by number, and none is
-- twice in them all. No two have one number, and each stands there with the movers that its bodies give it.
pub record EachHasOneColour (w : World) : Type 0 where
  pub colouring : IsColouring constraint_number (coloured_in w)
  pub named : (m : Member Constraint) → Contains (all_members (coloured_in w)) m → IsConstraintWithin m.id
  pub movers : (m : Member Constraint) → Contains (all_members (coloured_in w)) m → movers_of w.plain.bodies (joints_in_slots w.plain) m.id ≡ Some m.movers

-- Movers that touch or are jointed share an island.
abbrev pub LinkedShareAnIsland : World → Type 0
LinkedShareAnIsland w = (a b : ℕ) → AreLinked w a b → (l : Label) × (label_at w.plain.islands a ≡ Some l) × (label_at w.plain.islands b ≡ Some l)

-- They are awake or asleep together.
abbrev pub LinkedStandTogether : World → Type 0
LinkedStandTogether w = (a b : ℕ) (x y : Body) → AreLinked w a b → body_at w.plain.bodies a ≡ Some x → body_at w.plain.bodies b ≡ Some y → standing_of x ≡ standing_of y

-- Each sleeping set is one connected component: those that sleep in it are just those that links join to one of them.
abbrev pub EachSleepingSetIsOneComponent : World → Type 0
EachSleepingSetIsOneComponent w = (name slot other : ℕ) → SleepsIn w.plain.bodies name slot → SleepsIn w.plain.bodies name other ↔ Joined (AreLinked w) slot other

-- Each sleeping set is one island that isn't loose: those that sleep in it are just the movers of this island.
abbrev pub EachSleepingSetIsOneIsland : World → Type 0
EachSleepingSetIsOneIsland w =
    (name slot : ℕ) → SleepsIn w.plain.bodies name slot → (l : Label) × (is_loose l.state ≡ false) × ((other : ℕ) → SleepsIn w.plain.bodies name other ↔ (label_at w.plain.islands other ≡ Some l))

-- A body that isn't an awake mover has neither momentum nor angular momentum.
abbrev pub OnlyAwakeMoversHaveMomentum : World → Type 0
OnlyAwakeMoversHaveMomentum w = (slot : ℕ) (b : Body) → body_at w.plain.bodies slot ≡ Some b → is_awake b ≡ false → (b.motion.p.x ≡ pos 0) × (b.motion.p.y ≡ pos 0) × (b.motion.l ≡ pos 0)
