-- The census of a sound world lists each of its bodies, joints and contacts once, where it stands.
use Rattle.solver_sets.specs.Laws as sets
use Rattle.solver_sets.specs.Alike.{OnlyMoversSleep}
use Rattle.solver_sets.proofs.EachOnceLaws as set_census_laws
use Rattle.world_rules.specs.Laws.{EachStandsInOneSet}
use Rattle.world_rules.specs.Sound.{IsSound}
use Rattle.world_rules.specs.World.{World, joints_in_slots}
use Rattle.world_rules.proofs.SlotLemmas.{body_at-in}

census_lists_each_once : sets.CensusListsEachOnce
census_lists_each_once = set_census_laws.census_lists_each_once

only_movers_sleep : (w : World) → IsSound w → OnlyMoversSleep w.plain.bodies
only_movers_sleep w s slot b there still = (s.formed.bodies slot b (body_at-in w.plain.bodies slot b there)).asleep still

pub each_stands_in_one_set : EachStandsInOneSet
each_stands_in_one_set w s = census_lists_each_once w.plain.slot_entries w.plain.bodies (joints_in_slots w.plain) w.plain.contacts s.formed.matched s.formed.joint_slots s.formed.contacts (only_movers_sleep w s)
