-- What a census that was taken says of a sound world.
use Rattle.std.proofs.Common.{◌≡◌, Result, Ok, Err, IfOk, sym, subst}
use Rattle.solver_sets.specs.Census.{Census, IsCensus, census_of, standings_of}
use Rattle.solver_sets.specs.EachOnce.{ListsEachOnce}
use Rattle.solver_sets.proofs.CensusLaws.{lists_are_census}
use Rattle.world_rules.specs.Sound.{IsSound}
use Rattle.world_rules.specs.World.{World, joints_in_slots}
use Rattle.world_rules.proofs.StandLaws.{each_stands_in_one_set}

-- the census of a world
abbrev pub counted : World → Census
counted w = census_of w.plain.slot_entries w.plain.bodies (joints_in_slots w.plain) w.plain.contacts

counted_is : (w : World) → IsCensus (standings_of w.plain.slot_entries w.plain.bodies (joints_in_slots w.plain) w.plain.contacts) (counted w)
unfolding census_of
counted_is w = lists_are_census (standings_of w.plain.slot_entries w.plain.bodies (joints_in_slots w.plain) w.plain.contacts)

pub lists_are : {E : Type 0} (w : World) (r : Result Census E) → IfOk r (λ (c : Census). c ≡ counted w) → IfOk r (λ (c : Census). IsCensus (standings_of w.plain.slot_entries w.plain.bodies (joints_in_slots w.plain) w.plain.contacts) c)
lists_are w (Ok c) h = subst (λ (k : Census). IsCensus (standings_of w.plain.slot_entries w.plain.bodies (joints_in_slots w.plain) w.plain.contacts) k) (sym h) (counted_is w)
lists_are w (Err e) h = tt

pub each_once : {E : Type 0} (w : World) (r : Result Census E) → IsSound w → IfOk r (λ (c : Census). c ≡ counted w) → IfOk r (λ (c : Census). ListsEachOnce w.plain.slot_entries w.plain.bodies (joints_in_slots w.plain) w.plain.contacts c)
each_once w (Ok c) sound h = subst (λ (k : Census). ListsEachOnce w.plain.slot_entries w.plain.bodies (joints_in_slots w.plain) w.plain.contacts k) (sym h) (each_stands_in_one_set w sound)
each_once w (Err e) sound h = tt
