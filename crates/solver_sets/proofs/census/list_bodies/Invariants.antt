use Rattle.std.proofs.Common.{◌≡◌, drop}
use Rattle.plain_world.specs.Bodies.{standing_of}
use Rattle.solver_sets.specs.declared.census.Item.TheVariants as items
use Rattle.solver_sets.specs.Census.{AreNamed, body_standings, standings_from}
use Rattle.solver_sets.specs.CensusListing.{with_all}
use Rattle.solver_sets.proofs.census.list_bodies.Given as goal

abbrev pub invariant-loop-slot : goal.invariant-loop-slot
invariant-loop-slot l = record {
  listed : with_all l.census (standings_from items.Body standing_of l.slot (drop l.slot l.slot_entries) (drop l.slot l.bodies)) ≡ with_all l.fn.census (body_standings l.slot_entries l.bodies);
  named : AreNamed l.census.sleeping;
}
