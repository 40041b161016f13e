use Rattle.std.proofs.Common.{◌≡◌, IfOk}
use Rattle.world_core.specs.contracts.world.WorldCore.{the_view}
use Rattle.world_core.proofs.CountLaws.{counted, each_once, lists_are}
use Rattle.world_core.proofs.world.WorldCore.census_with.Goals as goal

taken : (c : goal.After-take_census) → IfOk c.take_census.result (λ census. census ≡ counted (the_view c.self.inside))
taken c = rw (c.slot_entries.ensures, c.bodies.ensures, c.slot_entries-2.ensures, c.joints.ensures, rw (← c.self.view_is) at c.requires) at c.take_census.ensures.value

pub returns-clause-census : goal.returns-clause-census
returns-clause-census c = rw (← c.self.view_is) (lists_are (the_view c.self.inside) c.take_census.result (taken c))

pub returns-clause-each_once : goal.returns-clause-each_once
returns-clause-each_once c = rw (← c.self.view_is) (each_once (the_view c.self.inside) c.take_census.result c.self.invariant.whole.sound (taken c))
