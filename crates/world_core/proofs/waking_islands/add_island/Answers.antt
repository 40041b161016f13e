use Rattle.std.proofs.Common.{◌++◌, ◌∙◌, ℕ, List, ap}
use Rattle.world_core.proofs.TellingLaws.{island_added}
use Rattle.world_core.proofs.waking_islands.add_island.Goals as goal

pub returns-clause-island : goal.returns-clause-island
returns-clause-island c =
    island_added c.args.sets.now.acting.labels c.args.slot c.in-Some.name c.in_ok-island.island.items c.args.movers.now.items c.extend_from_slice.new.self.items c.in-Some.ensures (rw c.islands.ensures at c.in_ok-island.ensures.members)
    (c.in_ok-extend_from_slice.ensures.items ∙ ap (λ (l : List ℕ). c.args.movers.now.items ++ l) c.deref.ensures.value)
