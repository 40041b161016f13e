use Rattle.std.proofs.Common.{◌≡◌, ◌+◌, ap, ◌∙◌, arith}
use Rattle.colour_solver.specs.States.{movers_of}
use Rattle.world_core_base.proofs.TimeLaws.{awake_places}
use Rattle.world_core_base.proofs.body_table.BodyTable.awake.Goals as goal

pub returns : goal.returns
returns c =
    let flushed : c.self.inside.awake.pending + c.self.inside.carried.pending ≡ 0 = rw (← c.self.view_is) at c.requires.flushed in
    rw (← c.self.view_is) (c.as_slice.ensures ∙ c.self.invariant.movers.exact (omega (arith, flushed)) ∙ ap movers_of c.self.invariant.states ∙ awake_places c.self.inside.bodies.items)
