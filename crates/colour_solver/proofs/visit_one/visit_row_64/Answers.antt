use Rattle.std.proofs.Common.{refl}
use Rattle.colour_solver.proofs.VisitLaws.{state_at}
use Rattle.colour_solver.proofs.visit_one.visit_row_64.Goals as goal

pub visit_64-requires-clause-first : goal.visit_64-requires-clause-first
visit_64-requires-clause-first g c = rw c.slots-slots.ensures (state_at c.args.states.now (g.R.Row.slots c.args.row.now).a _ _ c.requires.states c.requires.row.a refl)

pub visit_64-requires-clause-second : goal.visit_64-requires-clause-second
visit_64-requires-clause-second g c = rw c.slots-slots.ensures (state_at c.args.states.now (g.R.Row.slots c.args.row.now).b _ _ c.requires.states c.requires.row.b refl)
