use Rattle.std.proofs.Common.{◌≡◌, ◌∙◌, ap, refl, sym, true}
use Rattle.fixed_geom.specs.Vectors.{plus}
use Rattle.colour_solver.specs.States.{as_vector, total}
use Rattle.colour_solver.specs.RowVisits.{ends_of, got, visit_of}
use Rattle.colour_solver.proofs.PassedLaws.{got_movers, passed_one}
use Rattle.colour_solver.proofs.VectorLaws.{plus_zero}
use Rattle.colour_solver.proofs.row_pass.visit_next.Goals as goal

pub returns-then-are_movers-clause-passed : goal.returns-then-are_movers-clause-passed
returns-then-are_movers-clause-passed g c =
    let at = g.R.Row.slots in
    let is = g.R.Row.is_row in
    let f = g.T.Visit.visit c.args.visit.now in
    let ss = c.args.states.now.items in
    let r = c.args.row.now in
    let made = c.solve_one.ensures.visited in
    passed_one at is f ss c.solve_one.new.states.items r c.solve_one.new.row (got (ends_of at ss r) (visit_of at f ss r).ends) made.states made.row_is refl made.all_states made.below made.same (made.momentum ∙ ap (plus (total ss)) made.got_is)

pub returns-then-are_movers-clause-given : goal.returns-then-are_movers-clause-given
returns-then-are_movers-clause-given g c =
    let at = g.R.Row.slots in
    let f = g.T.Visit.visit c.args.visit.now in
    let ss = c.args.states.now.items in
    let r = c.args.row.now in
    let e = ends_of at ss r in
    let movers = c.if-are_movers.true in
    let first : e.a.movable ≡ true = rw (c.deref.ensures.value, c.slots-slots.ensures) at (c.are_movers.ensures.first movers) in
    let second : e.b.movable ≡ true = rw (c.deref.ensures.value, c.slots-slots.ensures) at (c.are_movers.ensures.second movers) in
    sym (ap (plus (as_vector c.args.given.now)) (got_movers e (visit_of at f ss r).ends first second) ∙ plus_zero (as_vector c.args.given.now))
