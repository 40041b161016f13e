use Rattle.std.proofs.Common.{◌∙◌, ap, refl}
use Rattle.fixed_geom.specs.Vectors.{plus}
use Rattle.colour_solver.specs.States.{as_vector, total}
use Rattle.colour_solver.specs.RowVisits.{ends_of, got, visit_of}
use Rattle.colour_solver.proofs.PassedLaws.{passed_one}
use Rattle.colour_solver.proofs.row_pass.add_visit.Goals as goal

pub returns-clause-passed : goal.returns-clause-passed
returns-clause-passed g c =
    let at = g.R.Row.slots in
    let is = g.R.Row.is_row in
    let f = g.T.Visit.visit c.args.visit.now in
    let ss = c.args.states.now.items in
    let r = c.args.row.now in
    let made = c.solve_one-got.ensures.visited in
    passed_one at is f ss c.solve_one-got.new.states.items r c.solve_one-got.new.row (got (ends_of at ss r) (visit_of at f ss r).ends) made.states made.row_is refl made.all_states made.below made.same (made.momentum ∙ ap (plus (total ss)) made.got_is)

pub returns-clause-given : goal.returns-clause-given
returns-clause-given g c = rw (c.plus.ensures.x, c.plus.ensures.y) (ap (plus (as_vector c.args.given.now)) c.solve_one-got.ensures.visited.got_is)
