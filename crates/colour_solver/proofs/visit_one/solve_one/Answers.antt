use Rattle.std.proofs.Common.{◌≡◌, ap, refl, sym, rules}
use Rattle.colour_solver_base.specs.RowsAfter.{RowAfter}
use Rattle.colour_solver.proofs.IdleLaws.{idle_after, idle_got, idle_visit}
use Rattle.colour_solver.specs.States.{as_vector, total}
use Rattle.colour_solver.specs.RowVisits.{centres_64, ends_of, got}
use Rattle.colour_solver.proofs.VisitedLaws.{visited_by}
use Rattle.colour_solver.proofs.VectorLaws.{plus_zero}
use Rattle.colour_solver.proofs.visit_one.solve_one.Goals as goal

pub returns-then-is_idle-clause-visited : goal.returns-then-is_idle-clause-visited
returns-then-is_idle-clause-visited g c =
    let at = g.R.Row.slots in
    let is = g.R.Row.is_row in
    let f = g.T.Visit.visit c.args.visit.now in
    let ss = c.args.states.now.items in
    let r = c.args.row.now in
    let idle = c.is_idle.ensures c.if-is_idle.true in
    record {
      states = idle_after at is f ss r c.requires.states c.requires.row idle;
      row_is = sym (ap (λ (t : RowAfter g.row.R.Denot). t.row) (idle_visit at is f ss r c.requires.states c.requires.row idle));
      got_is = idle_got at is f ss r c.requires.states c.requires.row idle;
      all_states = c.requires.states;
      below = c.requires.row;
      long = refl;
      same = search rules;
      momentum = sym (plus_zero (total ss));
    }

pub visit_row_centres_64-requires-clause-states : goal.visit_row_centres_64-requires-clause-states
visit_row_centres_64-requires-clause-states g c = rw c.deref.ensures.value c.requires.states

pub put_centres-requires-clause-after : goal.put_centres-requires-clause-after
put_centres-requires-clause-after g c = rw c.slots-slots.ensures (rw c.deref.ensures.value at c.in-Some.ensures.value).states

pub returns-in-Some-clause-visited : goal.returns-in-Some-clause-visited
returns-in-Some-clause-visited g c =
    let ss = c.args.states.now.items in
    let r = c.args.row.now in
    let visited = rw c.deref.ensures.value at c.in-Some.ensures.value in
    let got_is : as_vector c.put_centres.result ≡ got (ends_of g.R.Row.slots ss r) (centres_64 g.R.Row.slots ss r c.in-Some.now) = rw c.slots-slots.ensures at c.put_centres.ensures.got in
    rw (c.put_centres.ensures.states, c.slots-slots.ensures)
    (visited_by g.R.Row.slots g.R.Row.is_row (g.T.Visit.visit c.args.visit.now) ss r _ (centres_64 g.R.Row.slots ss r c.in-Some.now) (as_vector c.put_centres.result) c.requires.row c.requires.states visited.value visited.row c.in-Some.ensures.slots visited.states visited.same visited.kept got_is)
