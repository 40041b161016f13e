use Rattle.std.proofs.Common.{◌≡◌}
use Rattle.colour_solver.specs.States.{as_vector}
use Rattle.colour_solver.specs.RowVisits.{ends_64, ends_of, got}
use Rattle.colour_solver.proofs.VisitedLaws.{visited_by}
use Rattle.colour_solver.proofs.visit_one.visit_in_place.Goals as goal

pub visit_row_64-requires-clause-states : goal.visit_row_64-requires-clause-states
visit_row_64-requires-clause-states g c = rw c.deref.ensures.value c.requires.states

pub put_visit-requires-clause-after : goal.put_visit-requires-clause-after
put_visit-requires-clause-after g c = rw c.slots-slots.ensures (rw c.deref.ensures.value at c.in-Some.ensures.value).states

pub returns-in-Some-clause-visited : goal.returns-in-Some-clause-visited
returns-in-Some-clause-visited g c =
    let ss = c.args.states.now.items in
    let r = c.args.row.now in
    let visited = rw c.deref.ensures.value at c.in-Some.ensures.value in
    let got_is : as_vector c.put_visit.result ≡ got (ends_of g.R.Row.slots ss r) (ends_64 g.R.Row.slots ss r c.in-Some.now) = rw c.slots-slots.ensures at c.put_visit.ensures.got in
    rw (c.put_visit.ensures.states, c.slots-slots.ensures)
    (visited_by g.R.Row.slots g.R.Row.is_row (g.T.Visit.visit c.args.visit.now) ss r _ (ends_64 g.R.Row.slots ss r c.in-Some.now) (as_vector c.put_visit.result) c.requires.row c.requires.states visited.value visited.row c.in-Some.ensures.slots visited.states visited.same visited.kept got_is)
