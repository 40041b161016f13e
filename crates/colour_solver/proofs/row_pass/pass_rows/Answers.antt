use Rattle.std.proofs.Common.{◌+◌, ◌<◌, length, set, arith, ◌∙◌}
use Rattle.std.proofs.lemmas.List.{drop-set-lt, length-set, take-set-le}
use Rattle.colour_solver.specs.States.{as_vector}
use Rattle.colour_solver.specs.RowVisits.{IsPassed, between, ends_of, got, visit_of}
use Rattle.colour_solver.proofs.PassedLaws.{drop_further, passed_more, passed_small}
use Rattle.colour_solver.proofs.VisitLaws.{row_at, rows_below}
use Rattle.colour_solver.proofs.row_pass.pass_rows.Goals as goal

pub visit_next-requires-clause-row : goal.visit_next-requires-clause-row
visit_next-requires-clause-row g c =
    let rows = c.loop-index.rows.items in
    let here : c.loop-index.index < length rows = omega (arith, c.loop-index-test.true, c.requires.inside, c.loop-index.invariant.as_many) in
    row_at g.R.Row.slots g.R.Row.is_row (length c.loop-index.states.items) rows c.loop-index.index c.index_mut.result.now c.loop-index.invariant.all_rows here c.index_mut.ensures.value

pub loop-index-preserved : goal.loop-index-preserved
loop-index-preserved g c =
    let at = g.R.Row.slots in
    let is = g.R.Row.is_row in
    let f = g.T.Visit.visit c.args.visit.now in
    let before = c.args.states.now.items in
    let all = c.args.rows.now.items in
    let states = c.loop-index.states.items in
    let new = c.visit_next.new.states.items in
    let rows = c.loop-index.rows.items in
    let start = c.args.start in
    let index = c.loop-index.index in
    let row = c.index_mut.result.now in
    let visited = c.visit_next.new.row in
    let given = c.loop-index.given in
    let extra = got (ends_of at states row) (visit_of at f states row).ends in
    let known = c.loop-index.invariant in
    let made = c.visit_next.ensures in
    let here : index < length all = omega (arith, c.loop-index-test.true, c.requires.inside) in
    let there : index < length rows = omega (arith, here, known.as_many) in
    let more = passed_more at is f before states new start index all rows row visited (as_vector given) extra known.low here there c.index_mut.ensures.value known.behind known.passed made.passed in
    let passed : IsPassed at is f before (between start (index + 1) all) new (between start (index + 1) (set rows index visited)) (as_vector c.visit_next.new.given) = rw made.given more in
    record {
      passed = passed;
      before = take-set-le start rows index visited known.low ∙ known.before;
      behind = drop-set-lt (index + 1) rows index visited (omega arith) ∙ drop_further index (index + 1) rows all (omega arith) known.behind;
      as_many = length-set rows index visited ∙ known.as_many;
      all_rows = rows_below at is (length new) (length states) rows index visited made.long known.all_rows made.below;
      small = passed_small at is f before new (between start (index + 1) all) (between start (index + 1) (set rows index visited)) c.visit_next.new.given c.requires.few c.requires.states passed;
      low = omega (arith, known.low);
      high = omega (arith, c.loop-index-test.true);
    }
