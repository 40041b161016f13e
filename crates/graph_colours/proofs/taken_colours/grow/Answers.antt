use Rattle.std.proofs.Common.{◌≤◌, ◌-◌, length, arith}
use Rattle.std.specs.Vec.{vec_len}
use Rattle.graph_colours.proofs.TakenLemmas.{resized}
use Rattle.graph_colours.proofs.taken_colours.grow.Goals as goal

pub returns-clause-same : goal.returns-clause-same
returns-clause-same c = λ slot.
    let words = c.args.words.now in
    let n = c.max.result in
    let le : length words.items ≤ n = omega (arith, words.ok.0, c.max.ensures, c.len.ensures) in
    rw c.in_ok-resize.ensures.items (resized words.items n (n - vec_len words) slot le)
