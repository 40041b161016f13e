use Rattle.std.proofs.Common.{◌≤◌, ◌-◌, length, arith}
use Rattle.std.specs.Vec.{vec_len}
use Rattle.packed_sets.proofs.SpotLaws.{resized}
use Rattle.packed_sets.proofs.spots.grow_spots.Goals as goal

pub returns-clause-same : goal.returns-clause-same
returns-clause-same c = λ id.
    let spots = c.args.spots.now in
    let n = c.max.result in
    let le : length spots.items ≤ n = omega (arith, spots.ok.0, c.max.ensures, c.len.ensures) in
    rw c.in_ok-resize.ensures.items (resized spots.items n (n - vec_len spots) id le)
