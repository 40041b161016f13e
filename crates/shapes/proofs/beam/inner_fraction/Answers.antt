use Rattle.std.proofs.Common.{◌≡◌, ◌^◌, ◌*ℤ◌, arith}
use Rattle.std.proofs.lemmas.Int.{to_z-of_z, ints}
use Rattle.std.specs.Int.{w128}
use mir.Val.{SFits}
use Rattle.shapes.specs.Rays.{whole}
use Rattle.shapes.proofs.BeamLemmas.{IsInside, fdiv_inside}
use Rattle.shapes.proofs.beam.inner_fraction.Goals as goal

pub overflow_cast-result : goal.overflow_cast-result
overflow_cast-result c =
    let part : SFits w128 c.args.part = c.ranges.part in
    let whole_fits : SFits w128 c.args.whole = c.ranges.whole in
    let product : SFits w128 c.times_whole.result = record { sfits = c.times_whole.type_inv } in
    let quotient : SFits w128 c.fdiv.result = record { sfits = c.fdiv.type_inv } in
    let times : c.times_whole.result ≡ c.args.part *ℤ whole = simp to_z-of_z at c.times_whole.ensures.value in
    let divided = simp to_z-of_z at c.fdiv.ensures.value in
    let inside : IsInside (2 ^ 24) c.fdiv.result =
    rw (divided, times) (fdiv_inside (c.args.part *ℤ whole) c.args.whole (2 ^ 24) (omega (arith, ints, c.requires.nonnegative)) c.requires.positive (omega (arith, ints, c.requires.nonnegative, c.requires.inside))) in
    let size = simp to_z-of_z at c.unsigned_abs.ensures.value in
    omega (arith, size, inside.small)
