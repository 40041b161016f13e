use Rattle.std.proofs.Common.{rules}
use Rattle.std.proofs.lemmas.Int.{to_z-of_z}
use Rattle.std.specs.Int.{w64, w128}
use mir.Val.{SFits}
use Rattle.momenta.proofs.Laws64.{inverse_fits, reciprocal_passed}
use Rattle.momenta.proofs.accumulated_impulse.next_total.Goals as goal

pub returns-then-has_room_64-clause-value : goal.returns-then-has_room_64-clause-value
returns-then-has_room_64-clause-value c =
    let speed : SFits w64 c.args.speed = c.ranges.speed in
    let bias : SFits w64 c.args.goal.bias = search rules in
    let wide : SFits w128 c.args.inverse = c.ranges.inverse in
    let inverse : SFits w64 c.args.inverse = inverse_fits c.args.inverse wide c.requires.inverse (c.has_room_64.ensures.inverse c.if-has_room_64.true) in
    let low : SFits w64 c.args.goal.low = search rules in
    let high : SFits w64 c.args.goal.high = search rules in
    let total : SFits w64 c.args.goal.total = search rules in
    let result : SFits w64 c.next_total_64.result = record { sfits = c.next_total_64.type_inv } in
    simp to_z-of_z (simp to_z-of_z at c.next_total_64.ensures.value)

pub next_total_64-requires-clause-reciprocal : goal.next_total_64-requires-clause-reciprocal
next_total_64-requires-clause-reciprocal c =
    reciprocal_passed c.args.inverse c.args.reciprocal c.ranges.inverse c.ranges.reciprocal c.requires.inverse (c.has_room_64.ensures.inverse c.if-has_room_64.true) c.requires.reciprocal
