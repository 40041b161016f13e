use Rattle.std.proofs.Common.{◌≡◌, ◌^◌, ◌+ℤ◌, arith, rules}
use Rattle.std.proofs.lemmas.Int.{to_z-of_z}
use Rattle.std.specs.Int.{w64, w128}
use mir.Val.{SFits}
use Rattle.fixed_geom.proofs.Sizes.{sum_le}
use Rattle.momenta.proofs.Spins.{fits_128}
use Rattle.momenta.proofs.accumulated_impulse.next_total_128.Goals as goal

pub returns-clause-value : goal.returns-clause-value
returns-clause-value c =
    let low : SFits w64 c.args.goal.low = search rules in
    let high : SFits w64 c.args.goal.high = search rules in
    let total : SFits w64 c.args.goal.total = search rules in
    let speed : SFits w64 c.args.speed = c.ranges.speed in
    let bias : SFits w64 c.args.goal.bias = search rules in
    let inverse : SFits w128 c.args.inverse = c.ranges.inverse in
    let wanted : SFits w128 c.wanted-wanted.result = record { sfits = c.wanted-wanted.type_inv } in
    let lacks = simp to_z-of_z at c.wanted-wanted.ensures.value in
    let wide : SFits w128 c.from.result = record { sfits = c.from.type_inv } in
    let result : SFits w64 c.between.result = record { sfits = c.between.type_inv } in
    let from : c.from.result ≡ c.args.goal.total = simp to_z-of_z at c.from.ensures in
    let whole : SFits w128 (c.from.result +ℤ c.wanted-wanted.result) = fits_128 _ (rw from (omega (arith, sum_le c.args.goal.total c.wanted-wanted.result (2 ^ 43) (2 ^ 84) c.requires.total c.wanted-wanted.ensures.within))) in
    simp to_z-of_z (rw lacks at (rw from at (simp to_z-of_z at c.between.ensures.value)))
