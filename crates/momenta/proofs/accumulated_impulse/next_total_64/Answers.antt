use Rattle.std.proofs.Common.{◌≡◌, ◌∙◌, ap, sym, ◌^◌, pos, neg_ℤ, ◌-ℤ◌, ◌+ℤ◌, ◌≤ℤ◌, arith, rules}
use Rattle.std.proofs.lemmas.Int.{to_z-of_z, ints}
use Rattle.std.specs.Int.{w64}
use mir.Val.{SFits, to_z}
use Rattle.fixed_geom.proofs.Sizes.{difference_le, sum_le}
use Rattle.momenta.specs.Impulses.{wanted}
use Rattle.momenta.proofs.Spins.{fits_64}
use Rattle.momenta.proofs.Totals.{kept_at_low, none_wanted}
use Rattle.momenta.proofs.accumulated_impulse.next_total_64.Goals as goal

pub returns-clause-value : goal.returns-clause-value
unfolding wanted
returns-clause-value c =
    let speed : SFits w64 c.args.speed = c.ranges.speed in
    let bias : SFits w64 c.args.goal.bias = search rules in
    let inverse : SFits w64 c.args.inverse = c.ranges.inverse in
    let low : SFits w64 c.args.goal.low = search rules in
    let high : SFits w64 c.args.goal.high = search rules in
    let total : SFits w64 c.args.goal.total = search rules in
    let change : SFits w64 (c.args.goal.bias -ℤ c.args.speed) = fits_64 _ (omega (arith, difference_le c.args.goal.bias c.args.speed (2 ^ 20) (2 ^ 20) c.requires.bias c.requires.speed)) in
    let wanted : SFits w64 c.over_inverse_by-wanted.result = record { sfits = c.over_inverse_by-wanted.type_inv } in
    let sum : SFits w64 (c.args.goal.total +ℤ c.over_inverse_by-wanted.result) = fits_64 _ (omega (arith, sum_le c.args.goal.total c.over_inverse_by-wanted.result (2 ^ 43) (2 ^ 42) c.requires.total c.over_inverse_by-wanted.ensures.within)) in
    let result : SFits w64 c.between_64.result = record { sfits = c.between_64.type_inv } in
    let turned : neg_ℤ (c.args.speed -ℤ c.args.goal.bias) ≡ c.args.goal.bias -ℤ c.args.speed = omega (arith, ints) in
    let lacks = simp to_z-of_z at c.over_inverse_by-wanted.ensures.value in
    simp to_z-of_z (rw turned (rw lacks at (simp to_z-of_z at c.between_64.ensures.value)))

pub returns-then-goal-clause-value : goal.returns-then-goal-clause-value
returns-then-goal-clause-value c =
    let speed : SFits w64 c.args.speed = c.ranges.speed in
    let bias : SFits w64 c.args.goal.bias = search rules in
    let low : SFits w64 c.args.goal.low = search rules in
    let total : SFits w64 c.args.goal.total = search rules in
    let least : c.args.goal.total ≡ c.args.goal.low = sym (to_z-of_z w64 c.args.goal.total total) ∙ ap (to_z w64) c.if-goal.true ∙ to_z-of_z w64 c.args.goal.low low in
    let some : pos 1 ≤ℤ c.args.inverse = omega (arith, ints, c.requires.inverse) in
    let past : c.args.goal.bias ≤ℤ c.args.speed = grind (arith, ints) in
    simp to_z-of_z (kept_at_low c.args.goal.low c.args.goal.high c.args.goal.total _ c.requires.order least (none_wanted c.args.speed c.args.goal.bias c.args.inverse past some))
