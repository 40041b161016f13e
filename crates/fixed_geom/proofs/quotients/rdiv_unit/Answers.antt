use Rattle.std.proofs.Common.{pos, ◌<ℤ◌, ◌≤ℤ◌, arith}
use Rattle.std.proofs.lemmas.Int.{ints}
use Rattle.fixed_geom.specs.Vectors.{unit_length}
use Rattle.fixed_geom.proofs.QuotientLemmas.{rdiv_le}
use Rattle.fixed_geom.proofs.Shifts.{shift_down_128, shift_up_128}
use Rattle.fixed_geom.proofs.quotients.rdiv_unit.Goals as goal

pub overflow_cast-result : goal.overflow_cast-result
overflow_cast-result c =
    let negative : c.args.x <ℤ pos 0 = grind (arith, ints) in
    (shift_down_128 c.args.x negative c.requires).fits

pub overflow_cast-result-else-x-lt0 : goal.overflow_cast-result-else-x-lt0
overflow_cast-result-else-x-lt0 c =
    let nonnegative : pos 0 ≤ℤ c.args.x = grind (arith, ints) in
    (shift_up_128 c.args.x nonnegative c.requires).fits

pub returns-then-x-lt0 : goal.returns-then-x-lt0
returns-then-x-lt0 c =
    let negative : c.args.x <ℤ pos 0 = grind (arith, ints) in
    let value = (shift_down_128 c.args.x negative c.requires).value in
    record { value = value; within = λ k h. rw value (rdiv_le c.args.x unit_length k (omega (arith, ints)) h) }

pub returns-else-x-lt0 : goal.returns-else-x-lt0
returns-else-x-lt0 c =
    let nonnegative : pos 0 ≤ℤ c.args.x = grind (arith, ints) in
    let value = (shift_up_128 c.args.x nonnegative c.requires).value in
    record { value = value; within = λ k h. rw value (rdiv_le c.args.x unit_length k (omega (arith, ints)) h) }
