use Rattle.std.proofs.Common.{◌≡◌, ◌≤◌, ◌^◌, ◌+ℤ◌, unsigned_abs, arith, ap, ◌∙◌}
use Rattle.fixed_geom.proofs.Sizes.{IsSum64, sum_64}
use Rattle.joint_rows.specs.Joints.{parted_along}
use Rattle.joint_rows.specs.Rows.{stretch_now}
use Rattle.joint_rows.proofs.solve.stretch_between.Goals as goal

near : (c : goal.After-part_along) → unsigned_abs c.part_along.result ≤ 2 ^ 39
near c = c.part_along.ensures.near (c.minus-parted.ensures.within (2 ^ 37) c.travelled.ensures.within c.travelled-2.ensures.within)

exact : (c : goal.After-part_along) → IsSum64 c.args.row.now.stretch c.part_along.result
exact c = sum_64 c.args.row.now.stretch c.part_along.result (omega (arith, c.requires.row.stretch)) (omega (arith, near c))

parted : (c : goal.After-part_along) → c.part_along.result ≡ parted_along c.args.row.now.line.direction (record { a = c.args.a.now; b = c.args.b.now })
parted c = rw (c.minus-parted.ensures.value, c.travelled.ensures.value, c.travelled-2.ensures.value) at c.part_along.ensures.value

pub returns-clause-value : goal.returns-clause-value
unfolding stretch_now
returns-clause-value c = (exact c).value ∙ ap (λ v. c.args.row.now.stretch +ℤ v) (parted c)

pub returns-clause-within : goal.returns-clause-within
returns-clause-within c = rw (exact c).value (omega (arith, (exact c).size, near c, c.requires.row.stretch))

pub overflow_add-result : goal.overflow_add-result
overflow_add-result c = (exact c).fits
