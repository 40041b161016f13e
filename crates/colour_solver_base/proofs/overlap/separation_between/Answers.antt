use Rattle.std.proofs.Common.{◌≡◌, ◌≤◌, ◌+◌, ◌*◌, ◌^◌, ◌+ℤ◌, unsigned_abs, arith, ap, ◌∙◌}
use Rattle.fixed_geom.specs.Numbers.{rdiv}
use Rattle.fixed_geom.specs.Vectors.{IsWithin, dot, minus, unit_length}
use Rattle.fixed_geom.specs.declared.vectors.Vec2.{Vec2}
use Rattle.fixed_geom.proofs.Sizes.{IsSum64, sum_64}
use Rattle.momenta.specs.Impulses.{travelled}
use Rattle.colour_solver_base.specs.Rows.{separation_now}
use Rattle.colour_solver_base.proofs.overlap.separation_between.Goals as goal

near : (c : goal.After-part_along) → unsigned_abs c.part_along.result ≤ 2 ^ 39
near c = c.part_along.ensures.near (c.minus-parted.ensures.within (2 ^ 37) c.travelled.ensures.within c.travelled-2.ensures.within)

exact : (c : goal.After-part_along) → IsSum64 c.args.point.now.separation c.part_along.result
exact c = sum_64 c.args.point.now.separation c.part_along.result (omega (arith, c.requires.point.separation)) (omega (arith, near c))

parted : (c : goal.After-part_along) → c.part_along.result ≡ rdiv (dot (minus (travelled c.args.b.now) (travelled c.args.a.now)) c.args.point.now.normal) unit_length
parted c = rw (c.minus-parted.ensures.value, c.travelled.ensures.value, c.travelled-2.ensures.value) at c.part_along.ensures.value

wide : (v : Vec2) → IsWithin (2 * 2 ^ 37) v → IsWithin (2 ^ 61 + 2 ^ 26) v
wide v h = record { x = omega (arith, h.x); y = omega (arith, h.y) }

pub part_along-requires-clause-v : goal.part_along-requires-clause-v
part_along-requires-clause-v c = wide c.minus-parted.result (c.minus-parted.ensures.within (2 ^ 37) c.travelled.ensures.within c.travelled-2.ensures.within)

pub overflow_add-result : goal.overflow_add-result
overflow_add-result c = (exact c).fits

pub returns-clause-value : goal.returns-clause-value
unfolding separation_now
returns-clause-value c = (exact c).value ∙ ap (λ v. c.args.point.now.separation +ℤ v) (parted c)

pub returns-clause-within : goal.returns-clause-within
returns-clause-within c = rw (exact c).value (omega (arith, (exact c).size, near c, c.requires.point.separation))
