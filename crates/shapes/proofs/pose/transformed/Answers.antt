use Rattle.std.proofs.Common.{◌≡◌, pos, ◌*◌, ◌^◌, arith, refl}
use Rattle.std.proofs.lemmas.Int.{ints}
use Rattle.shapes.specs.Poses.{transformed}
use Rattle.shapes.proofs.PointLemmas.{posed_center}
use Rattle.shapes.proofs.pose.transformed.Goals as goal

pub returns-clause-value : goal.returns-clause-value
unfolding transformed
returns-clause-value c = rw (c.plus.ensures.value, c.rotate_64.ensures.value) refl

pub returns-clause-within : goal.returns-clause-within
returns-clause-within c =
    let near = c.plus.ensures.within (2 ^ 36) (2 * 2 ^ 24) c.requires.pose.x (c.rotate_64.ensures.within (2 ^ 24) c.requires.near) in
    record { x = omega (arith, near.x); y = omega (arith, near.y) }

pub returns-then-v-eq0-2-clause-value : goal.returns-then-v-eq0-2-clause-value
returns-then-v-eq0-2-clause-value c =
    let x : c.args.v.x ≡ pos 0 = grind (arith, ints) in
    let y : c.args.v.y ≡ pos 0 = grind (arith, ints) in
    posed_center c.args.pose c.args.v x y

pub plus-requires-clause-second : goal.plus-requires-clause-second
plus-requires-clause-second c =
    let near = c.rotate_64.ensures.within (2 ^ 24) c.requires.near in
    record { x = omega (arith, near.x); y = omega (arith, near.y) }
