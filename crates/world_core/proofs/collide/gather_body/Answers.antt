use Rattle.std.proofs.Common.{◌≤◌, length, All, arith}
use Rattle.shapes.specs.Shapes.{IsShapeDef}
use Rattle.shapes.specs.Poses.{IsPose}
use Rattle.world_core.proofs.CollideLaws.{eight_at_most}
use Rattle.world_core.proofs.collide.gather_body.Goals as goal

pub overflow_cast-index : goal.overflow_cast-index
overflow_cast-index c =
    let few : length c.as_slice-defs.result.now ≤ 8 = rw c.as_slice-defs.ensures (eight_at_most _ _ c.requires.body.shapes) in
    omega (arith, few)

pub push-requires-clause-proxy : goal.push-requires-clause-proxy
push-requires-clause-proxy c =
    let few : length c.as_slice-defs.result.now ≤ 8 = rw c.as_slice-defs.ensures (eight_at_most _ _ c.requires.body.shapes) in
    let forms : All IsShapeDef c.as_slice-defs.result.now = rw c.as_slice-defs.ensures c.requires.body.forms in
    let pose : IsPose c.pose-pose.result = rw c.pose-pose.ensures (record { x = c.requires.body.motion.x; rot = c.requires.body.motion.facing }) in
    record { shape = (forms c.loop-index.index _ c.loop-index-test.true).shape; pose = pose; surface = c.surface_of.ensures.surface (forms c.loop-index.index _ c.loop-index-test.true); slot = c.requires.slot; index = omega (arith, few) }

pub returns-clause-before : goal.returns-clause-before
returns-clause-before c =
    let few : length c.as_slice-defs.result.now ≤ 8 = rw c.as_slice-defs.ensures (eight_at_most _ _ c.requires.body.shapes) in
    λ k d h. let before = c.loop-index.invariant.before k d h in omega (arith, before, few)
