use Rattle.std.proofs.Common.{sym, arith}
use Rattle.world_core.proofs.NamedLaws.{shape_none, shape_some}
use Rattle.world_core.proofs.collide.shape_of.Goals as goal

pub returns-then-index-defs : goal.returns-then-index-defs
returns-then-index-defs c = sym (shape_none c.args.id c.args.body.now c.if-not-body.false (rw (c.from-index.ensures, c.as_slice-defs.ensures) at c.if-index-defs.true))

pub returns : goal.returns
returns c = shape_some c.args.id c.args.body.now c.as_slice-defs.result.now c.as_slice-fats.result.now c.from-index.result _ _ _ _ _ _ c.if-not-body.false c.as_slice-defs.ensures c.as_slice-fats.ensures c.from-index.ensures c.if-index-defs.false (omega (arith, c.requires.fats.long)) c.is_dynamic.ensures c.stirs.ensures c.pose.ensures c.surface_of.ensures.value
