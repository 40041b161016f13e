use Rattle.std.proofs.Common.{◌∙◌, arith}
use Rattle.world_core.proofs.NamedLaws.{stirs_none, stirs_shape}
use Rattle.world_core.proofs.collide.stirs_with.Goals as goal

pub returns-then-from-as_slice : goal.returns-then-from-as_slice
returns-then-from-as_slice c = c.stirs.ensures ∙ stirs_shape c.args.id c.args.body.now c.if-not-body.false (rw (c.from.ensures, c.as_slice.ensures) at c.if-from-as_slice.true) (omega (arith, c.requires.fats.long))

pub returns-else-from-as_slice : goal.returns-else-from-as_slice
returns-else-from-as_slice c = stirs_none c.args.id c.args.body.now c.if-not-body.false (rw (c.from.ensures, c.as_slice.ensures) at c.if-from-as_slice.false)
