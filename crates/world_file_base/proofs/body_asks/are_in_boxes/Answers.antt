use Rattle.std.proofs.Common.{sym, ◌∙◌, arith}
use Rattle.world_file_base.proofs.Listed.{no_box}
use Rattle.world_file_base.proofs.body_asks.are_in_boxes.Goals as goal

pub returns-then-place-fats : goal.returns-then-place-fats
returns-then-place-fats c = sym (no_box c.args.pose c.args.defs.now c.args.fats.now c.loop-place.place (omega arith) (omega arith)) ∙ c.loop-place.invariant
