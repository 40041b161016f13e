use Rattle.std.proofs.Common.{◌-◌, arith}
use Rattle.world_file.proofs.Apart.{apart_else, apart_then, taken_step}
use Rattle.world_file.proofs.colours.is_colour_apart.Goals as goal

pub loop-left-preserved-then-is_unshared : goal.loop-left-preserved-then-is_unshared
loop-left-preserved-then-is_unshared c = record {
  below = omega arith;
  apart = apart_then c.args.ties.now c.args.colour (c.loop-left.left - 1) c.loop-left.left _ c.loop-left.used.items c.in_ok-is_unshared.is_unshared c.loop-left.apart (omega arith) (omega arith)
      c.loop-left.invariant.taken c.loop-left.invariant.apart c.in_ok-is_unshared.ensures.unshared c.if-is_unshared.true;
  taken = taken_step c.args.ties.now c.args.colour (c.loop-left.left - 1) c.loop-left.left _ c.loop-left.used.items c.take_tie.new.used.items (omega arith) (omega arith) c.loop-left.invariant.taken c.in_ok-is_unshared.ensures.taken;
}

pub loop-left-preserved : goal.loop-left-preserved
loop-left-preserved c = record {
  below = omega arith;
  apart = apart_else c.args.ties.now c.args.colour (c.loop-left.left - 1) c.loop-left.left _ c.loop-left.used.items c.in_ok-is_unshared.is_unshared c.loop-left.apart (omega arith) (omega arith)
      c.loop-left.invariant.taken c.loop-left.invariant.apart c.in_ok-is_unshared.ensures.unshared c.if-is_unshared.false;
  taken = taken_step c.args.ties.now c.args.colour (c.loop-left.left - 1) c.loop-left.left _ c.loop-left.used.items c.take_tie.new.used.items (omega arith) (omega arith) c.loop-left.invariant.taken c.in_ok-is_unshared.ensures.taken;
}
