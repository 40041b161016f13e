use Rattle.std.proofs.Common.{◌≡◌, true, None}
use Rattle.crossbeam_queue.specs.Passes.{view, IsPassOf}
use Rattle.std.specs.Arc.{arc_value}
use Rattle.crew.specs.Mailbox.{hand}
use Rattle.crew.proofs.furnish.admit.Given as goal

abbrev pub invariant-loop-worker : goal.invariant-loop-worker
invariant-loop-worker g l = IsPassOf (arc_value l.post).mailbox l.pass × (view l.pass ≡ hand true None)
