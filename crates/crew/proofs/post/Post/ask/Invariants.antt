use Rattle.std.proofs.Common.{◌≡◌, true, None}
use Rattle.std.specs.Arc.{arc_value}
use Rattle.crossbeam_queue.specs.Passes.{view, IsPassOf}
use Rattle.crew.specs.Answers.{owed}
use Rattle.crew.specs.Mailbox.{hand}
use Rattle.crew.proofs.post.Post.ask.Given as goal

abbrev pub invariant-loop : goal.invariant-loop
invariant-loop g l = record {
  pass : IsPassOf l.self.mailbox l.pass;
  view : view l.pass ≡ hand true None;
  same : owed g.W.Work.answer (arc_value l.slip.work) l.slip.stack.items l.slip.answers.items ≡ owed g.W.Work.answer (arc_value l.fn.slip.work) l.fn.slip.stack.items l.fn.slip.answers.items;
}
