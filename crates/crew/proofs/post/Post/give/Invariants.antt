use Rattle.std.proofs.Common.{◌≡◌, false, Some}
use Rattle.std.specs.Arc.{arc_value}
use Rattle.crossbeam_queue.specs.Passes.{view, IsPassOf}
use Rattle.crew.specs.Answers.{owed}
use Rattle.crew.specs.Mailbox.{hand}
use Rattle.crew.proofs.post.Post.give.Given as goal

abbrev pub invariant-loop : goal.invariant-loop
invariant-loop g l = record {
  pass : IsPassOf l.self.mailbox l.pass;
  view : view l.pass ≡ hand false (Some (owed g.W.Work.answer (arc_value l.slip.work) l.slip.stack.items l.slip.answers.items));
}
