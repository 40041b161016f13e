use Rattle.std.proofs.Common.{◌≡◌, ◌+◌, vec_len, vec_capacity}
use Rattle.crew.specs.Answers.{AreAccepted, owed}
use Rattle.crew.proofs.stack.work_stack.Given as goal

abbrev pub invariant-loop-worked : goal.invariant-loop-worked
invariant-loop-worked g l = record {
  owed : owed g.W.Work.answer l.work l.stack.items l.answers.items ≡ owed g.W.Work.answer l.work l.fn.stack.items l.fn.answers.items;
  accepted : AreAccepted g.W.Work.accepts l.work l.stack.items;
  capacity : vec_capacity l.answers ≡ vec_capacity l.fn.answers;
  kept : vec_capacity l.stack ≡ vec_capacity l.fn.stack;
  left : vec_len l.stack + l.worked ≡ vec_len l.fn.stack;
  done : vec_len l.answers ≡ vec_len l.fn.answers + l.worked;
}
