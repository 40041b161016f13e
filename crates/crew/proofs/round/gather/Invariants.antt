use Rattle.std.proofs.Common.{◌≡◌}
use Rattle.std.specs.Arc.{arc_value}
use Rattle.crossbeam_queue.specs.Passes.{view}
use Rattle.crew.specs.Answers.{gathered, owed, promised, returned}
use Rattle.crew.proofs.round.gather.Given as goal

abbrev pub invariant-loop : goal.invariant-loop
invariant-loop g l = gathered l.desks (λ d. promised (view d.pass).ask (returned (λ s. owed g.W.Work.answer (arc_value s.work) s.stack.items s.answers.items) d.back)) ≡ gathered l.fn.desks (λ d. promised (view d.pass).ask (returned (λ s. owed g.W.Work.answer (arc_value s.work) s.stack.items s.answers.items) d.back))
