use Rattle.std.proofs.Common.{◌≡◌, rules, subst, sym}
use Rattle.part_runs.specs.Runs.{Step}
use Rattle.part_solver.specs.Lending.{rows_from, step_of}
use Rattle.part_solver.specs.Steps.{CanSolve}
use Rattle.part_solver.proofs.lending.take_step.Goals as goal

pub invariant_of-result : goal.invariant_of-result
invariant_of-result c =
    let home = c.args.memory.now.deal.home.items in
    let t : Step = step_of c.args.states.now.items c.args.lent.now home c.args.pace in
    let taken : Step = record { states = c.taken.result.items; rows = rows_from c.taken.result.items c.of.result.value; home = c.taken-2.result.items; gravity = c.args.pace.gravity; count = c.args.pace.count } in
    let same : taken ≡ t = search rules in
    (subst CanSolve (sym same) c.requires.can, search rules, search rules)
