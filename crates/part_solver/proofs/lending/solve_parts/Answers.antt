use Rattle.std.proofs.Common.{◌≡◌, rules}
use Rattle.std.specs.Arc.{arc_value}
use Rattle.part_solver.specs.Lending.{step_of}
use Rattle.part_solver.proofs.OverLaws.{lent_sources}
use Rattle.part_solver.proofs.lending.solve_parts.Goals as goal

pub run_parts-solved-requires-clause-has : goal.run_parts-solved-requires-clause-has
run_parts-solved-requires-clause-has g c =
    let lent = arc_value c.args.lent.now in
    let home = c.args.memory.now.deal.home.items in
    let is : arc_value c.in-Ok.step ≡ step_of c.args.states.now.items lent home c.args.plan.pace = search rules in
    lent_sources (arc_value c.in-Ok.step) c.args.states.now.items lent home c.args.plan.pace is c.requires.lent
