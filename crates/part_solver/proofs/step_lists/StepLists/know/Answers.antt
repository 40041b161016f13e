use Rattle.part_solver.proofs.step_lists.StepLists.know.Goals as goal

pub returns : goal.returns
returns c = rw (← c.self.view_is) c.self.invariant.0
