use Rattle.std.proofs.Common.{◌≡◌, rules}
use Rattle.part_solver.specs.Stages.{AreStages, lists_of}
use Rattle.part_solver.proofs.AgainLaws.{can_lend, can_run_again, has_run_again, impulses_over, left_over}
use Rattle.part_solver.proofs.by_parts.PartSolverStepSolver.run_step.Goals as goal

pub solve_by_parts-solved-requires-clause-lend : goal.solve_by_parts-solved-requires-clause-lend
solve_by_parts-solved-requires-clause-lend g c =
    let stages = c.is_worth.new.self.lists.stages.items in
    let joints = c.args.constraints.now.joints.joints in
    let listed : lists_of stages ≡ c.args.colours.now.lists = search rules in
    let are : AreStages joints stages = search rules in
    can_lend c.args.states.now.items joints c.args.constraints.now.contacts.contacts stages c.args.colours.now.lists listed c.requires.can_run.can are

pub run_alone-requires-in-None : goal.run_alone-requires-in-None
run_alone-requires-in-None g c =
    let found = c.solve_by_parts-solved in
    let none = c.in-None.is in
    record {
      can_run = can_run_again found.new.states.items c.args.states.now.items found.new.constraints c.args.constraints.now c.args.pace (found.ensures.states none) (found.ensures.joints none) (found.ensures.contacts none)
          c.args.colours.now c.args.gathered.now c.args.moving c.requires.can_run;
    }

pub returns-in-None : goal.returns-in-None
returns-in-None g c =
    let found = c.solve_by_parts-solved in
    let none = c.in-None.is in
    let alone = c.run_alone-in-None in
    record {
      has_run = has_run_again found.new.states.items c.args.states.now.items found.new.constraints c.args.constraints.now c.args.pace (found.ensures.states none) (found.ensures.joints none) (found.ensures.contacts none)
          c.args.colours.now.lists found.ensures.numbered alone.new.states.items alone.new.constraints alone.result alone.ensures.has_run;
    }

pub returns-in-Some-solved : goal.returns-in-Some-solved
returns-in-Some-solved g c =
    let found = c.solve_by_parts-solved in
    let stages = c.is_worth.new.self.lists.stages.items in
    let given = c.args.constraints.now in
    let listed : lists_of stages ≡ c.args.colours.now.lists = search rules in
    record {
      has_run = record {
        left = left_over c.args.states.now.items given.joints.joints given.contacts.contacts stages c.args.colours.now.lists listed c.args.pace.count c.args.pace.gravity found.new.states.items c.in-Some-solved.outcome.sums c.in-Some-solved.ensures.left;
        impulses = impulses_over c.args.states.now.items given.joints.joints given.contacts.contacts stages c.args.colours.now.lists listed c.args.pace.count c.args.pace.gravity found.new.constraints.joints.joints found.new.constraints.contacts.contacts c.in-Some-solved.outcome.sums
            c.in-Some-solved.ensures.impulses;
        numbered = found.ensures.numbered;
      };
    }
