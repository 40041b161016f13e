use Rattle.std.proofs.Common.{◌≡◌, All, length, rules, ap, subst, sym, ◌∙◌}
use Rattle.std.specs.Arc.{arc_value}
use Rattle.part_runs.specs.Laws.{AreHomes}
use Rattle.part_runs.specs.Runs.{Step, part_ran}
use Rattle.part_solver.specs.Benches.{IsRoomyFor}
use Rattle.part_solver.specs.Steps.{CanSolve}
use Rattle.part_solver.proofs.OverLaws.{lent_can, lent_step}
use Rattle.part_solver.proofs.lending.lend_to_parts.Goals as goal

pub solve_parts-solved-requires-clause-can : goal.solve_parts-solved-requires-clause-can
solve_parts-solved-requires-clause-can g c =
    let l = arc_value c.in-Ok.lent in
    let given = c.args.constraints.now in
    let lists = c.args.memory.now.lists in
    let joints_are : l.constraints.joints.joints ≡ given.joints.joints = search rules in
    let contacts_are : l.constraints.contacts.contacts ≡ given.contacts.contacts = search rules in
    let stages_are : l.stages.items ≡ lists.stages.items = search rules in
    subst CanSolve (sym (lent_step c.args.states.now.items l given.joints.joints given.contacts.contacts lists.stages.items joints_are contacts_are stages_are c.args.memory.now.deal.home.items c.args.plan.pace)) c.requires.can

pub solve_parts-solved-requires-clause-lent : goal.solve_parts-solved-requires-clause-lent
solve_parts-solved-requires-clause-lent g c =
    let l = arc_value c.in-Ok.lent in
    let given = c.args.constraints.now in
    let lists = c.args.memory.now.lists in
    let joints_are : l.constraints.joints.joints ≡ given.joints.joints = search rules in
    let contacts_are : l.constraints.contacts.contacts ≡ given.contacts.contacts = search rules in
    let stages_are : l.stages.items ≡ lists.stages.items = search rules in
    lent_can c.args.states.now.items l given.joints.joints given.contacts.contacts lists.stages.items joints_are contacts_are stages_are c.requires.lend

pub solve_parts-solved-requires-clause-homes : goal.solve_parts-solved-requires-clause-homes
solve_parts-solved-requires-clause-homes g c =
    let l = arc_value c.in-Ok.lent in
    let given = c.args.constraints.now in
    let lists = c.args.memory.now.lists in
    let joints_are : l.constraints.joints.joints ≡ given.joints.joints = search rules in
    let contacts_are : l.constraints.contacts.contacts ≡ given.contacts.contacts = search rules in
    let stages_are : l.stages.items ≡ lists.stages.items = search rules in
    subst (AreHomes (length lists.benches.items)) (sym (lent_step c.args.states.now.items l given.joints.joints given.contacts.contacts lists.stages.items joints_are contacts_are stages_are c.args.memory.now.deal.home.items c.args.plan.pace)) c.requires.homes

pub solve_parts-solved-requires-clause-rooms : goal.solve_parts-solved-requires-clause-rooms
solve_parts-solved-requires-clause-rooms g c =
    let l = arc_value c.in-Ok.lent in
    let given = c.args.constraints.now in
    let lists = c.args.memory.now.lists in
    let joints_are : l.constraints.joints.joints ≡ given.joints.joints = search rules in
    let contacts_are : l.constraints.contacts.contacts ≡ given.contacts.contacts = search rules in
    let stages_are : l.stages.items ≡ lists.stages.items = search rules in
    subst (λ (t : Step). All (IsRoomyFor t) lists.benches.items) (sym (lent_step c.args.states.now.items l given.joints.joints given.contacts.contacts lists.stages.items joints_are contacts_are stages_are c.args.memory.now.deal.home.items c.args.plan.pace))
    c.requires.rooms

pub returns-in-Ok-clause-runs : goal.returns-in-Ok-clause-runs
returns-in-Ok-clause-runs g c = λ e k lt.
    let l = arc_value c.in-Ok.lent in
    let given = c.args.constraints.now in
    let lists = c.args.memory.now.lists in
    let joints_are : l.constraints.joints.joints ≡ given.joints.joints = search rules in
    let contacts_are : l.constraints.contacts.contacts ≡ given.contacts.contacts = search rules in
    let stages_are : l.stages.items ≡ lists.stages.items = search rules in
    c.solve_parts-solved.ensures.runs e k lt
    ∙ ap (λ (t : Step). part_ran t k) (lent_step c.args.states.now.items l given.joints.joints given.contacts.contacts lists.stages.items joints_are contacts_are stages_are c.args.memory.now.deal.home.items c.args.plan.pace)
