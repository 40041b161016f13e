use Rattle.std.proofs.Common.{[], get_or, length, arith, subst, ap}
use Rattle.momenta.specs.declared.state.Ends.{Ends}
use Rattle.colour_solver_base.specs.RowsAfter.{RowAfter}
use Rattle.colour_solver.specs.declared.constraint_row.ConstraintRow.{ConstraintRow}
use Rattle.colour_solver.specs.ConstraintVisits.{IsConstraintRow, constraint_slots}
use Rattle.colour_solver.specs.RowVisits.{IsPassed}
use Rattle.colour_solver.specs.States.{as_vector}
use Rattle.part_solver.specs.Running.{stand_at, visits}
use Rattle.part_solver.proofs.PassSteps.{count_before, stage_done, stage_gives, visit_is}
use Rattle.part_solver.proofs.part_pass.pass_stage.Goals as goal

pub hand_on-long_waits-requires-clause-stage : goal.hand_on-long_waits-requires-clause-stage
hand_on-long_waits-requires-clause-stage g c = let many = c.know_pass.ensures.pass.walks in omega (arith, many, c.requires.stage)

pub pass_in-given-requires-clause-colour : goal.pass_in-given-requires-clause-colour
pass_in-given-requires-clause-colour g c =
    let s = stand_at c.args.step.now c.args.turn.tick c.args.stage.phase in
    let same = ap length c.hand_on-long_waits.ensures.handed.colours in
    let many = count_before c.args.step.now c.args.turn.number (visits c.args.stage.phase) s c.args.stage.index (omega (arith, c.requires.stage)) in
    omega (arith, same, many, c.requires.stage)

pub pass_in-given-requires-clause-few : goal.pass_in-given-requires-clause-few
pass_in-given-requires-clause-few g c = omega (arith, c.hand_on-long_waits.ensures.handed.sound.long, c.know.ensures.few)

pub returns-clause-before : goal.returns-clause-before
returns-clause-before g c =
    let phase = c.args.stage.phase in
    let mid = c.hand_on-long_waits.new.lists in
    let made = c.pass_in-given.ensures in
    let walk = c.hand_on-long_waits.ensures.handed.sound.walk in
    stage_done c.args.step.now (length c.args.ports.now.outs) c.args.turn.number c.args.turn.tick phase c.args.stage.index mid _ (as_vector c.pass_in-given.result) c.know_pass.ensures c.requires.stage c.hand_on-long_waits.ensures.handed
    (subst (λ (f : ConstraintRow → Ends → RowAfter ConstraintRow). IsPassed constraint_slots IsConstraintRow f mid.states.items (get_or mid.rows.colours c.args.stage.index []) c.pass_in-given.new.states.items (get_or c.pass_in-given.new.self.colours c.args.stage.index []) (as_vector c.pass_in-given.result)) (visit_is c.visits_are_fair.ensures phase) made.passed)
    made.colours made.left made.rows (record { awake = walk.awake; carried = walk.carried; moves = walk.moves; ends = walk.ends })

pub returns-clause-given : goal.returns-clause-given
returns-clause-given g c =
    let phase = c.args.stage.phase in
    let mid = c.hand_on-long_waits.new.lists in
    let made = c.pass_in-given.ensures in
    stage_gives c.args.step.now (length c.args.ports.now.outs) c.args.turn.number c.args.turn.tick phase c.args.stage.index mid c.pass_in-given.new.states.items (get_or c.pass_in-given.new.self.colours c.args.stage.index []) (as_vector c.pass_in-given.result) c.know_pass.ensures c.requires.stage
    c.hand_on-long_waits.ensures.handed
    (subst (λ (f : ConstraintRow → Ends → RowAfter ConstraintRow). IsPassed constraint_slots IsConstraintRow f mid.states.items (get_or mid.rows.colours c.args.stage.index []) c.pass_in-given.new.states.items (get_or c.pass_in-given.new.self.colours c.args.stage.index []) (as_vector c.pass_in-given.result)) (visit_is c.visits_are_fair.ensures phase) made.passed)
