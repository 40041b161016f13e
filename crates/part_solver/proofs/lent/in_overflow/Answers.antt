use Rattle.std.proofs.Common.{◌<◌, ◌+◌, arith, refl}
use Rattle.graph_colours.specs.declared.limits.TheConstants.{COLOURS}
use Rattle.part_solver.proofs.LentLaws.{left_rows, stage_can}
use Rattle.part_solver.proofs.lent.in_overflow.Goals as goal

pub returns-clause-can : goal.returns-clause-can
returns-clause-can c =
    let l = c.args.lent.now in
    let found = c.sources_of.ensures in
    rw (found.joints, found.contacts) (stage_can c.args.step.now.states l.constraints.joints.joints l.constraints.contacts.contacts l.stages.items c.requires.has.lent COLOURS (let lt : COLOURS < COLOURS + 1 = omega arith in lt) c.sources_of.result.members.now c.sources_of.result.slots.now found.members found.slots)

pub returns-clause-rows : goal.returns-clause-rows
returns-clause-rows c =
    let l = c.args.lent.now in
    let found = c.sources_of.ensures in
    rw (found.joints, found.contacts, c.requires.has.rows) (left_rows c.args.step.now.states l.constraints.joints.joints l.constraints.contacts.contacts l.stages.items c.requires.has.lent COLOURS (let lt : COLOURS < COLOURS + 1 = omega arith in lt) c.sources_of.result.members.now c.sources_of.result.slots.now found.members found.slots refl)
