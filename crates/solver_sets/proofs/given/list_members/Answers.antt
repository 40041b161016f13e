use Rattle.std.proofs.Common.{arith}
use Rattle.graph_colours.specs.Given.{members_of as lists_of}
use Rattle.solver_sets.specs.Ties.{slots_of}
use Rattle.solver_sets.proofs.GivenLaws.{members_end}
use Rattle.solver_sets.proofs.given.list_members.Goals as goal

pub returns-clause-members : goal.returns-clause-members
returns-clause-members c =
    let p = c.args.plain.now in
    let all = c.requires in
    let past = c.loop-colour-test.false in
    members_end p.bodies (slots_of p.joint_entries p.joints) p.colours c.loop-colour.colour (lists_of c.loop-colour.lists.items) (omega (arith, all, past)) c.loop-colour.invariant
