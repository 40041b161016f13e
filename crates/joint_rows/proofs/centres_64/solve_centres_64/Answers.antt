use Rattle.std.proofs.Common.{refl}
use Rattle.momenta.specs.Line64.{both_ends, ends_with}
use Rattle.joint_rows.specs.Rows.{joint_solved}
use Rattle.joint_rows.specs.Centres64.{IsBetweenCentres, without_turning}
use Rattle.joint_rows.proofs.CentreLaws.{own_after, solved_own}
use Rattle.joint_rows.proofs.centres_64.solve_centres_64.Goals as goal

pub returns-in-Some-solve_with_64-clause-value : goal.returns-in-Some-solve_with_64-clause-value
returns-in-Some-solve_with_64-clause-value c =
    let r = c.args.row.now in
    let a = c.args.a.now in
    let b = c.args.b.now in
    let between : IsBetweenCentres r.line = c.if-not-is_between_centres.ensures.between refl in
    let after = rw c.in-Some.ensures.value at c.in-Some-solve_with_64.ensures.value in
    rw c.pushed.ensures (own_after (joint_solved r (ends_with a b (without_turning a b))) (joint_solved r (both_ends a b)) r a b c.in-Some-solve_with_64.after c.requires.first c.requires.second
    (solved_own r a b c.requires.first c.requires.second between) after)
