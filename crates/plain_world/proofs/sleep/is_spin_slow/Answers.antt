use Rattle.std.proofs.Common.{◌≡◌, pos, rules, tests}
use Rattle.plain_world.proofs.SlowLaws.{slow_fixed}
use Rattle.plain_world.proofs.sleep.is_spin_slow.Goals as goal

pub returns-then-inertia-eq0 : goal.returns-then-inertia-eq0
returns-then-inertia-eq0 c =
    let none : c.args.inertia ≡ pos 0 = search (rules, tests) in
    slow_fixed c.args.inertia c.args.l 209715 none
