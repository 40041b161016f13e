use Rattle.std.proofs.Common.{◌<◌, rules}
use Rattle.part_solver.proofs.homes.are_dealt.Goals as goal

pub returns : goal.returns
returns c = λ e.
    let some : 0 < c.args.parts = search rules in
    record { few = search rules; long = search rules; below = c.homes_are_below.ensures c.args.parts c.args.home.now some (c.are_below.ensures e) }
