use Rattle.std.proofs.Common.{◌≤◌, length, arith}
use Rattle.world_core_base.proofs.SleepingLaws.{kept_more}
use Rattle.world_core_base.proofs.sleeping_sets.SleepingSets.reserve.Goals as goal

pub invariant_of-self-2 : goal.invariant_of-self-2
invariant_of-self-2 c =
    let was = c.self.invariant.long in
    let long : length c.self.inside.names.items ≤ c.reserve.new.self.ids = omega (arith, was, c.reserve.ensures.more_ids) in
    kept_more c.self.inside.names.items c.reserve_names.new.names.items c.self.inside.sets c.reserve.new.self c.self.invariant c.reserve.ensures.sets c.reserve_names.ensures.same (c.reserve_names.ensures.no_more c.reserve.new.self.ids long c.in_ok-reserve.ensures.noted)
