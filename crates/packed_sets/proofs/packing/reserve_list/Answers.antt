use Rattle.std.proofs.Common.{arith}
use Rattle.packed_sets.proofs.ViewLaws.{same_seen, room_kept, room_there}
use Rattle.packed_sets.proofs.packing.reserve_list.Goals as goal

pub returns-in_err-reserve-clause-lists : goal.returns-in_err-reserve-clause-lists
returns-in_err-reserve-clause-lists g c = same_seen c.args.lists.now.items c.args.set c.index_mut.result.now c.reserve.new.self c.index_mut.ensures.value c.reserve.ensures.items

pub returns-in_err-reserve-clause-capacities : goal.returns-in_err-reserve-clause-capacities
returns-in_err-reserve-clause-capacities g c = room_kept c.args.lists.now.items c.args.set c.index_mut.result.now c.reserve.new.self c.requires c.index_mut.ensures.value c.reserve.ensures.capacity

pub returns-clause-made : goal.returns-clause-made
returns-clause-made g c =
    room_there c.args.lists.now.items c.args.set c.args.more c.index_mut.result.now c.reserve.new.self c.requires c.index_mut.ensures.value c.reserve.ensures.items (omega (arith, c.in_ok-reserve.ensures.ok, c.reserve.new.self.ok.0))

pub returns-clause-lists : goal.returns-clause-lists
returns-clause-lists g c = same_seen c.args.lists.now.items c.args.set c.index_mut.result.now c.reserve.new.self c.index_mut.ensures.value c.reserve.ensures.items

pub returns-clause-capacities : goal.returns-clause-capacities
returns-clause-capacities g c = room_kept c.args.lists.now.items c.args.set c.index_mut.result.now c.reserve.new.self c.requires c.index_mut.ensures.value c.reserve.ensures.capacity
