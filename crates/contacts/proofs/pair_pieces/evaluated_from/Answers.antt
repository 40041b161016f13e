use Rattle.std.proofs.Common.{drop}
use Rattle.contacts.proofs.PairPieceLaws.{pairs_within, room_for_fewer}
use Rattle.contacts.proofs.pair_pieces.evaluated_from.Goals as goal

pub evaluated_of-requires-clause-room : goal.evaluated_of-requires-clause-room
evaluated_of-requires-clause-room c = rw c.range_of.ensures (room_for_fewer c.args.count (drop c.args.first c.args.near.now) c.args.room c.requires.room)

pub evaluated_of-requires-clause-near : goal.evaluated_of-requires-clause-near
evaluated_of-requires-clause-near c = rw c.range_of.ensures (pairs_within c.args.proxies.now c.args.near.now c.args.count c.args.first c.requires.near)
