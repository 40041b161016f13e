use Rattle.std.proofs.Common.{map}
use Rattle.packed_sets.proofs.SpotLaws.{AreNotedTo}
use Rattle.packed_sets.proofs.spots.note_all.Given as goal

abbrev pub invariant-loop-place : goal.invariant-loop-place
invariant-loop-place g l = AreNotedTo (map g.I.ItemId.number l.list) l.set l.place l.fn.spots.items l.spots.items
