use Rattle.std.proofs.Common.{ℕ, ◌+◌, ◌*◌, ◌<◌}
use Rattle.contacts.specs.NearMarked.{HasNumbers, IsExtended}
use Rattle.contacts.proofs.moved_pairs.push_numbers_of_slot.Given as goal

abbrev pub invariant-loop-index : goal.invariant-loop-index
invariant-loop-index g l = record {
  kept : IsExtended l.fn.numbers.items l.numbers.items;
  near : (index : ℕ) → index < l.index → HasNumbers (g.S.ShapesById.proxies l.shapes) (l.slot * 256 + index) l.numbers.items;
}
