use Rattle.std.proofs.Common.{◌≡◌, ◌++◌}
use Rattle.contacts.specs.NearMarked.{numbers_up}
use Rattle.contacts.proofs.moved_pairs.push_numbers_in.Given as goal

abbrev pub invariant-loop-index : goal.invariant-loop-index
invariant-loop-index g l = l.numbers.items ≡ l.fn.numbers.items ++ numbers_up (g.S.ShapesById.proxies l.shapes) l.p l.slot l.index
