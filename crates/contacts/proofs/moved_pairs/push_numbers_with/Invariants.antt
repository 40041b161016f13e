use Rattle.std.proofs.Common.{◌≡◌, ◌++◌, drop}
use Rattle.contacts.specs.NearMarked.{numbers_with}
use Rattle.contacts.proofs.moved_pairs.push_numbers_with.Given as goal

abbrev pub invariant-loop-place : goal.invariant-loop-place
invariant-loop-place g l = (l.numbers.items ++ numbers_with (g.S.ShapesById.proxies l.shapes) l.p (drop l.place l.slots)) ≡ (l.fn.numbers.items ++ numbers_with (g.S.ShapesById.proxies l.shapes) l.p l.slots)
