use Rattle.std.proofs.Common.{ℕ, take}
use Rattle.std.specs.Prelude.{All}
use Rattle.contacts.specs.NearMarked.{HasNumbersIn}
use Rattle.contacts.proofs.moved_pairs.push_numbers_of_all.Given as goal

abbrev pub invariant-loop-place : goal.invariant-loop-place
invariant-loop-place g l = All (λ (slot : ℕ). HasNumbersIn (g.S.ShapesById.proxies l.shapes) slot l.numbers.items) (take l.place l.marked)
