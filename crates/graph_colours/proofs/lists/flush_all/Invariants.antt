use Rattle.std.proofs.Common.{◌≡◌, ℕ}
use Rattle.std.specs.List.{AllWithin}
use Rattle.graph_colours.specs.Graph.{lists_of, HaveRoom}
use Rattle.graph_colours.proofs.lists.flush_all.Given as goal

abbrev pub invariant-loop-place : goal.invariant-loop-place
invariant-loop-place g l = (lists_of l.lists.items ≡ lists_of l.fn.lists.items) × ((room : ℕ) → HaveRoom room l.fn.lists.items → HaveRoom room l.lists.items) × AllWithin (λ k. k.pending ≡ 0) l.lists.items 0 l.place
