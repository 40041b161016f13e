use Rattle.std.proofs.Common.{◌≡◌, ◌≤◌, ℕ, List, take}
use Rattle.contacts.specs.PieceRanges.{items_of}
use Rattle.contacts.proofs.range_pieces.cut.Given as goal

abbrev pub invariant-loop : goal.invariant-loop
invariant-loop g l = record {
  within : l.first ≤ l.all;
  cut : (items : List ℕ) → items_of g.P.RangePiece.range items l.pieces.items ≡ take l.first items;
}
