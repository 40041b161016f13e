use Rattle.std.proofs.Common.{◌≡◌, ◌≢◌, ℕ, length, take}
use Rattle.graph_colours.specs.TakenColours.{bit_of, colour_bit, any_has_mover}
use Rattle.graph_colours.proofs.colours.from_lists.set_list_bits.Given as goal

abbrev pub invariant-loop-place : goal.invariant-loop-place
invariant-loop-place g l = record {
  own : (slot : ℕ) → colour_bit l.words.items slot l.colour ≡ bit_of (any_has_mover (take l.place l.members) slot);
  others : (slot other : ℕ) → other ≢ l.colour → colour_bit l.words.items slot other ≡ colour_bit l.fn.words.items slot other;
  long : length l.words.items ≡ length l.fn.words.items;
}
