use Rattle.std.proofs.Common.{◌≡◌, ◌<◌, ◌≤◌, ℕ, length}
use Rattle.graph_colours.specs.Colours.{list_at}
use Rattle.graph_colours.specs.Given.{members_of}
use Rattle.graph_colours.specs.TakenColours.{bit_of, colour_bit, any_has_mover}
use Rattle.graph_colours.proofs.colours.from_lists.set_all_bits.Given as goal

abbrev pub invariant-loop-colour : goal.invariant-loop-colour
invariant-loop-colour g l = record {
  own : (slot colour : ℕ) → colour < l.colour → colour_bit l.words.items slot colour ≡ bit_of (any_has_mover (list_at (members_of l.lists) colour) slot);
  clear : (slot colour : ℕ) → l.colour ≤ colour → colour_bit l.words.items slot colour ≡ 0;
  long : length l.words.items ≡ length l.fn.words.items;
}
