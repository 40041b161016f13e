use Rattle.std.proofs.Common.{◌≡◌, ◌<◌, ◌≤◌, ◌-◌, ℕ, false, length}
use Rattle.graph_colours.specs.declared.limits.TheConstants.{COLOURS}
use Rattle.graph_colours.specs.FoundMembers.{has_id}
use Rattle.graph_colours.specs.Colours.{list_at}
use Rattle.graph_colours.specs.TakenColours.{AreTakenColours}
use Rattle.graph_colours.specs.Graph.{lists_of, HaveRoom}
use Rattle.graph_colours.proofs.lists.remove_from_first.Given as goal

abbrev pub invariant-loop-place : goal.invariant-loop-place
invariant-loop-place g l = record {
  lists : lists_of l.lists.items ≡ lists_of l.fn.lists.items;
  bits : AreTakenColours (lists_of l.lists.items) l.words.items;
  long : length l.words.items ≡ length l.fn.words.items;
  kept : (room : ℕ) → HaveRoom room l.fn.lists.items → HaveRoom room l.lists.items;
  absent : (k : ℕ) → k < l.place → k ≤ COLOURS → has_id g.C.ConstraintId.number l.id (list_at (lists_of l.fn.lists.items) k) ≡ false;
}

abbrev pub decreases-loop-place : goal.decreases-loop-place
decreases-loop-place g l = length l.lists.items - l.place
