use Rattle.std.proofs.Common.{◌≡◌, ◌+◌, ◌<◌, ℕ, All, length}
use Rattle.std.specs.Arc.{arc_value}
use Rattle.part_solver.specs.Benches.{IsRoomyFor}
use Rattle.part_solver.specs.Parts.{AreRings, AreSeated, posts_at}
use Rattle.part_solver.proofs.seating.take_seats.Given as goal

abbrev pub invariant-loop-own : goal.invariant-loop-own
invariant-loop-own l = record {
  seated : AreSeated (arc_value l.step) 0 l.seats.items;
  left : length l.benches.items + length l.seats.items ≡ length l.fn.benches.items;
  same : length l.own-iterator.rest.items ≡ length l.benches.items;
  rooms : All (IsRoomyFor (arc_value l.step)) l.benches.items;
  rings : (k : ℕ) → k < length l.own-iterator.rest.items → AreRings (arc_value l.step) (length l.fn.benches.items) (length l.seats.items + k) (posts_at l.own-iterator.rest.items k);
}
