use Rattle.std.proofs.Common.{◌≡◌, ◌<◌, ◌≤◌, ℕ, None, length}
use Rattle.islands.specs.Labels.{label_at}
use Rattle.world_file.specs.Fitting.{membership_at}
use Rattle.world_file.specs.Lone.{alone_at}
use Rattle.world_file.proofs.components.list_alone.Given as goal

abbrev pub invariant-loop-slot : goal.invariant-loop-slot
invariant-loop-slot l = record {
  done : (s : ℕ) → s < l.slot → label_at l.islands.labels s ≡ alone_at s (membership_at l.memberships s).island;
  rest : (s : ℕ) → l.slot ≤ s → label_at l.islands.labels s ≡ None;
  room : length l.memberships ≤ l.islands.room;
}
