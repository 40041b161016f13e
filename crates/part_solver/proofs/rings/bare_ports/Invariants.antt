use Rattle.std.proofs.Common.{◌≡◌, ℕ, length}
use Rattle.part_solver.specs.Parts.{no_posts, posts_at}
use Rattle.part_solver.proofs.rings.bare_ports.Given as goal

abbrev pub invariant-loop-made : goal.invariant-loop-made
invariant-loop-made l = record { many : length l.ports.items ≡ l.made; bare : (k : ℕ) → posts_at l.ports.items k ≡ no_posts }
