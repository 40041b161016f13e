-- Trusted: Sums of changes of momentum.
use Rattle.std.specs.Prelude.{ℕ, ◌≤◌, unsigned_abs}
use Rattle.momenta.specs.declared.gain.Gain.{Gain}

-- both components are at most n in size
pub record IsGain (n : ℕ) (g : Gain) : Type 0 where
  pub x : unsigned_abs g.x ≤ n
  pub y : unsigned_abs g.y ≤ n
