-- Trusted: Slots that have no mover.
use Rattle.std.specs.Prelude.{ℕ, ◌+◌}
use Rattle.islands.specs.Labels.{padded}
use Rattle.sleep_wake.specs.Acting.{Acting}

-- with a label or none for each slot up to this one
abbrev pub widened : {C : Type 0} → ℕ → Acting C → Acting C
widened slot s = record { ties = s.ties; labels = padded s.labels (slot + 1); lists = s.lists }
