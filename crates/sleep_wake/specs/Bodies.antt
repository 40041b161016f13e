-- Trusted: What comes and goes with a body.
use Rattle.std.specs.Prelude.{ℕ, Bool, not, filter}
use Rattle.graph_colours.specs.declared.member.Member.{Member}
use Rattle.graph_colours.specs.Movers.{has_mover}
use Rattle.islands.specs.Labels.{added, taken_out}
use Rattle.sleep_wake.specs.Acting.{Acting}
use Rattle.sleep_wake.specs.Waking.{released_all}

-- some constraints go with a body that is no mover, and give up their colours
unfoldable pub dropped : {C : Type 0} → (C → ℕ) → (Member C → Bool) → Acting C → Acting C
dropped number goes s = record { ties = filter (λ m. not (goes m)) s.ties; labels = s.labels; lists = released_all number s.lists (filter goes s.ties) }

-- a mover goes with its constraints, and leaves its island loose
unfoldable pub mover_gone : {C : Type 0} → (C → ℕ) → ℕ → Acting C → Acting C
mover_gone number slot s = record { ties = filter (λ m. not (has_mover m.movers slot)) s.ties; labels = taken_out s.labels slot; lists = released_all number s.lists (filter (λ m. has_mover m.movers slot) s.ties) }

-- a mover comes: an island of its own
unfoldable pub mover_made : {C : Type 0} → ℕ → Acting C → Acting C
mover_made slot s = record { ties = s.ties; labels = added s.labels slot; lists = s.lists }
