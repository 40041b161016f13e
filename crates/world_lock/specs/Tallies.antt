-- Trusted: The tallies of seats: how many calls each made, and what it pushed.
use Rattle.std.specs.Prelude.{ℕ, zero, suc, ◌+◌, ◌*◌, ◌^◌, ◌≤◌, ◌==◌, cond, List, [], ◌∷◌, length, ◌+ℤ◌, unsigned_abs}
use Rattle.fixed_geom.specs.Vectors.{plus, zero_vector}
use Rattle.fixed_geom.specs.declared.vectors.Vec2.{Vec2}
use Rattle.impulse_ledger.specs.Totals.{zero_total}
use Rattle.world_rules.specs.Laws.{push_of}
use Rattle.world_lock.specs.declared.tally.Tally.{Tally}
use Rattle.world_lock.specs.Journals.{Line, command_of}

-- a seat's own calls among these
abbrev pub calls_of : ℕ → List Line → List Line
calls_of seat [] = []
calls_of seat (e ∷ es) = cond (e.seat == seat) (e ∷ calls_of seat es) (calls_of seat es)

-- the sum of what these calls pushed
abbrev pub pushed_sum : List Line → Vec2
pushed_sum [] = zero_vector
pushed_sum (e ∷ es) = plus (push_of (command_of e)) (pushed_sum es)

-- of all calls, those of a seat are counted, and their pushes summed
abbrev pub tally_of : ℕ → List Line → Tally
tally_of seat es = let own = calls_of seat es in record { calls = length own; pushed = record { x = (pushed_sum own).x; y = (pushed_sum own).y } }

-- the tallies of so many seats, from this one on
abbrev pub tallies_from : ℕ → ℕ → List Line → List Tally
tallies_from seat zero es = []
tallies_from seat (suc n) es = tally_of seat es ∷ tallies_from (suc seat) n es

abbrev pub tallies_of : ℕ → List Line → List Tally
tallies_of seats es = tallies_from 0 seats es

-- no calls
abbrev pub no_calls : Tally
no_calls = record { calls = 0; pushed = zero_total }

-- one call more, which gave a body this impulse
abbrev pub with_call : Tally → Vec2 → Tally
with_call t j = record { calls = t.calls + 1; pushed = record { x = t.pushed.x +ℤ j.x; y = t.pushed.y +ℤ j.y } }

-- of at most n calls
pub record IsTally (n : ℕ) (t : Tally) : Type 0 where
  pub calls : t.calls ≤ n
  pub x : unsigned_abs t.pushed.x ≤ n * 2 ^ 40
  pub y : unsigned_abs t.pushed.y ≤ n * 2 ^ 40
