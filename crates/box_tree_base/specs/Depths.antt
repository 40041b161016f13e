-- How many leaves a balanced tree has at least.
use Rattle.std.specs.Prelude.{ℕ, zero, suc, ◌+◌}

-- the fewest leaves of a tree of this height: a lower side may be one lower than the other
abbrev pub least_leaves : ℕ → ℕ
least_leaves zero = 1
least_leaves (suc zero) = 2
least_leaves (suc (suc h)) = least_leaves (suc h) + least_leaves h
