-- A fork has at least the fewest leaves of its height.
use Rattle.std.proofs.Common.{◌≡◌, ℕ, zero, suc, ◌+◌, ◌<◌, ◌≤◌, max, refl, arith, ◌⊎◌, inl, inr}
use Rattle.box_tree_base.specs.Depths.{least_leaves}
use Rattle.box_tree_base.specs.Trees.{DifferByAtMost}

rises : (h : ℕ) → least_leaves h ≤ least_leaves (suc h)
rises zero = omega arith
rises (suc h) = omega arith

at_most_double : (h : ℕ) → least_leaves (suc h) ≤ least_leaves h + least_leaves h
at_most_double zero = omega arith
at_most_double (suc h) = omega (arith, rises h)

same : (h i : ℕ) → h ≡ i → least_leaves h ≡ least_leaves i
same h i e = rw e refl

sides : (l r h : ℕ) → DifferByAtMost 1 l r → h ≡ max l r + 1 → (l ≡ r × h ≡ suc l) ⊎ (l ≡ suc r × h ≡ suc (suc r)) ⊎ (r ≡ suc l × h ≡ suc (suc l))
sides l r h d e = grind arith

-- a fork over sides of these heights, with at least so many leaves
pub fork_leaves : (l r h m n : ℕ) → DifferByAtMost 1 l r → h ≡ max l r + 1 → least_leaves l ≤ m → least_leaves r ≤ n → least_leaves h ≤ m + n
fork_leaves l r h m n d e f g =
    elim (sides l r h d e) [
      | inl (p, q) ↦ omega (arith, same h (suc l) q, same l r p, at_most_double l)
      | inr (inl (p, q)) ↦ omega (arith, same h (suc (suc r)) q, same l (suc r) p)
      | inr (inr (p, q)) ↦ omega (arith, same h (suc (suc l)) q, same r (suc l) p)
    ]

more_than : (h : ℕ) → h < least_leaves h
more_than zero = omega arith
more_than (suc zero) = omega arith
more_than (suc (suc h)) = omega (arith, more_than h, more_than (suc h))

pub below_leaves : (h n : ℕ) → least_leaves h ≤ n → h < n
below_leaves h n f = omega (arith, more_than h)

pub rises_to : (d h n : ℕ) → n ≡ d + h → least_leaves h ≤ least_leaves n
rises_to zero h n e = omega (arith, same n h (omega (arith, e)))
rises_to (suc d) h zero e = absurd (omega (arith, e))
rises_to (suc d) h (suc n) e = omega (arith, rises_to d h n (omega (arith, e)), rises n)
