-- How large a root is.
use Rattle.std.proofs.Common.{ℕ, ◌+◌, ◌*◌, ◌<◌, ◌≤◌, ℤ, pos, negsuc, ◌≤ℤ◌, unsigned_abs, arith}
use Rattle.std.proofs.lemmas.Int.{ints}
use Rattle.fixed_geom.specs.Numbers.{IsRoot}
use Rattle.fixed_geom.proofs.RootLemmas.{root_below}

pub record IsSmallRoot (m : ℕ) (k : ℤ) : Type 0 where
  pub nonnegative : pos 0 ≤ℤ k
  pub small : unsigned_abs k ≤ m

pub small_root : (a k : ℤ) (n m : ℕ) → unsigned_abs a ≤ n → n < (m + 1) * (m + 1) → IsRoot a k → IsSmallRoot m k
small_root (pos a) (pos k) n m h l r =
    let below : k * k ≤ a = omega (arith, ints, r.below) in
    record { nonnegative = r.nonnegative; small = root_below n k m (omega (arith, below)) l }
small_root (negsuc a) (pos k) n m h l r = absurd (omega (arith, ints, r.below))
small_root a (negsuc k) n m h l r = absurd (omega (arith, ints, r.nonnegative))
