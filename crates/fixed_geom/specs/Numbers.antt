-- Trusted: Rounded quotients and roots over unbounded whole numbers.
use Rattle.std.specs.Prelude.{◌≡◌, ℕ, zero, suc, ◌+◌, ◌*◌, ◌/◌, ◌<◌, ◌≤◌, ℤ, pos, negsuc, ◌+ℤ◌, ◌-ℤ◌, ◌*ℤ◌, neg_ℤ, ◌≤ℤ◌, ◌<ℤ◌, unsigned_abs, cond, nat_le}

-- the nearest natural number to n / d, the greater where two are as near
abbrev pub nearest : ℕ → ℕ → ℕ
nearest n d = (2 * n + d) / (2 * d)

-- the nearest whole number to a / b, ties away from zero
unfoldable pub rdiv : ℤ → ℤ → ℤ
rdiv (pos n) b = pos (nearest n (unsigned_abs b))
rdiv (negsuc n) b = neg_ℤ (pos (nearest (suc n) (unsigned_abs b)))

-- the greatest whole number at most a / b
unfoldable pub fdiv : ℤ → ℤ → ℤ
fdiv (pos n) b = pos (n / unsigned_abs b)
fdiv (negsuc n) b = negsuc (n / unsigned_abs b)

-- q is the nearest whole number to a / b, and of two as near the one that is further from zero
pub record IsNearest (a b q : ℤ) : Type 0 where
  pub near : (2 * unsigned_abs (a -ℤ q *ℤ b)) ≤ unsigned_abs b
  pub away : 2 * unsigned_abs (a -ℤ q *ℤ b) ≡ unsigned_abs b → unsigned_abs a < unsigned_abs (q *ℤ b)

-- q is the greatest whole number at most a / b
pub record IsFloor (a b q : ℤ) : Type 0 where
  pub below : (q *ℤ b) ≤ℤ a
  pub above : a <ℤ (q *ℤ b +ℤ b)

-- k is the root of a, rounded down
pub record IsRoot (a k : ℤ) : Type 0 where
  pub nonnegative : pos 0 ≤ℤ k
  pub below : (k *ℤ k) ≤ℤ a
  pub above : a <ℤ ((k +ℤ pos 1) *ℤ (k +ℤ pos 1))

-- r or r + 1, whichever is the root of n
abbrev pub nearer_root : ℕ → ℕ → ℕ
nearer_root n r = cond (nat_le ((r + 1) * (r + 1)) n) (r + 1) r

-- the root of n, digit by digit in base 4, of which n has at most `digits`
unfoldable pub root_of : ℕ → ℕ → ℕ
root_of zero n = 0
root_of (suc digits) zero = 0
root_of (suc digits) (suc n) = nearer_root (suc n) (2 * root_of digits (suc n / 4))

-- the root of n, rounded down
unfoldable pub root : ℕ → ℕ
root n = root_of n n

-- the root of a, rounded down
unfoldable pub isqrt : ℤ → ℤ
isqrt a = pos (root (unsigned_abs a))
