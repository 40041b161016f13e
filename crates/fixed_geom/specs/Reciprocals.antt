-- Trusted: Reciprocals of whole numbers, with which their quotients are taken.
use Rattle.std.specs.Prelude.{◌^◌, ◌/◌, ◌+◌, ℤ, pos, cond, int_lt, unsigned_abs}
use Rattle.fixed_geom.specs.Numbers.{rdiv}

-- that of d: the least whole number above 2^62 / d; 0 where d isn't positive
unfoldable pub rdiv_reciprocal : ℤ → ℤ
rdiv_reciprocal d = cond (int_lt (pos 0) d) (pos (2 ^ 62 / unsigned_abs d + 1)) (pos 0)

-- that of a whole k of which shares are taken: the nearest to 2^94 / k; 0 where k is below 2^32 or above 2^57
unfoldable pub share_reciprocal : ℤ → ℤ
share_reciprocal k = cond (int_lt k (pos (2 ^ 32))) (pos 0) (cond (int_lt (pos (2 ^ 57)) k) (pos 0) (rdiv (pos (2 ^ 94)) k))

-- that of an inverse over which impulses are taken: the nearest to 2^82 / inverse; 0 where it is below 2^20 or above
-- 2^54
unfoldable pub over_inverse_reciprocal : ℤ → ℤ
over_inverse_reciprocal inverse = cond (int_lt inverse (pos (2 ^ 20))) (pos 0) (cond (int_lt (pos (2 ^ 54)) inverse) (pos 0) (rdiv (pos (2 ^ 82)) inverse))
