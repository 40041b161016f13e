-- Numbers that are at least zero.
use Rattle.std.proofs.Common.{◌≡◌, zero, suc, ℤ, pos, negsuc, ◌+ℤ◌, ◌-ℤ◌, ◌*ℤ◌, ◌≤ℤ◌, ◌<ℤ◌, arith, subst, sym}
use Rattle.std.proofs.lemmas.Int.{ints}

pub times : (x y : ℤ) → pos 0 ≤ℤ x → pos 0 ≤ℤ y → pos 0 ≤ℤ (x *ℤ y)
times (pos m) (pos n) h k = omega (arith, ints)
times (negsuc m) y h k = absurd (omega (arith, ints, h))
times x (negsuc n) h k = absurd (omega (arith, ints, k))

pub sum : (x y : ℤ) → pos 0 ≤ℤ x → pos 0 ≤ℤ y → pos 0 ≤ℤ (x +ℤ y)
sum x y h k = omega (arith, ints, h, k)

-- a factor that is above zero taken away
pub over : (x d : ℤ) → pos 0 <ℤ d → pos 0 ≤ℤ (x *ℤ d) → pos 0 ≤ℤ x
over (pos m) d h k = omega (arith, ints)
over (negsuc m) (pos (suc n)) h k = absurd (omega (arith, ints, k))
over (negsuc m) (pos zero) h k = absurd (omega (arith, ints, h))
over (negsuc m) (negsuc n) h k = absurd (omega (arith, ints, h))

-- a sum of two that are at least zero, over a factor
pub over_sum : (x d y z : ℤ) → pos 0 <ℤ d → x *ℤ d ≡ y +ℤ z → pos 0 ≤ℤ y → pos 0 ≤ℤ z → pos 0 ≤ℤ x
over_sum x d y z h e k l = over x d h (subst (λ (w : ℤ). pos 0 ≤ℤ w) (sym e) (sum y z k l))

pub minus_both : (x y : ℤ) → y ≤ℤ x → pos 0 ≤ℤ (x -ℤ y)
minus_both x y h = omega (arith, ints, h)

pub no_less : (x y : ℤ) → x ≡ y → pos 0 ≤ℤ (x -ℤ y)
no_less x y e = omega (arith, ints, e)

pub by_value : (x y : ℤ) → x ≡ y → pos 0 ≤ℤ y → pos 0 ≤ℤ x
by_value x y e h = subst (λ (z : ℤ). pos 0 ≤ℤ z) (sym e) h
