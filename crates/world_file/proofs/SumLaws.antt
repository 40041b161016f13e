-- Sums of numbers that are kept in eighths.
use Rattle.std.proofs.Common.{◌≡◌, ℤ, pos, ◌+ℤ◌, ◌*ℤ◌, arith}
use Rattle.std.proofs.lemmas.Int.{ints}

pub eight_sum : (a b w r v s x y : ℤ) → a ≡ w *ℤ pos 8 +ℤ r → b ≡ v *ℤ pos 8 +ℤ s → x ≡ w +ℤ v → y ≡ r +ℤ s → a +ℤ b ≡ x *ℤ pos 8 +ℤ y
eight_sum a b w r v s x y e f g h = omega (arith, ints)

-- six numbers one after the other
in_turn : (a b c d e f z : ℤ) → a +ℤ b +ℤ (c +ℤ d) +ℤ (e +ℤ f) ≡ z → a +ℤ b +ℤ c +ℤ d +ℤ e +ℤ f ≡ z
in_turn a b c d e f z h = omega (arith, ints)

pub six_sum : (a b c d e f u r v s w t x y p q : ℤ) → a +ℤ b ≡ u *ℤ pos 8 +ℤ r → c +ℤ d ≡ v *ℤ pos 8 +ℤ s → e +ℤ f ≡ w *ℤ pos 8 +ℤ t → x ≡ u +ℤ v → y ≡ r +ℤ s → p ≡ x +ℤ w → q ≡ y +ℤ t
    → a +ℤ b +ℤ c +ℤ d +ℤ e +ℤ f ≡ p *ℤ pos 8 +ℤ q
six_sum a b c d e f u r v s w t x y p q one two three fx fy fp fq =
    let four : a +ℤ b +ℤ (c +ℤ d) ≡ x *ℤ pos 8 +ℤ y = eight_sum (a +ℤ b) (c +ℤ d) u r v s x y one two fx fy in
    in_turn a b c d e f (p *ℤ pos 8 +ℤ q) (eight_sum (a +ℤ b +ℤ (c +ℤ d)) (e +ℤ f) x y w t p q four three fp fq)
