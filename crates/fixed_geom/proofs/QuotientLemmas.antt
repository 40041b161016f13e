-- Quotients to the nearest and down.
use Rattle.std.proofs.Common.{◌≡◌, ℕ, zero, suc, ◌+◌, ◌-◌, ◌*◌, ◌/◌, ◌%◌, ◌^◌, ◌<◌, ◌≤◌, ℤ, pos, negsuc, ◌-ℤ◌, neg_ℤ, ◌<ℤ◌, ◌≤ℤ◌, unsigned_abs, arith, refl, sym, ◌∙◌, ap}
use Rattle.std.proofs.lemmas.Nat.{div_below, div-mul-add, div-add-mod', mod_below}
use Rattle.std.proofs.lemmas.Int.{ints}
use Rattle.std.specs.Int.{int_div_euclid}
use Rattle.fixed_geom.specs.Numbers.{nearest, rdiv, fdiv, IsNearest, IsFloor}

-- a guess a, between the bounds of the quotient, is the quotient
pub nearest_at : (n d q a b s : ℕ) → 0 < d → a ≡ q → b ≡ 2 * d → s ≡ 2 * n + d → a * b ≤ s → s < a * b + 2 * d → q ≡ nearest n d
nearest_at n d q a b s p e f g h l =
    let same : a * b ≡ q * (2 * d) = rw (e, f) refl in
    let sum : 2 * n + d ≡ q * (2 * d) + (s - q * (2 * d)) = omega arith in
    sym (ap (λ x. x / (2 * d)) sum ∙ div-mul-add q (2 * d) (s - q * (2 * d)) (omega arith))

pub nearest_guessed : (n d q a b : ℕ) → 0 < d → a ≡ q → b ≡ 2 * d → a * b ≤ n * 2 ^ 31 + d → n * 2 ^ 31 + d < a * b + 2 * d → q ≡ nearest (n * 2 ^ 30) d
nearest_guessed n d q a b p e f h l = nearest_at (n * 2 ^ 30) d q a b (n * 2 ^ 31 + d) p e f (omega arith) h l

pub inverse_guessed : (n d q a b : ℕ) → 0 < d → a ≡ q → b ≡ 2 * d → a * b ≤ n * 2 ^ 41 + d → n * 2 ^ 41 + d < a * b + 2 * d → q ≡ nearest (n * 2 ^ 40) d
inverse_guessed n d q a b p e f h l = nearest_at (n * 2 ^ 40) d q a b (n * 2 ^ 41 + d) p e f (omega arith) h l

-- a quotient lies between its neighbours
pub quotient_is : (s m g : ℕ) → g * m ≤ s → s < g * m + m → s / m ≡ g
quotient_is s m g h k =
    let sum : s ≡ g * m + (s - g * m) = omega arith in
    ap (λ x. x / m) sum ∙ div-mul-add g m (s - g * m) (omega arith)

pub nearest_le : (n d k : ℕ) → 0 < d → n ≤ k * d → nearest n d ≤ k
nearest_le n d k p h =
    let few : 2 * n + d < (k + 1) * (2 * d) = omega arith in
    let below : nearest n d < k + 1 = div_below (2 * n + d) (2 * d) (k + 1) (omega arith) few in
    omega arith

zero-minus : (n : ℕ) → pos 0 -ℤ pos n ≡ neg_ℤ (pos n)
zero-minus zero = refl
zero-minus (suc n) = omega (arith, ints)

pub abs_neg : (n : ℕ) → unsigned_abs (neg_ℤ (pos n)) ≡ n
abs_neg zero = refl
abs_neg (suc n) = refl

pub rdiv-negative : (a b : ℤ) (n d r : ℕ) → a <ℤ pos 0 → n ≡ unsigned_abs a → d ≡ unsigned_abs b → r ≡ nearest n d → (pos 0 -ℤ pos r) ≡ rdiv a b
unfolding rdiv
rdiv-negative (pos m) b n d r h e f g = absurd (omega (arith, ints))
rdiv-negative (negsuc m) b n d r h e f g =
    let same : r ≡ nearest (suc m) (unsigned_abs b) = cc in
    ap (λ k. pos 0 -ℤ pos k) same ∙ zero-minus (nearest (suc m) (unsigned_abs b))

pub rdiv-nonnegative : (a b : ℤ) (n d r : ℕ) → pos 0 ≤ℤ a → n ≡ unsigned_abs a → d ≡ unsigned_abs b → r ≡ nearest n d → pos r ≡ rdiv a b
unfolding rdiv
rdiv-nonnegative (pos m) b n d r h e f g = ap pos (let same : r ≡ nearest m (unsigned_abs b) = cc in same)
rdiv-nonnegative (negsuc m) b n d r h e f g = absurd (omega (arith, ints))

-- a quotient's size
pub rdiv_le : (a b : ℤ) (k : ℕ) → 0 < unsigned_abs b → unsigned_abs a ≤ k * unsigned_abs b → unsigned_abs (rdiv a b) ≤ k
unfolding rdiv
rdiv_le (pos n) b k p h = nearest_le n (unsigned_abs b) k p h
rdiv_le (negsuc n) b k p h = rw abs_neg (nearest_le (suc n) (unsigned_abs b) k p h)

pub fdiv-euclid : (a b : ℤ) → pos 0 <ℤ b → int_div_euclid a b ≡ fdiv a b
unfolding fdiv
fdiv-euclid (pos n) (pos d) h = refl
fdiv-euclid (negsuc n) (pos d) h = refl
fdiv-euclid a (negsuc d) h = absurd h.lt

-- ---- rounded down

floor_pos : (n d : ℕ) → 0 < d → IsFloor (pos n) (pos d) (pos (n / d))
floor_pos n d p =
    let whole : n / d * d + n % d ≡ n = div-add-mod' n d in
    let rest : n % d < d = mod_below n d p in
    record { below = omega (arith, ints); above = omega (arith, ints) }

floor_neg : (n d q : ℕ) → q * suc d ≤ n → n < q * suc d + suc d → IsFloor (negsuc n) (pos (suc d)) (negsuc q)
floor_neg n d q h k = record { below = omega (arith, ints); above = omega (arith, ints) }

pub fdiv-floor : (a b : ℤ) → pos 0 <ℤ b → IsFloor a b (fdiv a b)
unfolding fdiv
fdiv-floor (pos n) (pos d) p = floor_pos n d (omega (arith, ints))
fdiv-floor (negsuc n) (pos (suc d)) p =
    let whole : n / suc d * suc d + n % suc d ≡ n = div-add-mod' n (suc d) in
    let rest : n % suc d < suc d = mod_below n (suc d) (omega arith) in
    floor_neg n d (n / suc d) (omega arith) (omega arith)
fdiv-floor a (pos zero) p = absurd (omega (arith, ints))
fdiv-floor a (negsuc d) p = absurd p.lt

-- ---- the inequality

pub nearest_between : (n d : ℕ) → 0 < d → (2 * n < 2 * (nearest n d * d) + d) × (2 * (nearest n d * d) ≤ 2 * n + d)
nearest_between n d p =
    let whole : nearest n d * (2 * d) + (2 * n + d) % (2 * d) ≡ 2 * n + d = div-add-mod' (2 * n + d) (2 * d) in
    let below : (2 * n + d) % (2 * d) < 2 * d = mod_below (2 * n + d) (2 * d) (omega arith) in
    (omega arith, omega arith)

nearest_below : (n q d : ℕ) → (2 * suc n < 2 * (q * suc d) + suc d) × (2 * (q * suc d) ≤ 2 * suc n + suc d) → IsNearest (negsuc n) (pos (suc d)) (neg_ℤ (pos q))
nearest_below n zero d h = record { near = omega (arith, ints, h); away = λ e. omega (arith, ints, h) }
nearest_below n (suc q) d h = record { near = omega (arith, ints, h); away = λ e. omega (arith, ints, h) }

pub rdiv-nearest : (a b : ℤ) → pos 0 <ℤ b → IsNearest a b (rdiv a b)
unfolding rdiv
rdiv-nearest (pos n) (pos (suc d)) p =
    let h = nearest_between n (suc d) (omega arith) in
    record { near = omega (arith, ints, h); away = λ e. omega (arith, ints, h) }
rdiv-nearest (negsuc n) (pos (suc d)) p = nearest_below n (nearest (suc n) (suc d)) d (nearest_between (suc n) (suc d) (omega arith))
rdiv-nearest a (pos zero) p = absurd (omega (arith, ints))
rdiv-nearest a (negsuc d) p = absurd p.lt

-- what `rdiv` ensures, of a result that is the quotient
pub finished : (a b q : ℤ) → pos 0 <ℤ b → q ≡ rdiv a b → record { value : q ≡ rdiv a b; nearest : IsNearest a b q; within : (k : ℕ) → unsigned_abs a ≤ k * unsigned_abs b → unsigned_abs q ≤ k }
finished a b q p e = record {
  value = e;
  nearest = rw e (rdiv-nearest a b p);
  within = λ k h. rw e (rdiv_le a b k (omega (arith, ints)) h);
}
