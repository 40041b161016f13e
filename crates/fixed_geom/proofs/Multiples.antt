-- A number times a difference, and times a sum.
use Rattle.std.proofs.Common.{◌≡◌, ◌+◌, ◌*◌, ℤ, ◌+ℤ◌, ◌-ℤ◌, ◌*ℤ◌, arith, ap}
use Rattle.std.proofs.lemmas.Int.{ints}
use borrow.Author.Differences.{up, down}

pub times_difference : (a b c f : ℤ) → f ≡ b -ℤ c → a *ℤ f ≡ a *ℤ b -ℤ a *ℤ c
times_difference a b c f h =
    let e : up f + (down b + up c) ≡ down f + (up b + down c) = omega (arith, ints) in
    let g : up a * (up f + (down b + up c)) ≡ up a * (down f + (up b + down c)) = ap (λ n. up a * n) e in
    let k : down a * (up f + (down b + up c)) ≡ down a * (down f + (up b + down c)) = ap (λ n. down a * n) e in
    omega (arith, ints, g, k)

pub times_sum : (a b c f : ℤ) → f ≡ b +ℤ c → a *ℤ f ≡ a *ℤ b +ℤ a *ℤ c
times_sum a b c f h =
    let e : up f + (down b + down c) ≡ down f + (up b + up c) = omega (arith, ints) in
    let g : up a * (up f + (down b + down c)) ≡ up a * (down f + (up b + up c)) = ap (λ n. up a * n) e in
    let k : down a * (up f + (down b + down c)) ≡ down a * (down f + (up b + up c)) = ap (λ n. down a * n) e in
    omega (arith, ints, g, k)
