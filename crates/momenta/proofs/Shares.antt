-- A body's share of the inverse mass: how large it is.
use Rattle.std.proofs.Common.{◌≡◌, ℕ, zero, suc, ◌+◌, ◌*◌, ◌^◌, ◌<◌, ◌≤◌, ℤ, pos, negsuc, ◌*ℤ◌, ◌≤ℤ◌, unsigned_abs, arith, refl, ap}
use Rattle.std.proofs.Math.IntN.{*ℤ_comm}
use Rattle.std.proofs.lemmas.Int.{ints}
use Rattle.std.proofs.lemmas.Nat.{le-div}
use Rattle.fixed_geom.specs.Numbers.{nearest, rdiv}
use Rattle.fixed_geom.proofs.QuotientLemmas.{rdiv_le}
use Rattle.fixed_geom.proofs.Sizes.{product_le}
use Rattle.momenta.specs.Impulses.{turning_share}
use Rattle.momenta.proofs.Spins.{rdiv_none}

nearest_least : (n d k : ℕ) → 0 < d → k * d ≤ n → k ≤ nearest n d
nearest_least n d k p h =
    let many : k * (2 * d) ≤ 2 * n + d = omega arith in
    le-div k (2 * n + d) (2 * d) (omega arith) many

rdiv_least : (n : ℕ) (b : ℤ) (k : ℕ) → 0 < unsigned_abs b → k * unsigned_abs b ≤ n → pos k ≤ℤ rdiv (pos n) b
unfolding rdiv
rdiv_least n b k p h =
    let least : k ≤ nearest n (unsigned_abs b) = nearest_least n (unsigned_abs b) k p h in
    omega (arith, ints)

pub record IsShareOfMass (share : ℤ) : Type 0 where
  pub some : pos (2 ^ 20) ≤ℤ share
  pub within : unsigned_abs share ≤ 2 ^ 40

pub share_of_mass : (mass : ℤ) → pos 1 ≤ℤ mass → unsigned_abs mass ≤ 2 ^ 20 → IsShareOfMass (rdiv (pos (2 ^ 40)) mass)
share_of_mass mass h k =
    let some : 0 < unsigned_abs mass = omega (arith, ints) in
    record { some = rdiv_least (2 ^ 40) mass (2 ^ 20) some (omega arith); within = rdiv_le (pos (2 ^ 40)) mass (2 ^ 40) some (omega arith) }

square : (g : ℤ) → g *ℤ g ≡ pos (unsigned_abs g * unsigned_abs g)
square (pos n) = refl
square (negsuc n) = refl

pub by_product : (inertia g : ℤ) → rdiv (g *ℤ g *ℤ pos (2 ^ 40)) inertia ≡ rdiv (pos (2 ^ 40) *ℤ (g *ℤ g)) inertia
by_product inertia g = ap (λ z. rdiv z inertia) (*ℤ_comm (g *ℤ g) (pos (2 ^ 40)))

rdiv_nonnegative : (n : ℕ) (b : ℤ) → pos 0 ≤ℤ rdiv (pos n) b
unfolding rdiv
rdiv_nonnegative n b = omega (arith, ints)

pub turning_some : (inertia g : ℤ) → pos 1 ≤ℤ inertia → turning_share inertia g ≡ rdiv (pos (2 ^ 40) *ℤ (g *ℤ g)) inertia
turning_some (pos zero) g h = absurd (omega (arith, ints))
turning_some (pos (suc n)) g h = refl
turning_some (negsuc n) g h = refl

pub turning_nonnegative : (inertia g : ℤ) → pos 1 ≤ℤ inertia → pos 0 ≤ℤ turning_share inertia g
turning_nonnegative inertia g h = rw (turning_some inertia g h, square g) (rdiv_nonnegative (2 ^ 40 * (unsigned_abs g * unsigned_abs g)) inertia)

pub turning_small : (inertia g : ℤ) → pos 1 ≤ℤ inertia → unsigned_abs g ≤ 2 ^ 28 → unsigned_abs (turning_share inertia g) ≤ 2 ^ 96
turning_small inertia g h k =
    let some : 1 ≤ unsigned_abs inertia = omega (arith, ints) in
    let squared : unsigned_abs (g *ℤ g) ≤ 2 ^ 56 = product_le g g (2 ^ 28) (2 ^ 28) k k in
    let size : unsigned_abs (pos (2 ^ 40) *ℤ (g *ℤ g)) ≤ 2 ^ 96 = product_le (pos (2 ^ 40)) (g *ℤ g) (2 ^ 40) (2 ^ 56) (omega arith) squared in
    rw (turning_some inertia g h) (rdiv_le (pos (2 ^ 40) *ℤ (g *ℤ g)) inertia (2 ^ 96) (omega arith) (omega (arith, size, some)))

pub turning_none : (inertia : ℤ) → pos 0 ≤ℤ inertia → turning_share inertia (pos 0) ≡ pos 0
turning_none (pos zero) h = refl
turning_none (pos (suc n)) h = rdiv_none (pos (suc n)) (omega (arith, ints))
turning_none (negsuc n) h = absurd (omega (arith, ints))
