use Rattle.std.proofs.Common.{◌≡◌, ◌≤◌, ◌^◌, ◌-ℤ◌, ◌*ℤ◌, unsigned_abs, arith, ◌∙◌, ap}
use Rattle.std.proofs.lemmas.Int.{to_z-of_z}
use Rattle.std.specs.Int.{w64}
use mir.Val.{SFits}
use Rattle.fixed_geom.specs.Numbers.{rdiv}
use Rattle.fixed_geom.specs.Vectors.{unit_length}
use Rattle.fixed_geom.proofs.QuotientLemmas.{rdiv_le}
use Rattle.fixed_geom.proofs.Sizes.{IsDifference64, difference_64, product_le}
use Rattle.momenta.proofs.state.carried_back.Goals as goal

record Scaled (c : goal.After-scaled_64) : Type 0 where
  value : c.scaled_64.result ≡ rdiv (c.args.w *ℤ c.args.r) unit_length
  small : unsigned_abs c.scaled_64.result ≤ 2 ^ 25

scaled : (c : goal.After-scaled_64) → Scaled c
scaled c =
    let w : SFits w64 c.args.w = c.ranges.w in
    let r : SFits w64 c.args.r = c.ranges.r in
    let size : unsigned_abs (c.args.w *ℤ c.args.r) ≤ 2 ^ 55 = product_le c.args.w c.args.r (2 ^ 28) (2 ^ 27) c.requires.w c.requires.r in
    let value : c.scaled_64.result ≡ rdiv (c.args.w *ℤ c.args.r) unit_length = simp to_z-of_z at c.scaled_64.ensures.value in
    record { value = value; small = rw value (rdiv_le (c.args.w *ℤ c.args.r) unit_length (2 ^ 25) (omega arith) (omega (arith, size))) }

exact : (c : goal.After-scaled_64) → IsDifference64 c.args.v c.scaled_64.result
exact c = difference_64 c.args.v c.scaled_64.result (omega (arith, c.requires.v)) (omega (arith, (scaled c).small))

pub overflow_sub-result : goal.overflow_sub-result
overflow_sub-result c = (exact c).fits

pub returns-clause-value : goal.returns-clause-value
returns-clause-value c = (exact c).value ∙ ap (λ v. c.args.v -ℤ v) (scaled c).value

pub returns-clause-within : goal.returns-clause-within
returns-clause-within c = rw (exact c).value (omega (arith, (exact c).size, (scaled c).small, c.requires.v))
