use Rattle.std.proofs.Common.{◌≡◌, ◌≤◌, ◌^◌, ◌*◌, ◌+ℤ◌, ◌*ℤ◌, ℕ, unsigned_abs, arith, ◌∙◌, ap}
use Rattle.std.proofs.lemmas.Int.{to_z-of_z}
use Rattle.std.proofs.lemmas.Nat.{mul-le}
use Rattle.std.specs.Int.{w64}
use mir.Val.{SFits}
use Rattle.fixed_geom.specs.Numbers.{rdiv}
use Rattle.fixed_geom.specs.Vectors.{unit_length}
use Rattle.fixed_geom.proofs.Sizes.{IsSum64, sum_64}
use Rattle.fixed_geom.proofs.vectors.shifted.Goals as goal

record Scaled (c : goal.After-scaled) : Type 0 where
  value : c.scaled.result ≡ rdiv (c.args.d *ℤ c.args.t) unit_length
  small : unsigned_abs c.scaled.result ≤ 2 ^ 58
  within : (k : ℕ) → unsigned_abs c.args.d * unsigned_abs c.args.t ≤ k * 2 ^ 30 → unsigned_abs c.scaled.result ≤ k

scaled : (c : goal.After-scaled) → Scaled c
scaled c =
    let d : SFits w64 c.args.d = c.ranges.d in
    let t : SFits w64 c.args.t = c.ranges.t in
    let product = mul-le (unsigned_abs c.args.d) (unsigned_abs c.args.t) (2 ^ 42) (2 ^ 46) c.requires.way c.requires.times in
    record {
      value = simp to_z-of_z at c.scaled.ensures.value;
      small = c.scaled.ensures.within (2 ^ 58) (simp to_z-of_z (omega (arith, product)));
      within = λ k h. c.scaled.ensures.within k (simp to_z-of_z h);
    }

exact : (c : goal.After-scaled) → IsSum64 c.args.x c.scaled.result
exact c = sum_64 c.args.x c.scaled.result (omega (arith, c.requires.position)) (omega (arith, (scaled c).small))

pub overflow_add-result : goal.overflow_add-result
overflow_add-result c = (exact c).fits

pub returns-clause-value : goal.returns-clause-value
returns-clause-value c = (exact c).value ∙ ap (λ v. c.args.x +ℤ v) (scaled c).value

pub returns-clause-within : goal.returns-clause-within
returns-clause-within c = λ m k h l. rw (exact c).value (omega (arith, (exact c).size, (scaled c).within k l))
