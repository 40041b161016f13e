use Rattle.std.proofs.Common.{◌≡◌, ◌^◌, ◌+◌, ◌≤◌, ℤ, pos, neg_ℤ, ◌-ℤ◌, ◌*ℤ◌, unsigned_abs, to_z, of_z, arith, ap, ◌∙◌}
use Rattle.std.proofs.lemmas.Int.{to_z-of_z, ints, fits_signed_from_abs}
use Rattle.std.proofs.lemmas.Nat.{mul-le}
use Rattle.std.specs.Int.{w64, w128}
use mir.Val.{SFits}
use Rattle.fixed_geom.specs.Numbers.{rdiv}
use Rattle.colour_solver_base.proofs.restitution.bounce_speed.Goals as goal

record Quotient (c : goal.After-rdiv) : Type 0 where
  value : c.rdiv.result ≡ rdiv (c.args.restitution *ℤ c.args.start) (pos 256)
  small : unsigned_abs c.rdiv.result ≤ 2 ^ 62 + 2 ^ 28

quotient : (c : goal.After-rdiv) → Quotient c
quotient c =
    let restitution : SFits w64 c.args.restitution = c.ranges.restitution in
    let start : SFits w64 c.args.start = c.ranges.start in
    let product : SFits w128 c.product.result = record { sfits = c.product.type_inv } in
    let most = mul-le (unsigned_abs c.args.restitution) (unsigned_abs c.args.start) 256 (2 ^ 62 + 2 ^ 28) c.requires.restitution c.requires.start in
    let product_is = simp to_z-of_z at c.product.ensures.value in
    let size = simp to_z-of_z at c.product.ensures.size in
    record {
      value = rw product_is at (simp to_z-of_z at c.rdiv.ensures.value);
      small = c.rdiv.ensures.within (2 ^ 62 + 2 ^ 28) (simp to_z-of_z (omega (arith, size, most)));
    }

back : (x : ℤ) → unsigned_abs x ≤ 2 ^ 62 + 2 ^ 28 → to_z w64 (of_z w64 (pos 0 -ℤ to_z w64 (of_z w64 (to_z w128 (of_z w128 x))))) ≡ neg_ℤ x
back x h =
    let wide : SFits w128 x = fits_signed_from_abs w128 x (omega arith) in
    let narrow : SFits w64 x = fits_signed_from_abs w64 x (omega arith) in
    let opposite : SFits w64 (pos 0 -ℤ x) = fits_signed_from_abs w64 (pos 0 -ℤ x) (omega (arith, ints)) in
    simp to_z-of_z (omega (arith, ints))

pub returns-clause-value : goal.returns-clause-value
returns-clause-value c = back c.rdiv.result (quotient c).small ∙ ap neg_ℤ (quotient c).value

pub returns-clause-within : goal.returns-clause-within
returns-clause-within c = rw (back c.rdiv.result (quotient c).small) (omega (arith, ints, (quotient c).small))
