use Rattle.std.proofs.Common.{◌≡◌, ◌+ℤ◌, ◌*ℤ◌, arith, ◌∙◌, ap}
use Rattle.std.proofs.Math.IntN.{*ℤ_comm}
use Rattle.std.proofs.lemmas.Int.{to_z-of_z}
use Rattle.std.specs.Int.{w64}
use mir.Val.{SFits}
use Rattle.fixed_geom.specs.Numbers.{rdiv}
use Rattle.fixed_geom.specs.Vectors.{unit_length}
use Rattle.fixed_geom.proofs.Sizes.{IsSum64, sum_64}
use Rattle.fixed_geom.proofs.vectors.shifted_64.Goals as goal

scaled : (c : goal.After-scaled_64) → c.scaled_64.result ≡ rdiv (c.args.d *ℤ c.args.t) unit_length
scaled c =
    let d : SFits w64 c.args.d = c.ranges.d in
    let t : SFits w64 c.args.t = c.ranges.t in
    let value : c.scaled_64.result ≡ rdiv (c.args.t *ℤ c.args.d) unit_length = simp to_z-of_z at c.scaled_64.ensures.value in
    value ∙ ap (λ z. rdiv z unit_length) (*ℤ_comm c.args.t c.args.d)

exact : (c : goal.After-scaled_64) → IsSum64 c.args.x c.scaled_64.result
exact c = sum_64 c.args.x c.scaled_64.result (omega (arith, c.requires.position)) (omega (arith, c.scaled_64.ensures.within))

pub overflow_add-result : goal.overflow_add-result
overflow_add-result c = (exact c).fits

pub returns-clause-value : goal.returns-clause-value
returns-clause-value c = (exact c).value ∙ ap (λ v. c.args.x +ℤ v) (scaled c)

pub returns-clause-within : goal.returns-clause-within
returns-clause-within c = rw (exact c).value (omega (arith, (exact c).size, c.scaled_64.ensures.within))
