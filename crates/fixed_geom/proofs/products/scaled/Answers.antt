use Rattle.std.proofs.Common.{◌≡◌, ◌*◌, ◌*ℤ◌, unsigned_abs}
use Rattle.std.proofs.lemmas.Int.{to_z-of_z}
use Rattle.std.specs.Int.{w64, w128}
use mir.Val.{SFits}
use Rattle.fixed_geom.proofs.products.scaled.Goals as goal

record Product (c : goal.After-product) : Type 0 where
  value : c.product.result ≡ c.args.a *ℤ c.args.b
  size : unsigned_abs c.product.result ≡ unsigned_abs c.args.a * unsigned_abs c.args.b

product : (c : goal.After-product) → Product c
product c =
    let a : SFits w64 c.args.a = c.ranges.a in
    let b : SFits w64 c.args.b = c.ranges.b in
    record { value = simp to_z-of_z at c.product.ensures.value; size = simp to_z-of_z at c.product.ensures.size }

pub rdiv_unit-requires : goal.rdiv_unit-requires
rdiv_unit-requires c =
    let p : SFits w128 c.product.result = record { sfits = c.product.type_inv } in
    simp to_z-of_z (rw (product c).size c.requires)

pub returns-clause-value : goal.returns-clause-value
returns-clause-value c =
    let a : SFits w64 c.args.a = c.ranges.a in
    let b : SFits w64 c.args.b = c.ranges.b in
    let p : SFits w128 c.product.result = record { sfits = c.product.type_inv } in
    let r : SFits w64 c.rdiv_unit.result = record { sfits = c.rdiv_unit.type_inv } in
    let product = simp to_z-of_z at c.product.ensures.value in
    let value = simp to_z-of_z at c.rdiv_unit.ensures.value in
    simp to_z-of_z (rw (← product) value)

pub returns-clause-within : goal.returns-clause-within
returns-clause-within c = λ k h.
    let a : SFits w64 c.args.a = c.ranges.a in
    let b : SFits w64 c.args.b = c.ranges.b in
    let p : SFits w128 c.product.result = record { sfits = c.product.type_inv } in
    let r : SFits w64 c.rdiv_unit.result = record { sfits = c.rdiv_unit.type_inv } in
    let size = simp to_z-of_z at c.product.ensures.size in
    simp to_z-of_z (c.rdiv_unit.ensures.within k (simp to_z-of_z (rw size h)))
