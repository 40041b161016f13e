use Rattle.std.proofs.Common.{◌≡◌, ◌*◌, ◌*ℤ◌, unsigned_abs}
use Rattle.std.proofs.lemmas.Int.{to_z-of_z}
use Rattle.std.specs.Int.{w64}
use mir.Val.{SFits}
use Rattle.fixed_geom.proofs.Sizes.{IsExactSum, exact_sum}
use Rattle.fixed_geom.proofs.products.sum_of_products.Goals as goal

-- the two products, with no conversions
record Products (c : goal.After-product-2) : Type 0 where
  first : c.product.result ≡ c.args.a *ℤ c.args.b
  second : c.product-2.result ≡ c.args.c *ℤ c.args.d
  first_size : unsigned_abs c.product.result ≡ unsigned_abs c.args.a * unsigned_abs c.args.b
  second_size : unsigned_abs c.product-2.result ≡ unsigned_abs c.args.c * unsigned_abs c.args.d

products : (c : goal.After-product-2) → Products c
products c =
    let a : SFits w64 c.args.a = c.ranges.a in
    let b : SFits w64 c.args.b = c.ranges.b in
    let c' : SFits w64 c.args.c = c.ranges.c in
    let d : SFits w64 c.args.d = c.ranges.d in
    record {
      first = simp to_z-of_z at c.product.ensures.value;
      second = simp to_z-of_z at c.product-2.ensures.value;
      first_size = simp to_z-of_z at c.product.ensures.size;
      second_size = simp to_z-of_z at c.product-2.ensures.size;
    }

exact : (c : goal.After-product-2) → IsExactSum c.product.result c.product-2.result
exact c = exact_sum _ _ (rw (products c).first_size c.requires.first) (rw (products c).second_size c.requires.second)

pub overflow_add-result : goal.overflow_add-result
overflow_add-result c = (exact c).fits

pub returns-clause-value : goal.returns-clause-value
returns-clause-value c = rw (← (products c).first, ← (products c).second) (exact c).value

pub returns-clause-size : goal.returns-clause-size
returns-clause-size c = rw ((exact c).value, ← (products c).first_size, ← (products c).second_size) (exact c).size
