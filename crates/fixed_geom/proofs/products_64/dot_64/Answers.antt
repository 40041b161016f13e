use Rattle.std.proofs.Common.{◌≡◌, ◌≤◌, ◌^◌, ◌*◌, ◌*ℤ◌, unsigned_abs, arith, rules}
use Rattle.std.proofs.lemmas.Int.{to_z-of_z}
use Rattle.std.proofs.lemmas.Nat.{mul-le}
use Rattle.std.specs.Int.{w64}
use mir.Val.{SFits}
use Rattle.fixed_geom.specs.Vectors.{dot}
use Rattle.fixed_geom.proofs.Sizes.{IsSum64, sum_64}
use Rattle.fixed_geom.proofs.products_64.dot_64.Goals as goal

-- the two products, with no conversions
record Products (c : goal.After-product_64-2) : Type 0 where
  first : c.product_64.result ≡ c.args.a.x *ℤ c.args.b.x
  second : c.product_64-2.result ≡ c.args.a.y *ℤ c.args.b.y
  first_size : unsigned_abs c.product_64.result ≡ unsigned_abs c.args.a.x * unsigned_abs c.args.b.x
  second_size : unsigned_abs c.product_64-2.result ≡ unsigned_abs c.args.a.y * unsigned_abs c.args.b.y

products : (c : goal.After-product_64-2) → Products c
products c =
    let ax : SFits w64 c.args.a.x = search rules in
    let ay : SFits w64 c.args.a.y = search rules in
    let bx : SFits w64 c.args.b.x = search rules in
    let by : SFits w64 c.args.b.y = search rules in
    record {
      first = simp to_z-of_z at c.product_64.ensures.value;
      second = simp to_z-of_z at c.product_64-2.ensures.value;
      first_size = simp to_z-of_z at c.product_64.ensures.size;
      second_size = simp to_z-of_z at c.product_64-2.ensures.size;
    }

first_within : (c : goal.After-product_64-2) → unsigned_abs c.product_64.result ≤ 2 ^ 61
first_within c = rw (products c).first_size (mul-le (unsigned_abs c.args.a.x) (unsigned_abs c.args.b.x) (2 ^ 31) (2 ^ 30) c.requires.first.x c.requires.second.x)

second_within : (c : goal.After-product_64-2) → unsigned_abs c.product_64-2.result ≤ 2 ^ 61
second_within c = rw (products c).second_size (mul-le (unsigned_abs c.args.a.y) (unsigned_abs c.args.b.y) (2 ^ 31) (2 ^ 30) c.requires.first.y c.requires.second.y)

exact : (c : goal.After-product_64-2) → IsSum64 c.product_64.result c.product_64-2.result
exact c = sum_64 _ _ (first_within c) (second_within c)

pub overflow_add-result : goal.overflow_add-result
overflow_add-result c = (exact c).fits

pub returns-clause-value : goal.returns-clause-value
unfolding dot
returns-clause-value c = rw (← (products c).first, ← (products c).second) (exact c).value

pub returns-clause-within : goal.returns-clause-within
returns-clause-within c = rw (exact c).value (omega (arith, (exact c).size, first_within c, second_within c))

pub returns-clause-size : goal.returns-clause-size
returns-clause-size c = λ m n h k.
    let x = mul-le (unsigned_abs c.args.a.x) (unsigned_abs c.args.b.x) m n h.x k.x in
    let y = mul-le (unsigned_abs c.args.a.y) (unsigned_abs c.args.b.y) m n h.y k.y in
    rw (exact c).value (omega (arith, (exact c).size, (products c).first_size, (products c).second_size, x, y))
