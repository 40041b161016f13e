-- The length of a vector.
use Rattle.std.proofs.Common.{◌≡◌, ℕ, zero, suc, ◌+◌, ◌*◌, ◌<◌, ◌≤◌, ℤ, pos, negsuc, ◌*ℤ◌, ◌<ℤ◌, ◌≤ℤ◌, unsigned_abs, arith, refl, ap}
use Rattle.std.proofs.lemmas.Nat.{mul-le}
use Rattle.std.proofs.lemmas.Int.{ints}
use Rattle.fixed_geom.specs.Numbers.{root, isqrt, IsRoot}
use Rattle.fixed_geom.specs.Vectors.{dot, span, IsWithin}
use Rattle.fixed_geom.specs.declared.vectors.Vec2.{Vec2}
use Rattle.fixed_geom.proofs.RootLemmas.{root_is, root_below, is_root, IsRootOf}

square : (x : ℤ) → x *ℤ x ≡ pos (unsigned_abs x * unsigned_abs x)
square (pos n) = refl
square (negsuc n) = refl

abbrev squares : Vec2 → ℕ
squares d = unsigned_abs d.x * unsigned_abs d.x + unsigned_abs d.y * unsigned_abs d.y

pub dot_self : (d : Vec2) → dot d d ≡ pos (unsigned_abs d.x * unsigned_abs d.x + unsigned_abs d.y * unsigned_abs d.y)
unfolding dot
dot_self d = rw (square d.x, square d.y) refl

pub span_is : (d : Vec2) → span d ≡ pos (root (squares d))
unfolding span isqrt
span_is d = rw (dot_self d) refl

part : (a b : ℕ) → a ≤ root (a * a + b * b)
part a b = root_below (a * a + b * b) a (root (a * a + b * b)) (omega arith) ((root_is (a * a + b * b)).above)

part' : (a b : ℕ) → b ≤ root (a * a + b * b)
part' a b = root_below (a * a + b * b) b (root (a * a + b * b)) (omega arith) ((root_is (a * a + b * b)).above)

pub root_small : (a b k : ℕ) → a ≤ k → b ≤ k → root (a * a + b * b) ≤ 2 * k
root_small a b k h l =
    let first : a * a ≤ k * k = mul-le _ _ _ _ h h in
    let second : b * b ≤ k * k = mul-le _ _ _ _ l l in
    root_below (a * a + b * b) (root (a * a + b * b)) (2 * k) ((root_is (a * a + b * b)).below) (omega arith)

pub record IsSpan (d : Vec2) (k : ℤ) : Type 0 where
  pub nonnegative : pos 0 ≤ℤ k
  pub covers : IsWithin (unsigned_abs k) d
  pub within : (n : ℕ) → IsWithin n d → unsigned_abs k ≤ 2 * n

pub span_spans : (d : Vec2) → IsSpan d (span d)
span_spans d = rw (span_is d) (record {
  nonnegative = omega (arith, ints);
  covers = record { x = part (unsigned_abs d.x) (unsigned_abs d.y); y = part' (unsigned_abs d.x) (unsigned_abs d.y) };
  within = λ n h. root_small (unsigned_abs d.x) (unsigned_abs d.y) n h.x h.y;
})

positive_squares : (a b : ℕ) → 0 < a + b → 0 < a * a + b * b
positive_squares zero (suc b) h = omega arith
positive_squares zero zero h = absurd (omega arith)
positive_squares (suc a) b h = omega arith

pub dot_positive : (d : Vec2) → 0 < unsigned_abs d.x + unsigned_abs d.y → pos 0 <ℤ dot d d
dot_positive d h =
    let some : 0 < unsigned_abs d.x * unsigned_abs d.x + unsigned_abs d.y * unsigned_abs d.y = positive_squares (unsigned_abs d.x) (unsigned_abs d.y) h in
    rw (dot_self d) (omega (arith, ints))

-- the length, as the root that it is
pub span_root : (d : Vec2) → IsRoot (dot d d) (span d)
span_root d =
    let is : IsRootOf (squares d) (root (squares d)) = root_is (squares d) in
    rw (span_is d, dot_self d) (record { nonnegative = omega (arith, ints); below = omega (arith, ints); above = omega (arith, ints) })

-- the root of the square of a length
pub span_from : (d : Vec2) (n k : ℕ) → n ≡ unsigned_abs d.x * unsigned_abs d.x + unsigned_abs d.y * unsigned_abs d.y → k * k ≤ n → n < (k + 1) * (k + 1) → pos k ≡ span d
span_from d n k e h l = rw (span_is d, ← e) (ap pos (is_root n k h l))

-- what `span` ensures, of a result that is the length
pub spanned : (d : Vec2) (k : ℤ) → k ≡ span d → record { value : k ≡ span d; root : IsRoot (dot d d) k; nonnegative : pos 0 ≤ℤ k; covers : IsWithin (unsigned_abs k) d; within : (n : ℕ) → IsWithin n d → unsigned_abs k ≤ 2 * n }
spanned d k e = record {
  value = e;
  root = rw e (span_root d);
  nonnegative = rw e (span_spans d).nonnegative;
  covers = rw e (span_spans d).covers;
  within = λ n h. rw e ((span_spans d).within n h);
}
