-- Trusted: Boxes with sides along the axes, from a lower to an upper corner. A box has its sides.
use Rattle.std.specs.Prelude.{ℕ, Bool, ◌&&◌, ℤ, ◌+ℤ◌, ◌-ℤ◌, ◌≤ℤ◌, int_le}
use Rattle.fixed_geom.specs.Vectors.{IsWithin}
use Rattle.fixed_geom.specs.declared.boxes.Box2.{Box2}

-- both corners are within n
pub record IsBoxWithin (n : ℕ) (b : Box2) : Type 0 where
  pub lo : IsWithin n b.lo
  pub hi : IsWithin n b.hi

-- some point is in both: boxes that only touch overlap
pub record Overlaps (a b : Box2) : Type 0 where
  pub left : a.lo.x ≤ℤ b.hi.x
  pub right : b.lo.x ≤ℤ a.hi.x
  pub down : a.lo.y ≤ℤ b.hi.y
  pub up : b.lo.y ≤ℤ a.hi.y

-- from lo to hi and from low to high: on one axis, the two have a number in common
unfoldable pub spans_meet : ℤ → ℤ → ℤ → ℤ → Bool
spans_meet lo hi low high = int_le lo high && int_le low hi

abbrev pub overlaps : Box2 → Box2 → Bool
overlaps a b = spans_meet a.lo.x a.hi.x b.lo.x b.hi.x && spans_meet a.lo.y a.hi.y b.lo.y b.hi.y

-- each point of the inner box is in the outer: a box contains itself
pub record Contains (outer inner : Box2) : Type 0 where
  pub left : outer.lo.x ≤ℤ inner.lo.x
  pub right : inner.hi.x ≤ℤ outer.hi.x
  pub down : outer.lo.y ≤ℤ inner.lo.y
  pub up : inner.hi.y ≤ℤ outer.hi.y

-- on one axis, from lo to hi holds from low to high
unfoldable pub covers : ℤ → ℤ → ℤ → ℤ → Bool
covers lo hi low high = int_le lo low && int_le high hi

abbrev pub contains : Box2 → Box2 → Bool
contains outer inner = covers outer.lo.x outer.hi.x inner.lo.x inner.hi.x && covers outer.lo.y outer.hi.y inner.lo.y inner.hi.y

-- each side moved out by k
abbrev pub grow : Box2 → ℤ → Box2
grow b k = record {
  lo = record { x = b.lo.x -ℤ k; y = b.lo.y -ℤ k };
  hi = record { x = b.hi.x +ℤ k; y = b.hi.y +ℤ k };
}
