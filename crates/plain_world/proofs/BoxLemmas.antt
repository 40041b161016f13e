-- The boxes of shapes lie within the limits of the world, and fat boxes contain tight ones.
use Rattle.std.proofs.Common.{◌≡◌, ℕ, suc, ◌+◌, ◌^◌, ◌≤◌, Bool, true, false, ◌&&◌, cond, ℤ, pos, ◌≤ℤ◌, unsigned_abs, int_lt, int_le, List, [], ◌∷◌, length, All, arith, refl}
use Rattle.std.proofs.lemmas.Int.{ints}
use Rattle.fixed_geom.specs.Vectors.{IsWithin}
use Rattle.fixed_geom.specs.Boxes.{IsBoxWithin, Contains, contains, covers, grow}
use Rattle.fixed_geom.specs.declared.boxes.Box2.{Box2}
use Rattle.fixed_geom.specs.declared.vectors.Vec2.{Vec2}
use Rattle.fixed_geom.proofs.FacingLemmas.{rotate_within}
use Rattle.shapes.specs.Bounds.{box_of_ends, tight_box}
use Rattle.shapes.specs.Poses.{IsPose, transformed, core_of}
use Rattle.shapes.specs.Shapes.{IsShape, IsShapeDef, first_end, second_end, radius_of}
use Rattle.shapes.specs.declared.pose.Core.{Core}
use Rattle.shapes.specs.declared.pose.Pose.{Pose}
use Rattle.shapes.specs.declared.shape.Shape.{Shape}
use Rattle.shapes.specs.declared.shape.ShapeDef.{ShapeDef}
use Rattle.plain_world.specs.Fats.{AreFatBoxes, EachIsFatBox, IsFatBox, fat_box_of, fat_boxes, renewed, renewed_boxes}

placed_within : (o : Pose) (v : Vec2) → IsPose o → IsWithin (2 ^ 24) v → IsWithin (2 ^ 36 + 2 ^ 25) (transformed o v)
unfolding transformed
placed_within o v is near =
    let turned = rotate_within o.rot v (2 ^ 24) is.rot near in
    let first = is.x in
    record { x = omega (arith, ints, turned.x, first.x); y = omega (arith, ints, turned.y, first.y) }

either_le : (b : Bool) (x y : ℤ) (n : ℕ) → unsigned_abs x ≤ n → unsigned_abs y ≤ n → unsigned_abs (cond b x y) ≤ n
either_le true x y n h l = h
either_le false x y n h l = l

ends_within : (c : Core) (k : ℕ) → IsWithin k c.p → IsWithin k c.q → IsBoxWithin k (box_of_ends c)
unfolding box_of_ends
ends_within c k h l = record {
  lo = record { x = either_le (int_lt c.q.x c.p.x) c.q.x c.p.x k l.x h.x; y = either_le (int_lt c.q.y c.p.y) c.q.y c.p.y k l.y h.y };
  hi = record { x = either_le (int_lt c.q.x c.p.x) c.p.x c.q.x k h.x l.x; y = either_le (int_lt c.q.y c.p.y) c.p.y c.q.y k h.y l.y };
}

grown_within : (b : Box2) (by : ℤ) (n k m : ℕ) → IsBoxWithin n b → unsigned_abs by ≤ k → n + k ≤ m → IsBoxWithin m (grow b by)
grown_within b by n k m is small le =
    let lo = is.lo in
    let hi = is.hi in
    record {
      lo = record { x = omega (arith, ints, lo.x, small, le); y = omega (arith, ints, lo.y, small, le) };
      hi = record { x = omega (arith, ints, hi.x, small, le); y = omega (arith, ints, hi.y, small, le) };
    }

tight_within : (s : Shape) (o : Pose) → IsShape s → IsPose o → IsBoxWithin (2 ^ 36 + 2 ^ 25 + 2 ^ 24) (tight_box s o)
tight_within s o shape pose =
    grown_within (box_of_ends (core_of s o)) (radius_of s) (2 ^ 36 + 2 ^ 25) (2 ^ 24) (2 ^ 36 + 2 ^ 25 + 2 ^ 24)
    (ends_within (core_of s o) (2 ^ 36 + 2 ^ 25) (placed_within o (first_end s) pose shape.first) (placed_within o (second_end s) pose shape.second))
    shape.radius (omega arith)

-- a box grown contains the box
grown_contains : (b : Box2) (by : ℤ) → pos 0 ≤ℤ by → Contains (grow b by) b
grown_contains b by is = record { left = omega (arith, ints, is); right = omega (arith, ints, is); down = omega (arith, ints, is); up = omega (arith, ints, is) }

fat_is : (s : Shape) (o : Pose) → IsShape s → IsPose o → IsFatBox o s (fat_box_of s o)
fat_is s o shape pose = record {
  contains = grown_contains (tight_box s o) _ (omega (arith, ints));
  within = grown_within (tight_box s o) _ (2 ^ 36 + 2 ^ 25 + 2 ^ 24) (2 ^ 17) (2 ^ 37) (tight_within s o shape pose) (omega arith) (omega arith);
}

at_most : (x y : ℤ) → int_le x y ≡ true → x ≤ℤ y
at_most x y h = omega (arith, ints, h)

first_true : (a b : Bool) → (a && b) ≡ true → a ≡ true
first_true true b h = refl
first_true false b h = h

second_true : (a b : Bool) → (a && b) ≡ true → b ≡ true
second_true true b h = h
second_true false b h = cc

contains_is : (outer inner : Box2) → contains outer inner ≡ true → Contains outer inner
unfolding covers
contains_is outer inner h =
    let across = first_true (covers outer.lo.x outer.hi.x inner.lo.x inner.hi.x) (covers outer.lo.y outer.hi.y inner.lo.y inner.hi.y) h in
    let along = second_true (covers outer.lo.x outer.hi.x inner.lo.x inner.hi.x) (covers outer.lo.y outer.hi.y inner.lo.y inner.hi.y) h in
    record {
      left = at_most outer.lo.x inner.lo.x (first_true (int_le outer.lo.x inner.lo.x) (int_le inner.hi.x outer.hi.x) across);
      right = at_most inner.hi.x outer.hi.x (second_true (int_le outer.lo.x inner.lo.x) (int_le inner.hi.x outer.hi.x) across);
      down = at_most outer.lo.y inner.lo.y (first_true (int_le outer.lo.y inner.lo.y) (int_le inner.hi.y outer.hi.y) along);
      up = at_most inner.hi.y outer.hi.y (second_true (int_le outer.lo.y inner.lo.y) (int_le inner.hi.y outer.hi.y) along);
    }

renewed_if : (t : Bool) (s : Shape) (o : Pose) (fat : Box2) → contains fat (tight_box s o) ≡ t → IsShape s → IsPose o → IsBoxWithin (2 ^ 37) fat → IsFatBox o s (cond t fat (fat_box_of s o))
renewed_if true s o fat e shape pose within = record { contains = contains_is fat (tight_box s o) e; within = within }
renewed_if false s o fat e shape pose within = fat_is s o shape pose

renewed_is : (s : Shape) (o : Pose) (fat : Box2) → IsShape s → IsPose o → IsBoxWithin (2 ^ 37) fat → IsFatBox o s (renewed s o fat)
unfolding renewed
renewed_is s o fat shape pose within = renewed_if (contains fat (tight_box s o)) s o fat refl shape pose within

-- ---- of all shapes of a body

length-fats : (defs : List ShapeDef) (o : Pose) → length (fat_boxes defs o) ≡ length defs
length-fats [] o = refl
length-fats (d ∷ defs) o = let rest = length-fats defs o in omega (arith, rest)

each_made : (defs : List ShapeDef) (o : Pose) → All IsShapeDef defs → IsPose o → EachIsFatBox o defs (fat_boxes defs o)
each_made [] o forms pose = tt
each_made (d ∷ defs) o forms pose =
    let first : IsShapeDef d = forms 0 d (omega arith) in
    (fat_is d.shape o first.shape pose, each_made defs o (λ k e h. forms (suc k) e (omega (arith, h))) pose)

-- those of a body that is made
pub made_boxes : (defs : List ShapeDef) (o : Pose) → All IsShapeDef defs → IsPose o → AreFatBoxes o defs (fat_boxes defs o)
made_boxes defs o forms pose = record { long = length-fats defs o; each = each_made defs o forms pose }

length-renewed : (o : Pose) (defs : List ShapeDef) (fats : List Box2) → length fats ≡ length defs → length (renewed_boxes o defs fats) ≡ length defs
length-renewed o [] fats e = e
length-renewed o (d ∷ defs) [] e = absurd (omega arith)
length-renewed o (d ∷ defs) (f ∷ fats) e = let rest = length-renewed o defs fats (omega arith) in omega (arith, rest)

each_renewed : (before o : Pose) (defs : List ShapeDef) (fats : List Box2) → All IsShapeDef defs → IsPose o → EachIsFatBox before defs fats → EachIsFatBox o defs (renewed_boxes o defs fats)
each_renewed before o [] fats forms pose each = tt
each_renewed before o (d ∷ defs) [] forms pose each = tt
each_renewed before o (d ∷ defs) (f ∷ fats) forms pose each =
    let first : IsShapeDef d = forms 0 d (omega arith) in
    let fat : IsFatBox before d.shape f = each.0 in
    (renewed_is d.shape o f first.shape pose fat.within, each_renewed before o defs fats (λ k e h. forms (suc k) e (omega (arith, h))) pose each.1)

-- those of a body that had another pose before, made anew where it stands now
pub renewed_are : (before o : Pose) (defs : List ShapeDef) (fats : List Box2) → All IsShapeDef defs → IsPose o → AreFatBoxes before defs fats → AreFatBoxes o defs (renewed_boxes o defs fats)
renewed_are before o defs fats forms pose are = record { long = length-renewed o defs fats are.long; each = each_renewed before o defs fats forms pose are.each }
