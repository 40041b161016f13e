-- Shapes that passed the tests are within their limits.
use Rattle.std.proofs.Common.{◌≡◌, refl, ℕ, ◌^◌, ◌≤◌, Bool, true, false, ◌&&◌, nat_le, List, length, ℤ, pos, ◌≤ℤ◌, unsigned_abs, All, arith}
use Rattle.std.specs.List.{list_all}
use Rattle.std.proofs.lemmas.Int.{ints}
use Rattle.std.proofs.lemmas.Bool.Decides.{nat_tests}
use Rattle.std.proofs.lemmas.List.Sums.{AllPass-from_list_all}
use Rattle.fixed_geom.specs.Vectors.{IsWithin, is_within}
use Rattle.fixed_geom.specs.declared.vectors.Vec2.{Vec2}
use Rattle.shapes.specs.declared.shape.Shape.{Shape}
use Rattle.shapes.specs.declared.shape.Shape.TheVariants.{Circle, Capsule, Segment}
use Rattle.shapes.specs.declared.shape.ShapeDef.{ShapeDef}
use Rattle.shapes.specs.Shapes.{IsShapeDef, is_between, are_apart, is_form_allowed, is_core_near, is_in_range, are_forms_allowed, first_end, second_end, radius_of}

record IsBoth (a b : Bool) : Type 0 where
  left : a ≡ true
  right : b ≡ true

both : (a b : Bool) → (a && b) ≡ true → IsBoth a b
both true b h = record { left = refl; right = h }
both false true h = record { left = h; right = refl }
both false false h = record { left = h; right = h }

within : (n : ℕ) (v : Vec2) → is_within n v ≡ true → IsWithin n v
within n v h = record { x = grind (arith, nat_tests); y = grind (arith, nat_tests) }

record IsSmall (n : ℕ) (z : ℤ) : Type 0 where
  nonnegative : pos 0 ≤ℤ z
  small : unsigned_abs z ≤ n

between : (n : ℕ) (z : ℤ) → is_between (pos 0) (pos n) z ≡ true → IsSmall n z
between n z h = record { nonnegative = grind (arith, ints, nat_tests); small = grind (arith, ints, nat_tests) }

between_one : (n : ℕ) (z : ℤ) → is_between (pos 1) (pos n) z ≡ true → IsSmall n z
between_one n z h = record { nonnegative = grind (arith, ints, nat_tests); small = grind (arith, ints, nat_tests) }

radius_small : (b : Bool) (s : Shape) → is_form_allowed b s ≡ true → IsSmall (2 ^ 24) (radius_of s)
radius_small b (Circle center radius) h = between (2 ^ 24) radius h
radius_small b (Capsule first second radius) h = between_one (2 ^ 24) radius ((both (are_apart first second) (is_between (pos 1) (pos (2 ^ 24)) radius) h).right)
radius_small b (Segment first second) h = record { nonnegative = omega (arith, ints); small = omega arith }

pub is_shape_def : (b : Bool) (d : ShapeDef) → is_form_allowed b d.shape ≡ true → is_in_range d ≡ true → IsShapeDef d
is_shape_def b d h l =
    let radius = radius_small b d.shape h in
    let parts = both (is_core_near d.shape && is_between (pos 0) (pos 512) d.friction) (is_between (pos 0) (pos 256) d.restitution) l in
    let rest = both (is_core_near d.shape) (is_between (pos 0) (pos 512) d.friction) parts.left in
    let near = both (is_within (2 ^ 24) (first_end d.shape)) (is_within (2 ^ 24) (second_end d.shape)) rest.left in
    let friction = between 512 d.friction rest.right in
    let restitution = between 256 d.restitution parts.right in
    record {
      shape = record {
        first = within (2 ^ 24) (first_end d.shape) near.left;
        second = within (2 ^ 24) (second_end d.shape) near.right;
        nonnegative = radius.nonnegative;
        radius = radius.small;
      };
      friction = friction.nonnegative;
      friction_small = friction.small;
      restitution = restitution.nonnegative;
      restitution_small = restitution.small;
    }

pub all_shape_defs : (b : Bool) (ds : List ShapeDef) → are_forms_allowed b ds ≡ true → list_all is_in_range ds ≡ true → All IsShapeDef ds
all_shape_defs b ds h l =
    let forms = both (nat_le 1 (length ds) && nat_le (length ds) 8) (list_all (λ d. is_form_allowed b d.shape) ds) h in
    λ k d lt. is_shape_def b _ (AllPass-from_list_all (λ d. is_form_allowed b d.shape) ds forms.right k d lt) (AllPass-from_list_all is_in_range ds l k d lt)
