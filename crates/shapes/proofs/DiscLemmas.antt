-- The ends of a core lie in a disc round the body's centre.
use Rattle.std.proofs.Common.{◌≡◌, ℕ, suc, ◌+◌, ◌*◌, ◌^◌, ◌<◌, ◌≤◌, ℤ, pos, negsuc, ◌+ℤ◌, ◌-ℤ◌, ◌*ℤ◌, unsigned_abs, arith, refl, ◌∙◌}
use Rattle.std.proofs.lemmas.Int.{ints, unsigned_abs-mul}
use Rattle.std.proofs.lemmas.Nat.{mul-le}
use Rattle.fixed_geom.specs.Numbers.{rdiv, nearest}
use Rattle.fixed_geom.specs.Vectors.{IsWithin, unit_length}
use Rattle.fixed_geom.specs.declared.vectors.Vec2.{Vec2}
use Rattle.fixed_geom.proofs.FacingLemmas.{rotated_x_le, rotated_y_le}
use Rattle.fixed_geom.proofs.QuotientLemmas.{abs_neg, nearest_between}
use Rattle.fixed_geom.proofs.RootLemmas.{root_below}
use Rattle.fixed_geom.proofs.Sizes.{product_le, sum_le, difference_le}
use Rattle.fixed_geom.proofs.TurnLemmas.{square_le}
use Rattle.shapes.specs.declared.pose.Pose.{Pose}
use Rattle.shapes.specs.Poses.{IsPose, transformed}
use Rattle.shapes.proofs.CrossLemmas.{exchanged, square_of_difference, square_of_total}

-- the radius of the disc: above the root of two times 2^24, by enough for all rounding
abbrev pub disc : ℕ
disc = 47 * 2 ^ 19

-- v is in the disc round x
pub record IsInDisc (x v : Vec2) : Type 0 where
  pub squares : unsigned_abs (v.x -ℤ x.x) * unsigned_abs (v.x -ℤ x.x) + unsigned_abs (v.y -ℤ x.y) * unsigned_abs (v.y -ℤ x.y) ≤ disc * disc

pub disc_across : (x v : Vec2) → IsInDisc x v → unsigned_abs (v.x -ℤ x.x) ≤ disc
disc_across x v h = root_below (disc * disc) (unsigned_abs (v.x -ℤ x.x)) disc (omega (arith, h.squares)) (omega arith)

pub disc_along : (x v : Vec2) → IsInDisc x v → unsigned_abs (v.y -ℤ x.y) ≤ disc
disc_along x v h = root_below (disc * disc) (unsigned_abs (v.y -ℤ x.y)) disc (omega (arith, h.squares)) (omega arith)

-- ---- a turned vector is as long

square : (x : ℤ) → x *ℤ x ≡ pos (unsigned_abs x * unsigned_abs x)
square (pos n) = refl
square (negsuc n) = refl

squares_of : (a b p q t u : ℕ) (m n : ℤ) → pos a ≡ pos p +ℤ pos q -ℤ (m +ℤ m) → pos b ≡ pos t +ℤ pos u +ℤ (n +ℤ n) → m ≡ n → a + b ≡ p + q + t + u
squares_of a b p q t u m n h l e = omega (arith, ints)

less_twice : (a p q m : ℤ) (k l n : ℕ) → a ≡ p +ℤ q -ℤ (m +ℤ m) → a ≡ pos k → p ≡ pos l → q ≡ pos n → pos k ≡ pos l +ℤ pos n -ℤ (m +ℤ m)
less_twice a p q m k l n h e f g = omega (arith, ints)

and_twice : (a p q m : ℤ) (k l n : ℕ) → a ≡ p +ℤ q +ℤ (m +ℤ m) → a ≡ pos k → p ≡ pos l → q ≡ pos n → pos k ≡ pos l +ℤ pos n +ℤ (m +ℤ m)
and_twice a p q m k l n h e f g = omega (arith, ints)

difference_squared : (p q : ℤ) → pos (unsigned_abs (p -ℤ q) * unsigned_abs (p -ℤ q)) ≡ pos (unsigned_abs p * unsigned_abs p) +ℤ pos (unsigned_abs q * unsigned_abs q) -ℤ (p *ℤ q +ℤ p *ℤ q)
difference_squared p q = less_twice ((p -ℤ q) *ℤ (p -ℤ q)) (p *ℤ p) (q *ℤ q) (p *ℤ q) (unsigned_abs (p -ℤ q) * unsigned_abs (p -ℤ q)) (unsigned_abs p * unsigned_abs p) (unsigned_abs q * unsigned_abs q) (square_of_difference p q) (square (p -ℤ q)) (square p) (square q)

sum_squared : (p q : ℤ) → pos (unsigned_abs (p +ℤ q) * unsigned_abs (p +ℤ q)) ≡ pos (unsigned_abs p * unsigned_abs p) +ℤ pos (unsigned_abs q * unsigned_abs q) +ℤ (p *ℤ q +ℤ p *ℤ q)
sum_squared p q = and_twice ((p +ℤ q) *ℤ (p +ℤ q)) (p *ℤ p) (q *ℤ q) (p *ℤ q) (unsigned_abs (p +ℤ q) * unsigned_abs (p +ℤ q)) (unsigned_abs p * unsigned_abs p) (unsigned_abs q * unsigned_abs q) (square_of_total p q) (square (p +ℤ q)) (square p) (square q)

product_squared : (a b : ℤ) → unsigned_abs (a *ℤ b) * unsigned_abs (a *ℤ b) ≡ (unsigned_abs a * unsigned_abs a) * (unsigned_abs b * unsigned_abs b)
product_squared a b = rw (unsigned_abs-mul a b) (omega arith)

turned_squares : (c s x y : ℤ) → unsigned_abs (c *ℤ x -ℤ s *ℤ y) * unsigned_abs (c *ℤ x -ℤ s *ℤ y) + unsigned_abs (s *ℤ x +ℤ c *ℤ y) * unsigned_abs (s *ℤ x +ℤ c *ℤ y) ≡ (unsigned_abs c * unsigned_abs c + unsigned_abs s * unsigned_abs s) * (unsigned_abs x * unsigned_abs x + unsigned_abs y * unsigned_abs y)
turned_squares c s x y =
    let sum = squares_of _ _ _ _ _ _ ((c *ℤ x) *ℤ (s *ℤ y)) ((s *ℤ x) *ℤ (c *ℤ y)) (difference_squared (c *ℤ x) (s *ℤ y)) (sum_squared (s *ℤ x) (c *ℤ y)) (exchanged c x s y) in
    sum ∙ rw (product_squared c x, product_squared s y, product_squared s x, product_squared c y) (omega arith)

-- ---- and its rounding adds little

abs_rdiv : (a b : ℤ) → unsigned_abs (rdiv a b) ≡ nearest (unsigned_abs a) (unsigned_abs b)
unfolding rdiv
abs_rdiv (pos n) b = refl
abs_rdiv (negsuc n) b = abs_neg (nearest (suc n) (unsigned_abs b))

rounded_le : (a : ℤ) → 2 * (unsigned_abs (rdiv a unit_length) * 2 ^ 30) ≤ 2 * unsigned_abs a + 2 ^ 30
rounded_le a = let h = nearest_between (unsigned_abs a) (2 ^ 30) (omega arith) in rw (abs_rdiv a unit_length) (omega (arith, h.1))

rounded_square : (a r : ℕ) → 2 * (r * 2 ^ 30) ≤ 2 * a + 2 ^ 30 → (2 ^ 62) * (r * r) ≤ 4 * (a * a) + 2 ^ 32 * a + 2 ^ 60
rounded_square a r h =
    let squares : (2 * (r * 2 ^ 30)) * (2 * (r * 2 ^ 30)) ≤ (2 * a + 2 ^ 30) * (2 * a + 2 ^ 30) = square_le _ _ h in
    omega arith

in_disc : (a b p q : ℕ) → a * a + b * b ≤ ((2 ^ 30 + 3) * (2 ^ 30 + 3)) * (2 * (2 ^ 24 * 2 ^ 24)) → a ≤ 2 ^ 55 → b ≤ 2 ^ 55 → 2 * (p * 2 ^ 30) ≤ 2 * a + 2 ^ 30 → 2 * (q * 2 ^ 30) ≤ 2 * b + 2 ^ 30 → p * p + q * q ≤ disc * disc
in_disc a b p q h i j k l =
    let first = rounded_square a p k in
    let second = rounded_square b q l in
    omega (arith, first, second)

turned_le : (c s x y : ℕ) → c * c + s * s < (2 ^ 30 + 3) * (2 ^ 30 + 3) → x ≤ 2 ^ 24 → y ≤ 2 ^ 24 → (c * c + s * s) * (x * x + y * y) ≤ ((2 ^ 30 + 3) * (2 ^ 30 + 3)) * (2 * (2 ^ 24 * 2 ^ 24))
turned_le c s x y h i j =
    let first : x * x ≤ 2 ^ 24 * 2 ^ 24 = square_le x (2 ^ 24) i in
    let second : y * y ≤ 2 ^ 24 * 2 ^ 24 = square_le y (2 ^ 24) j in
    mul-le (c * c + s * s) (x * x + y * y) ((2 ^ 30 + 3) * (2 ^ 30 + 3)) (2 * (2 ^ 24 * 2 ^ 24)) (omega arith) (omega arith)

gone : (x r : ℤ) → x +ℤ r -ℤ x ≡ r
gone x r = omega (arith, ints)

pub posed_in_disc : (o : Pose) (v : Vec2) → IsPose o → IsWithin (2 ^ 24) v → IsInDisc o.x (transformed o v)
unfolding transformed
posed_in_disc o v h w =
    let c = o.rot.c in
    let s = o.rot.s in
    let X = c *ℤ v.x -ℤ s *ℤ v.y in
    let Y = s *ℤ v.x +ℤ c *ℤ v.y in
    let x_size = difference_le (c *ℤ v.x) (s *ℤ v.y) (unsigned_abs c * unsigned_abs v.x) (unsigned_abs s * unsigned_abs v.y) (product_le c v.x (unsigned_abs c) (unsigned_abs v.x) (omega arith) (omega arith)) (product_le s v.y (unsigned_abs s) (unsigned_abs v.y) (omega arith) (omega arith)) in
    let y_size = sum_le (s *ℤ v.x) (c *ℤ v.y) (unsigned_abs s * unsigned_abs v.x) (unsigned_abs c * unsigned_abs v.y) (product_le s v.x (unsigned_abs s) (unsigned_abs v.x) (omega arith) (omega arith)) (product_le c v.y (unsigned_abs c) (unsigned_abs v.y) (omega arith) (omega arith)) in
    let x_le = rotated_x_le o.rot v (2 ^ 24) X h.rot w x_size in
    let y_le = rotated_y_le o.rot v (2 ^ 24) Y h.rot w y_size in
    let long = turned_le (unsigned_abs c) (unsigned_abs s) (unsigned_abs v.x) (unsigned_abs v.y) h.rot.short w.x w.y in
    record {
      squares = rw (gone o.x.x (rdiv X unit_length), gone o.x.y (rdiv Y unit_length))
          (in_disc (unsigned_abs X) (unsigned_abs Y) (unsigned_abs (rdiv X unit_length)) (unsigned_abs (rdiv Y unit_length)) (rw (turned_squares c s v.x v.y) long) (omega (arith, x_le)) (omega (arith, y_le)) (rounded_le X) (rounded_le Y));
    }
