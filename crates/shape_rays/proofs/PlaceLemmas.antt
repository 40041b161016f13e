-- Where the hits on an end and on a side lie, on one axis.
use Rattle.std.proofs.Common.{◌≡◌, ℕ, ◌*◌, ◌≤◌, ℤ, pos, negsuc, neg_ℤ, ◌+ℤ◌, ◌-ℤ◌, ◌*ℤ◌, ◌≤ℤ◌, ◌<ℤ◌, unsigned_abs, arith, refl, sym, ap, ◌∙◌}
use Rattle.std.proofs.lemmas.Int.{ints}
use Rattle.fixed_geom.proofs.RootLemmas.{root_below}
use Rattle.shape_rays.proofs.RingLemmas.{Num, Add, Sub, Mul, Neg, ring, lagrange}
use Rattle.shape_rays.proofs.SignLemmas.{times, sum, over, minus_both, no_less, by_value}

-- the whole way, and how far it goes at most
abbrev pub T : ℤ
T = pos 16777216

abbrev pub D : ℤ
D = pos 268435456

-- the point at t / 2^24 of the way from o along f is from low to high, but for a 2^24th of the greatest way
pub record IsClose (o f t low high : ℤ) : Type 0 where
  pub left : pos 0 ≤ℤ (o *ℤ T +ℤ f *ℤ t -ℤ low *ℤ T +ℤ D)
  pub right : pos 0 ≤ℤ (high *ℤ T +ℤ D -ℤ (o *ℤ T +ℤ f *ℤ t))

-- a number is no larger than another in size
pub record IsInside (x y : ℤ) : Type 0 where
  pub above : pos 0 ≤ℤ (y +ℤ x)
  pub below : pos 0 ≤ℤ (y -ℤ x)

-- the rest of a quotient t of a by b
pub record IsRest (a b t : ℤ) : Type 0 where
  pub some : pos 0 <ℤ b
  pub low : pos 0 ≤ℤ (a -ℤ t *ℤ b)
  pub high : pos 0 ≤ℤ (b -ℤ (a -ℤ t *ℤ b))

three : (x d a b c : ℤ) → pos 0 <ℤ d → x *ℤ d ≡ a +ℤ (b +ℤ c) → pos 0 ≤ℤ a → pos 0 ≤ℤ b → pos 0 ≤ℤ c → pos 0 ≤ℤ x
three x d a b c h e k l m = over x d h (by_value _ _ e (sum a (b +ℤ c) k (sum b c l m)))

whole_times : (x : ℤ) → pos 0 ≤ℤ x → pos 0 ≤ℤ (T *ℤ x)
whole_times x h = times T x (omega (arith, ints)) h

-- what rounding adds
rounding_low : (f a b t : ℤ) → IsInside f D → IsRest a b t → pos 0 ≤ℤ ((D -ℤ f) *ℤ (a -ℤ t *ℤ b) +ℤ D *ℤ (b -ℤ (a -ℤ t *ℤ b)))
rounding_low f a b t h i = sum _ _ (times (D -ℤ f) (a -ℤ t *ℤ b) h.below i.low) (times D (b -ℤ (a -ℤ t *ℤ b)) (omega (arith, ints)) i.high)

rounding_high : (f a b t : ℤ) → IsInside f D → IsRest a b t → pos 0 ≤ℤ ((D +ℤ f) *ℤ (a -ℤ t *ℤ b) +ℤ D *ℤ (b -ℤ (a -ℤ t *ℤ b)))
rounding_high f a b t h i = sum _ _ (times (D +ℤ f) (a -ℤ t *ℤ b) h.above i.low) (times D (b -ℤ (a -ℤ t *ℤ b)) (omega (arith, ints)) i.high)

-- ---- a side from u to v

side_left : (o f u v d s z t l : ℤ) → (o *ℤ T +ℤ f *ℤ t -ℤ l *ℤ T +ℤ D) *ℤ d ≡ T *ℤ ((u -ℤ l) *ℤ (d -ℤ z) +ℤ (v -ℤ l) *ℤ z) +ℤ (((D -ℤ f) *ℤ (s *ℤ T -ℤ t *ℤ d) +ℤ D *ℤ (d -ℤ (s *ℤ T -ℤ t *ℤ d))) +ℤ T *ℤ (f *ℤ s -ℤ ((u -ℤ o) *ℤ d +ℤ (v -ℤ u) *ℤ z)))
side_left o f u v d s z t l =
    let rest = Sub (Mul (Num s) (Num T)) (Mul (Num t) (Num d)) in
    ring (Mul (Add (Sub (Add (Mul (Num o) (Num T)) (Mul (Num f) (Num t))) (Mul (Num l) (Num T))) (Num D)) (Num d))
    (Add (Mul (Num T) (Add (Mul (Sub (Num u) (Num l)) (Sub (Num d) (Num z))) (Mul (Sub (Num v) (Num l)) (Num z))))
    (Add (Add (Mul (Sub (Num D) (Num f)) rest) (Mul (Num D) (Sub (Num d) rest)))
    (Mul (Num T) (Sub (Mul (Num f) (Num s)) (Add (Mul (Sub (Num u) (Num o)) (Num d)) (Mul (Sub (Num v) (Num u)) (Num z))))))) (omega arith)

side_right : (o f u v d s z t h : ℤ) → (h *ℤ T +ℤ D -ℤ (o *ℤ T +ℤ f *ℤ t)) *ℤ d ≡ T *ℤ ((h -ℤ u) *ℤ (d -ℤ z) +ℤ (h -ℤ v) *ℤ z) +ℤ (((D +ℤ f) *ℤ (s *ℤ T -ℤ t *ℤ d) +ℤ D *ℤ (d -ℤ (s *ℤ T -ℤ t *ℤ d))) +ℤ T *ℤ (((u -ℤ o) *ℤ d +ℤ (v -ℤ u) *ℤ z) -ℤ f *ℤ s))
side_right o f u v d s z t h =
    let rest = Sub (Mul (Num s) (Num T)) (Mul (Num t) (Num d)) in
    ring (Mul (Sub (Add (Mul (Num h) (Num T)) (Num D)) (Add (Mul (Num o) (Num T)) (Mul (Num f) (Num t)))) (Num d))
    (Add (Mul (Num T) (Add (Mul (Sub (Num h) (Num u)) (Sub (Num d) (Num z))) (Mul (Sub (Num h) (Num v)) (Num z))))
    (Add (Add (Mul (Add (Num D) (Num f)) rest) (Mul (Num D) (Sub (Num d) rest)))
    (Mul (Num T) (Sub (Add (Mul (Sub (Num u) (Num o)) (Num d)) (Mul (Sub (Num v) (Num u)) (Num z))) (Mul (Num f) (Num s)))))) (omega arith)

-- a number between two
pub record IsBetween (l h u : ℤ) : Type 0 where
  pub low : l ≤ℤ u
  pub high : u ≤ℤ h

pub side_close : (o f u v d s z t l h : ℤ) → f *ℤ s ≡ (u -ℤ o) *ℤ d +ℤ (v -ℤ u) *ℤ z → IsInside f D → IsRest (s *ℤ T) d t → pos 0 ≤ℤ z → z ≤ℤ d → IsBetween l h u → IsBetween l h v → IsClose o f t l h
side_close o f u v d s z t l h e i r a b p q = record {
  left = three _ d _ _ _ r.some (side_left o f u v d s z t l)
      (whole_times _ (sum _ _ (times (u -ℤ l) (d -ℤ z) (minus_both u l p.low) (minus_both d z b)) (times (v -ℤ l) z (minus_both v l q.low) a)))
      (rounding_low f (s *ℤ T) d t i r) (whole_times _ (no_less _ _ e));
  right = three _ d _ _ _ r.some (side_right o f u v d s z t h)
      (whole_times _ (sum _ _ (times (h -ℤ u) (d -ℤ z) (minus_both h u p.high) (minus_both d z b)) (times (h -ℤ v) z (minus_both h v q.high) a)))
      (rounding_high f (s *ℤ T) d t i r) (whole_times _ (no_less _ _ (sym e)));
}

-- the way to where two lines meet, on both axes
pub meeting_x : (f g w x e d : ℤ) → f *ℤ (w *ℤ d -ℤ x *ℤ e) ≡ w *ℤ (f *ℤ d -ℤ g *ℤ e) +ℤ e *ℤ (w *ℤ g -ℤ x *ℤ f)
meeting_x f g w x e d =
    ring (Mul (Num f) (Sub (Mul (Num w) (Num d)) (Mul (Num x) (Num e))))
    (Add (Mul (Num w) (Sub (Mul (Num f) (Num d)) (Mul (Num g) (Num e)))) (Mul (Num e) (Sub (Mul (Num w) (Num g)) (Mul (Num x) (Num f))))) (omega arith)

pub meeting_y : (f g w x e d : ℤ) → g *ℤ (w *ℤ d -ℤ x *ℤ e) ≡ x *ℤ (f *ℤ d -ℤ g *ℤ e) +ℤ d *ℤ (w *ℤ g -ℤ x *ℤ f)
meeting_y f g w x e d =
    ring (Mul (Num g) (Sub (Mul (Num w) (Num d)) (Mul (Num x) (Num e))))
    (Add (Mul (Num x) (Sub (Mul (Num f) (Num d)) (Mul (Num g) (Num e)))) (Mul (Num d) (Sub (Mul (Num w) (Num g)) (Mul (Num x) (Num f))))) (omega arith)

opposite_first : (f s : ℤ) → f *ℤ neg_ℤ s ≡ neg_ℤ (f *ℤ s)
opposite_first f s = ring (Mul (Num f) (Neg (Num s))) (Neg (Mul (Num f) (Num s))) (omega arith)

opposite_last : (w d e z : ℤ) → neg_ℤ (w *ℤ d +ℤ e *ℤ z) ≡ w *ℤ neg_ℤ d +ℤ e *ℤ neg_ℤ z
opposite_last w d e z = ring (Neg (Add (Mul (Num w) (Num d)) (Mul (Num e) (Num z)))) (Add (Mul (Num w) (Neg (Num d))) (Mul (Num e) (Neg (Num z)))) (omega arith)

pub opposite_meeting : (f s w d e z : ℤ) → f *ℤ s ≡ w *ℤ d +ℤ e *ℤ z → f *ℤ neg_ℤ s ≡ w *ℤ neg_ℤ d +ℤ e *ℤ neg_ℤ z
opposite_meeting f s w d e z h = opposite_first f s ∙ ap (λ (x : ℤ). neg_ℤ x) h ∙ opposite_last w d e z

-- ---- a circle of radius r round c

end_left : (o f w b s k q r t l : ℤ) → (o *ℤ T +ℤ f *ℤ t -ℤ l *ℤ T +ℤ D) *ℤ q ≡ (T *ℤ (q *ℤ (o +ℤ w -ℤ r -ℤ l)) +ℤ T *ℤ (r *ℤ q -ℤ (s *ℤ f +ℤ k))) +ℤ (((D -ℤ f) *ℤ ((b -ℤ s) *ℤ T -ℤ t *ℤ q) +ℤ D *ℤ (q -ℤ ((b -ℤ s) *ℤ T -ℤ t *ℤ q))) +ℤ T *ℤ (b *ℤ f +ℤ k -ℤ w *ℤ q))
end_left o f w b s k q r t l =
    let rest = Sub (Mul (Sub (Num b) (Num s)) (Num T)) (Mul (Num t) (Num q)) in
    ring (Mul (Add (Sub (Add (Mul (Num o) (Num T)) (Mul (Num f) (Num t))) (Mul (Num l) (Num T))) (Num D)) (Num q))
    (Add (Add (Mul (Num T) (Mul (Num q) (Sub (Sub (Add (Num o) (Num w)) (Num r)) (Num l)))) (Mul (Num T) (Sub (Mul (Num r) (Num q)) (Add (Mul (Num s) (Num f)) (Num k)))))
    (Add (Add (Mul (Sub (Num D) (Num f)) rest) (Mul (Num D) (Sub (Num q) rest)))
    (Mul (Num T) (Sub (Add (Mul (Num b) (Num f)) (Num k)) (Mul (Num w) (Num q)))))) (omega arith)

end_right : (o f w b s k q r t h : ℤ) → (h *ℤ T +ℤ D -ℤ (o *ℤ T +ℤ f *ℤ t)) *ℤ q ≡ (T *ℤ (q *ℤ (h -ℤ (o +ℤ w +ℤ r))) +ℤ T *ℤ (r *ℤ q +ℤ (s *ℤ f +ℤ k))) +ℤ (((D +ℤ f) *ℤ ((b -ℤ s) *ℤ T -ℤ t *ℤ q) +ℤ D *ℤ (q -ℤ ((b -ℤ s) *ℤ T -ℤ t *ℤ q))) +ℤ T *ℤ (w *ℤ q -ℤ (b *ℤ f +ℤ k)))
end_right o f w b s k q r t h =
    let rest = Sub (Mul (Sub (Num b) (Num s)) (Num T)) (Mul (Num t) (Num q)) in
    ring (Mul (Sub (Add (Mul (Num h) (Num T)) (Num D)) (Add (Mul (Num o) (Num T)) (Mul (Num f) (Num t)))) (Num q))
    (Add (Add (Mul (Num T) (Mul (Num q) (Sub (Num h) (Add (Add (Num o) (Num w)) (Num r))))) (Mul (Num T) (Add (Mul (Num r) (Num q)) (Add (Mul (Num s) (Num f)) (Num k)))))
    (Add (Add (Mul (Add (Num D) (Num f)) rest) (Mul (Num D) (Sub (Num q) rest)))
    (Mul (Num T) (Sub (Mul (Num w) (Num q)) (Add (Mul (Num b) (Num f)) (Num k)))))) (omega arith)

at_least : (q : ℤ) → pos 0 <ℤ q → pos 0 ≤ℤ q
at_least q h = omega (arith, ints, h)

pub end_close : (o f w b s k q r t l h : ℤ) → w *ℤ q ≡ b *ℤ f +ℤ k → IsInside f D → IsRest ((b -ℤ s) *ℤ T) q t → IsInside (s *ℤ f +ℤ k) (r *ℤ q) → l ≤ℤ (o +ℤ w -ℤ r) → (o +ℤ w +ℤ r) ≤ℤ h → IsClose o f t l h
end_close o f w b s k q r t l h e i p n a c = record {
  left = three _ q _ _ _ p.some (end_left o f w b s k q r t l)
      (sum _ _ (whole_times _ (times q (o +ℤ w -ℤ r -ℤ l) (at_least q p.some) (minus_both _ _ a))) (whole_times _ n.below))
      (rounding_low f ((b -ℤ s) *ℤ T) q t i p) (whole_times _ (no_less _ _ (sym e)));
  right = three _ q _ _ _ p.some (end_right o f w b s k q r t h)
      (sum _ _ (whole_times _ (times q (h -ℤ (o +ℤ w +ℤ r)) (at_least q p.some) (minus_both _ _ c))) (whole_times _ n.above))
      (rounding_high f ((b -ℤ s) *ℤ T) q t i p) (whole_times _ (no_less _ _ e));
}

-- the centre by how far ahead and how far off it lies
pub centre_x : (w x f g : ℤ) → w *ℤ (f *ℤ f +ℤ g *ℤ g) ≡ (w *ℤ f +ℤ x *ℤ g) *ℤ f +ℤ (w *ℤ g -ℤ x *ℤ f) *ℤ g
centre_x w x f g =
    ring (Mul (Num w) (Add (Mul (Num f) (Num f)) (Mul (Num g) (Num g))))
    (Add (Mul (Add (Mul (Num w) (Num f)) (Mul (Num x) (Num g))) (Num f)) (Mul (Sub (Mul (Num w) (Num g)) (Mul (Num x) (Num f))) (Num g))) (omega arith)

pub centre_y : (w x f g : ℤ) → x *ℤ (f *ℤ f +ℤ g *ℤ g) ≡ (w *ℤ f +ℤ x *ℤ g) *ℤ g +ℤ (pos 0 -ℤ (w *ℤ g -ℤ x *ℤ f) *ℤ f)
centre_y w x f g =
    ring (Mul (Num x) (Add (Mul (Num f) (Num f)) (Mul (Num g) (Num g))))
    (Add (Mul (Add (Mul (Num w) (Num f)) (Mul (Num x) (Num g))) (Num g)) (Sub (Num (pos 0)) (Mul (Sub (Mul (Num w) (Num g)) (Mul (Num x) (Num f))) (Num f)))) (omega arith)

-- ---- no further from the centre than the radius

square_is : (x : ℤ) → x *ℤ x ≡ pos (unsigned_abs x * unsigned_abs x)
square_is (pos n) = refl
square_is (negsuc n) = refl

pub square_least : (x : ℤ) → pos 0 ≤ℤ (x *ℤ x)
square_least x = by_value _ _ (square_is x) (omega (arith, ints))

sizes_le : (m n : ℕ) → m * m ≤ n * n → m ≤ n
sizes_le m n h = root_below (n * n) m n h (omega arith)

as_sizes : (x y : ℤ) (m n : ℕ) → x ≡ pos m → y ≡ pos n → x ≤ℤ y → m ≤ n
as_sizes x y m n e f h = omega (arith, ints, e, f, h)

inside_of : (x y : ℤ) → pos 0 ≤ℤ y → unsigned_abs x ≤ unsigned_abs y → IsInside x y
inside_of x y h k = record { above = omega (arith, ints, h, k); below = omega (arith, ints, h, k) }

squares_inside : (x y : ℤ) → pos 0 ≤ℤ y → (x *ℤ x) ≤ℤ (y *ℤ y) → IsInside x y
squares_inside x y h k = inside_of x y h (sizes_le (unsigned_abs x) (unsigned_abs y) (as_sizes (x *ℤ x) (y *ℤ y) _ _ (square_is x) (square_is y) k))

radius_square : (r q n : ℤ) → (r *ℤ q) *ℤ (r *ℤ q) ≡ (r *ℤ r *ℤ q -ℤ n) *ℤ q +ℤ n *ℤ q
radius_square r q n = ring (Mul (Mul (Num r) (Num q)) (Mul (Num r) (Num q))) (Add (Mul (Sub (Mul (Mul (Num r) (Num r)) (Num q)) (Num n)) (Num q)) (Mul (Num n) (Num q))) (omega arith)

first_square : (a b c d e : ℤ) → a ≡ b +ℤ c → c ≡ d +ℤ e → pos 0 ≤ℤ b → pos 0 ≤ℤ e → d ≤ℤ a
first_square a b c d e h k l m = omega (arith, ints, h, k, l, m)

second_square : (a b c d e : ℤ) → a ≡ b +ℤ c → c ≡ d +ℤ e → pos 0 ≤ℤ b → pos 0 ≤ℤ d → e ≤ℤ a
second_square a b c d e h k l m = omega (arith, ints, h, k, l, m)

pub record AreInside (a h f g q r : ℤ) : Type 0 where
  pub along : IsInside (a *ℤ f +ℤ h *ℤ g) (r *ℤ q)
  pub across : IsInside (a *ℤ g -ℤ h *ℤ f) (r *ℤ q)

-- a and h are the sides of a triangle in a circle, times the length of f and g, and are turned to the axes
pub turned_inside : (a h f g q r : ℤ) → q ≡ f *ℤ f +ℤ g *ℤ g → pos 0 ≤ℤ r → pos 0 ≤ℤ (r *ℤ r *ℤ q -ℤ (a *ℤ a +ℤ h *ℤ h)) → AreInside a h f g q r
turned_inside a h f g q r e p k =
    let n = a *ℤ a +ℤ h *ℤ h in
    let some : pos 0 ≤ℤ q = by_value _ _ e (sum _ _ (square_least f) (square_least g)) in
    let room = times (r *ℤ r *ℤ q -ℤ n) q k some in
    let parts : n *ℤ q ≡ (a *ℤ f +ℤ h *ℤ g) *ℤ (a *ℤ f +ℤ h *ℤ g) +ℤ (a *ℤ g -ℤ h *ℤ f) *ℤ (a *ℤ g -ℤ h *ℤ f) = ap (λ (z : ℤ). n *ℤ z) e ∙ sym (lagrange a h f g) in
    record {
      along = squares_inside _ (r *ℤ q) (times r q p some) (first_square _ _ _ _ _ (radius_square r q n) parts room (square_least (a *ℤ g -ℤ h *ℤ f)));
      across = squares_inside _ (r *ℤ q) (times r q p some) (second_square _ _ _ _ _ (radius_square r q n) parts room (square_least (a *ℤ f +ℤ h *ℤ g)));
    }
