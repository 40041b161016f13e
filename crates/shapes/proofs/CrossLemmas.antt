-- Products of signed numbers, and cores that cross have a place in common.
use Rattle.std.proofs.Common.{◌≡◌, ℕ, suc, ◌+◌, ◌*◌, ◌<◌, ◌≤◌, ℤ, pos, negsuc, neg_ℤ, ◌+ℤ◌, ◌-ℤ◌, ◌*ℤ◌, ◌≤ℤ◌, ◌<ℤ◌, arith, refl, sym, ◌∙◌, ap, subst, ◌⊎◌, inl, inr, Bool, true, false, cond, ◌&&◌, ◌||◌, int_lt}
use Rattle.std.proofs.Math.IntN.{*ℤ_comm}
use Rattle.std.proofs.lemmas.Nat.{mul-le}
use Rattle.std.proofs.lemmas.Int.{ints}
use Rattle.std.proofs.lemmas.Bool.Decides.{nat_tests}
use Rattle.std.proofs.lemmas.Bool.{cases_lt, false≢true}
use borrow.Author.Differences.{up, down}
use Rattle.fixed_geom.proofs.Multiples.{times_difference, times_sum}
use Rattle.fixed_geom.specs.Vectors.{cross}
use Rattle.shapes.specs.declared.pose.Core.{Core}
use Rattle.shapes.specs.Cores.{is_point, side, is_parted, cores_cross}

-- ---- products

times_opposite : (a b f : ℤ) → f ≡ neg_ℤ b → a *ℤ f ≡ neg_ℤ (a *ℤ b)
times_opposite a b f h =
    let e : up f + up b ≡ down f + down b = omega (arith, ints) in
    let g : up a * (up f + up b) ≡ up a * (down f + down b) = ap (λ n. up a * n) e in
    let k : down a * (up f + up b) ≡ down a * (down f + down b) = ap (λ n. down a * n) e in
    omega (arith, ints, g, k)

difference_times : (a b c : ℤ) → (a -ℤ b) *ℤ c ≡ a *ℤ c -ℤ b *ℤ c
difference_times a b c =
    let e : up (a -ℤ b) + (down a + up b) ≡ down (a -ℤ b) + (up a + down b) = omega (arith, ints) in
    let f : (up (a -ℤ b) + (down a + up b)) * up c ≡ (down (a -ℤ b) + (up a + down b)) * up c = ap (λ n. n * up c) e in
    let g : (up (a -ℤ b) + (down a + up b)) * down c ≡ (down (a -ℤ b) + (up a + down b)) * down c = ap (λ n. n * down c) e in
    omega (arith, ints, f, g)

-- a product of three, from its other end
swap : (a b c : ℤ) → (a *ℤ b) *ℤ c ≡ (c *ℤ b) *ℤ a
swap a b c =
    let h : up (a *ℤ b) + (up a * down b + down a * up b) ≡ down (a *ℤ b) + (up a * up b + down a * down b) = omega (arith, ints) in
    let e : up (c *ℤ b) + (up c * down b + down c * up b) ≡ down (c *ℤ b) + (up c * up b + down c * down b) = omega (arith, ints) in
    let h1 : (up (a *ℤ b) + (up a * down b + down a * up b)) * up c ≡ (down (a *ℤ b) + (up a * up b + down a * down b)) * up c = ap (λ n. n * up c) h in
    let h2 : (up (a *ℤ b) + (up a * down b + down a * up b)) * down c ≡ (down (a *ℤ b) + (up a * up b + down a * down b)) * down c = ap (λ n. n * down c) h in
    let e1 : (up (c *ℤ b) + (up c * down b + down c * up b)) * up a ≡ (down (c *ℤ b) + (up c * up b + down c * down b)) * up a = ap (λ n. n * up a) e in
    let e2 : (up (c *ℤ b) + (up c * down b + down c * up b)) * down a ≡ (down (c *ℤ b) + (up c * up b + down c * down b)) * down a = ap (λ n. n * down a) e in
    omega (arith, ints, e1, e2, h1, h2)

rotated : (a b c : ℤ) → (a *ℤ b) *ℤ c ≡ (c *ℤ a) *ℤ b
rotated a b c = ap (λ (z : ℤ). z *ℤ c) (*ℤ_comm a b) ∙ swap b a c

last_two : (a b c : ℤ) → (a *ℤ b) *ℤ c ≡ (a *ℤ c) *ℤ b
last_two a b c = rotated a b c ∙ ap (λ (z : ℤ). z *ℤ b) (*ℤ_comm c a)

flat : (a b c d : ℤ) → (a *ℤ b) *ℤ (c *ℤ d) ≡ ((b *ℤ d) *ℤ c) *ℤ a
flat a b c d = swap a b (c *ℤ d) ∙ ap (λ (z : ℤ). z *ℤ a) (swap c d b)

-- the two first factors of two products exchanged
pub exchanged : (a b c d : ℤ) → (a *ℤ b) *ℤ (c *ℤ d) ≡ (c *ℤ b) *ℤ (a *ℤ d)
exchanged a b c d = flat a b c d ∙ last_two (b *ℤ d) c a ∙ sym (flat c b a d)

expand : (d e f a b c g : ℤ) → d ≡ e -ℤ f → e ≡ a -ℤ c → f ≡ b -ℤ g → b ≡ c → d ≡ a +ℤ g -ℤ (c +ℤ c)
expand d e f a b c g h i j k = omega (arith, ints)

pub square_of_difference : (p q : ℤ) → (p -ℤ q) *ℤ (p -ℤ q) ≡ p *ℤ p +ℤ q *ℤ q -ℤ (p *ℤ q +ℤ p *ℤ q)
square_of_difference p q =
    expand _ _ _ (p *ℤ p) (q *ℤ p) (p *ℤ q) (q *ℤ q) (difference_times p q (p -ℤ q)) (times_difference p p q (p -ℤ q) refl) (times_difference q p q (p -ℤ q) refl) (*ℤ_comm q p)

expand_sum : (d e f a b c g : ℤ) → d ≡ e +ℤ f → e ≡ a +ℤ c → f ≡ b +ℤ g → b ≡ c → d ≡ a +ℤ g +ℤ (c +ℤ c)
expand_sum d e f a b c g h i j k = omega (arith, ints)

sum_times : (a b c : ℤ) → (a +ℤ b) *ℤ c ≡ a *ℤ c +ℤ b *ℤ c
sum_times a b c =
    let e : up (a +ℤ b) + (down a + down b) ≡ down (a +ℤ b) + (up a + up b) = omega (arith, ints) in
    let f : (up (a +ℤ b) + (down a + down b)) * up c ≡ (down (a +ℤ b) + (up a + up b)) * up c = ap (λ n. n * up c) e in
    let g : (up (a +ℤ b) + (down a + down b)) * down c ≡ (down (a +ℤ b) + (up a + up b)) * down c = ap (λ n. n * down c) e in
    omega (arith, ints, f, g)

pub square_of_total : (p q : ℤ) → (p +ℤ q) *ℤ (p +ℤ q) ≡ p *ℤ p +ℤ q *ℤ q +ℤ (p *ℤ q +ℤ p *ℤ q)
square_of_total p q =
    expand_sum _ _ _ (p *ℤ p) (q *ℤ p) (p *ℤ q) (q *ℤ q) (sum_times p q (p +ℤ q)) (times_sum p p q (p +ℤ q) refl) (times_sum q p q (p +ℤ q) refl) (*ℤ_comm q p)

-- ---- where two lines meet

sum_of : (d e f a b c p q r : ℤ) → d ≡ a -ℤ b → e ≡ c -ℤ p → f ≡ q -ℤ r → a ≡ c → b ≡ r → p ≡ q → d ≡ e +ℤ f
sum_of d e f a b c p q r i j k l m n = omega (arith, ints)

-- the determinant of two ways times the way between their starts
meeting : (ux uy ex ey wx wy : ℤ) → (ux *ℤ wy -ℤ uy *ℤ wx) *ℤ ex ≡ (ex *ℤ wy -ℤ ey *ℤ wx) *ℤ ux +ℤ (ux *ℤ ey -ℤ uy *ℤ ex) *ℤ wx
meeting ux uy ex ey wx wy = sum_of _ _ _ ((ux *ℤ wy) *ℤ ex) ((uy *ℤ wx) *ℤ ex) ((ex *ℤ wy) *ℤ ux) ((ey *ℤ wx) *ℤ ux) ((ux *ℤ ey) *ℤ wx) ((uy *ℤ ex) *ℤ wx)
    (difference_times (ux *ℤ wy) (uy *ℤ wx) ex) (difference_times (ex *ℤ wy) (ey *ℤ wx) ux) (difference_times (ux *ℤ ey) (uy *ℤ ex) wx)
    (swap ux wy ex) (last_two uy wx ex) (rotated ey wx ux)

-- from 0 to u and from e to e + w, on one axis: the two have a number in common
pub record IsMet (u w e : ℤ) : Type 0 where
  pub right : up e ≤ up u + down w
  pub left : down e ≤ down u + up w

cancel : (m a b : ℕ) → 0 < m → m * a ≤ m * b → a ≤ b
cancel m a b p h = elim (cases_lt b a) [
  | inl l ↦ (let more : m * (b + 1) ≤ m * a = mul-le m (b + 1) m a (omega arith) (omega arith) in absurd (omega arith))
  | inr l ↦ l
]

-- where n * e is a * u - b * w, with parts of n
met_of : (n a b : ℕ) (u w e : ℤ) → 0 < n → a ≤ n → b ≤ n → n * up e + (b * up w + a * down u) ≡ n * down e + (b * down w + a * up u) → IsMet u w e
met_of n a b u w (pos m) h i j e =
    let first : b * down w ≤ n * down w = mul-le b (down w) n (down w) j (omega arith) in
    let second : a * up u ≤ n * up u = mul-le a (up u) n (up u) i (omega arith) in
    record { right = cancel n m (up u + down w) h (omega arith); left = omega arith }
met_of n a b u w (negsuc m) h i j e =
    let first : b * up w ≤ n * up w = mul-le b (up w) n (up w) j (omega arith) in
    let second : a * down u ≤ n * down u = mul-le a (down u) n (down u) i (omega arith) in
    record { right = omega arith; left = cancel n (suc m) (down u + up w) h (omega arith) }

-- the determinant d of two ways, and the sides s and t of two starts
record IsUp (d s t : ℤ) : Type 0 where
  determinant : pos 0 <ℤ d
  near : s <ℤ pos 0
  further : pos 0 <ℤ (s +ℤ d)
  back : pos 0 <ℤ t
  back_further : t <ℤ d

record IsDown (d s t : ℤ) : Type 0 where
  determinant : d <ℤ pos 0
  near : pos 0 <ℤ s
  further : (s +ℤ d) <ℤ pos 0
  back : t <ℤ pos 0
  back_further : d <ℤ t

met_up : (d s t u w e : ℤ) → d *ℤ e ≡ t *ℤ u +ℤ s *ℤ w → IsUp d s t → IsMet u w e
met_up (pos n) (negsuc b) (pos a) u w e h i = met_of n a (suc b) u w e (omega (arith, ints, i.determinant)) (omega (arith, ints, i.back_further)) (omega (arith, ints, i.further)) (omega (arith, ints, h))
met_up (negsuc n) s t u w e h i = absurd (omega (arith, ints, i.determinant))
met_up d (pos b) t u w e h i = absurd (omega (arith, ints, i.near))
met_up d s (negsuc a) u w e h i = absurd (omega (arith, ints, i.back))

met_down : (d s t u w e : ℤ) → d *ℤ e ≡ t *ℤ u +ℤ s *ℤ w → IsDown d s t → IsMet u w e
met_down (negsuc n) (pos b) (negsuc a) u w e h i = met_of (suc n) (suc a) b u w e (omega arith) (omega (arith, ints, i.back_further)) (omega (arith, ints, i.further)) (omega (arith, ints, h))
met_down (pos n) s t u w e h i = absurd (omega (arith, ints, i.determinant))
met_down d (negsuc b) t u w e h i = absurd (omega (arith, ints, i.near))
met_down d s (pos a) u w e h i = absurd (omega (arith, ints, i.back))

met : (d s t u w e : ℤ) → d *ℤ e ≡ t *ℤ u +ℤ s *ℤ w → IsUp d s t ⊎ IsDown d s t → IsMet u w e
met d s t u w e h (inl i) = met_up d s t u w e h i
met d s t u w e h (inr i) = met_down d s t u w e h i

-- the same on the other axis
turned : (a b c d e f : ℤ) → IsUp (a -ℤ b) (c -ℤ d) (e -ℤ f) ⊎ IsDown (a -ℤ b) (c -ℤ d) (e -ℤ f) → IsUp (b -ℤ a) (d -ℤ c) (f -ℤ e) ⊎ IsDown (b -ℤ a) (d -ℤ c) (f -ℤ e)
turned a b c d e f (inl h) = inr (record {
  determinant = omega (arith, ints, h.determinant);
  near = omega (arith, ints, h.near);
  further = omega (arith, ints, h.further);
  back = omega (arith, ints, h.back);
  back_further = omega (arith, ints, h.back_further);
})
turned a b c d e f (inr h) = inl (record {
  determinant = omega (arith, ints, h.determinant);
  near = omega (arith, ints, h.near);
  further = omega (arith, ints, h.further);
  back = omega (arith, ints, h.back);
  back_further = omega (arith, ints, h.back_further);
})

-- ---- the sides of two cores that cross

-- strictly on different sides
abbrev parted : ℤ → ℤ → Bool
parted s r = (int_lt (pos 0) s && int_lt r (pos 0)) || (int_lt s (pos 0) && int_lt (pos 0) r)

signs_up : (d s r t v : ℤ) → r ≡ s +ℤ d → v ≡ t -ℤ d → parted s r ≡ true → parted t v ≡ true → s <ℤ pos 0 → IsUp d s t
signs_up d s r t v e f h l m = record {
  determinant = grind (arith, ints, nat_tests);
  near = m;
  further = grind (arith, ints, nat_tests);
  back = grind (arith, ints, nat_tests);
  back_further = grind (arith, ints, nat_tests);
}

signs_down : (d s r t v : ℤ) → r ≡ s +ℤ d → v ≡ t -ℤ d → parted s r ≡ true → parted t v ≡ true → pos 0 ≤ℤ s → IsDown d s t
signs_down d s r t v e f h l m = record {
  determinant = grind (arith, ints, nat_tests);
  near = grind (arith, ints, nat_tests);
  further = grind (arith, ints, nat_tests);
  back = grind (arith, ints, nat_tests);
  back_further = grind (arith, ints, nat_tests);
}

signs : (d s r t v : ℤ) → r ≡ s +ℤ d → v ≡ t -ℤ d → parted s r ≡ true → parted t v ≡ true → IsUp d s t ⊎ IsDown d s t
signs d (pos m) r t v e f h l = inr (signs_down d (pos m) r t v e f h l (omega (arith, ints)))
signs d (negsuc m) r t v e f h l = inl (signs_up d (negsuc m) r t v e f h l (omega (arith, ints)))

second_of : (a b c d e f : ℤ) → a ≡ c -ℤ d → b ≡ e -ℤ f → c -ℤ e ≡ (a -ℤ b) +ℤ (d -ℤ f)
second_of a b c d e f h l = omega (arith, ints)

-- the other end's side is this end's and the determinant
second_side : (ux uy ex ey wx wy fx fy : ℤ) → ex ≡ fx -ℤ wx → ey ≡ fy -ℤ wy → ux *ℤ fy -ℤ uy *ℤ fx ≡ (ux *ℤ ey -ℤ uy *ℤ ex) +ℤ (ux *ℤ wy -ℤ uy *ℤ wx)
second_side ux uy ex ey wx wy fx fy h l = second_of (ux *ℤ ey) (uy *ℤ ex) (ux *ℤ fy) (ux *ℤ wy) (uy *ℤ fx) (uy *ℤ wx) (times_difference ux fy wy ey l) (times_difference uy fx wx ex h)

opposite_of : (a b c d c' d' : ℤ) → a ≡ neg_ℤ c → b ≡ neg_ℤ d → c ≡ c' → d ≡ d' → a -ℤ b ≡ d' -ℤ c'
opposite_of a b c d c' d' h i j k = omega (arith, ints)

-- the side of the first start from the second line
back_side : (ex ey wx wy gx gy : ℤ) → gx ≡ neg_ℤ ex → gy ≡ neg_ℤ ey → wx *ℤ gy -ℤ wy *ℤ gx ≡ ex *ℤ wy -ℤ ey *ℤ wx
back_side ex ey wx wy gx gy h l = opposite_of (wx *ℤ gy) (wy *ℤ gx) (wx *ℤ ey) (wy *ℤ ex) (ey *ℤ wx) (ex *ℤ wy) (times_opposite wx ey gy l) (times_opposite wy ex gx h) (*ℤ_comm wx ey) (*ℤ_comm wy ex)

last_of : (a b c d e f c' d' e' f' : ℤ) → a ≡ c -ℤ d → b ≡ e -ℤ f → c ≡ c' → d ≡ d' → e ≡ e' → f ≡ f' → a -ℤ b ≡ (f' -ℤ d') -ℤ (e' -ℤ c')
last_of a b c d e f c' d' e' f' h i j k l m = omega (arith, ints)

-- and of its other end
last_side : (ux uy ex ey wx wy hx hy : ℤ) → hx ≡ ux -ℤ ex → hy ≡ uy -ℤ ey → wx *ℤ hy -ℤ wy *ℤ hx ≡ (ex *ℤ wy -ℤ ey *ℤ wx) -ℤ (ux *ℤ wy -ℤ uy *ℤ wx)
last_side ux uy ex ey wx wy hx hy h l =
    last_of (wx *ℤ hy) (wy *ℤ hx) (wx *ℤ uy) (wx *ℤ ey) (wy *ℤ ux) (wy *ℤ ex) (uy *ℤ wx) (ey *ℤ wx) (ux *ℤ wy) (ex *ℤ wy) (times_difference wx uy ey hy l) (times_difference wy ux ex hx h) (*ℤ_comm wx uy) (*ℤ_comm wx ey) (*ℤ_comm wy ux) (*ℤ_comm wy ex)

-- ---- cores that cross

both_parted : (a b p q : Bool) → cond a false (cond b false (cond p q false)) ≡ true → (p ≡ true) × (q ≡ true)
both_parted true b p q h = absurd (false≢true h)
both_parted false true p q h = absurd (false≢true h)
both_parted false false true q h = (refl, h)
both_parted false false false q h = absurd (false≢true h)

-- on each axis the cores c and d have a number in common
pub record AreMet (c d : Core) : Type 0 where
  pub across : IsMet (c.q.x -ℤ c.p.x) (d.q.x -ℤ d.p.x) (d.p.x -ℤ c.p.x)
  pub along : IsMet (c.q.y -ℤ c.p.y) (d.q.y -ℤ d.p.y) (d.p.y -ℤ c.p.y)

turned_back : (a b : ℤ) → a -ℤ b ≡ neg_ℤ (b -ℤ a)
turned_back a b = omega (arith, ints)

from_start : (a b c : ℤ) → b -ℤ a ≡ (c -ℤ a) -ℤ (c -ℤ b)
from_start a b c = omega (arith, ints)

to_start : (a b c : ℤ) → c -ℤ b ≡ (c -ℤ a) -ℤ (b -ℤ a)
to_start a b c = omega (arith, ints)

parted_signs : (c d : Core) → is_parted c d ≡ true → is_parted d c ≡ true →
    IsUp ((c.q.x -ℤ c.p.x) *ℤ (d.q.y -ℤ d.p.y) -ℤ (c.q.y -ℤ c.p.y) *ℤ (d.q.x -ℤ d.p.x))
    ((c.q.x -ℤ c.p.x) *ℤ (d.p.y -ℤ c.p.y) -ℤ (c.q.y -ℤ c.p.y) *ℤ (d.p.x -ℤ c.p.x))
    ((d.p.x -ℤ c.p.x) *ℤ (d.q.y -ℤ d.p.y) -ℤ (d.p.y -ℤ c.p.y) *ℤ (d.q.x -ℤ d.p.x))
    ⊎ IsDown ((c.q.x -ℤ c.p.x) *ℤ (d.q.y -ℤ d.p.y) -ℤ (c.q.y -ℤ c.p.y) *ℤ (d.q.x -ℤ d.p.x))
    ((c.q.x -ℤ c.p.x) *ℤ (d.p.y -ℤ c.p.y) -ℤ (c.q.y -ℤ c.p.y) *ℤ (d.p.x -ℤ c.p.x))
    ((d.p.x -ℤ c.p.x) *ℤ (d.q.y -ℤ d.p.y) -ℤ (d.p.y -ℤ c.p.y) *ℤ (d.q.x -ℤ d.p.x))
unfolding is_parted side cross
parted_signs c d h l =
    let ux = c.q.x -ℤ c.p.x in
    let uy = c.q.y -ℤ c.p.y in
    let wx = d.q.x -ℤ d.p.x in
    let wy = d.q.y -ℤ d.p.y in
    let ex = d.p.x -ℤ c.p.x in
    let ey = d.p.y -ℤ c.p.y in
    let back = back_side ex ey wx wy (c.p.x -ℤ d.p.x) (c.p.y -ℤ d.p.y) (turned_back c.p.x d.p.x) (turned_back c.p.y d.p.y) in
    signs (ux *ℤ wy -ℤ uy *ℤ wx) (ux *ℤ ey -ℤ uy *ℤ ex) (ux *ℤ (d.q.y -ℤ c.p.y) -ℤ uy *ℤ (d.q.x -ℤ c.p.x)) (ex *ℤ wy -ℤ ey *ℤ wx) (wx *ℤ (c.q.y -ℤ d.p.y) -ℤ wy *ℤ (c.q.x -ℤ d.p.x))
    (second_side ux uy ex ey wx wy (d.q.x -ℤ c.p.x) (d.q.y -ℤ c.p.y) (from_start c.p.x d.p.x d.q.x) (from_start c.p.y d.p.y d.q.y))
    (last_side ux uy ex ey wx wy (c.q.x -ℤ d.p.x) (c.q.y -ℤ d.p.y) (to_start c.p.x d.p.x c.q.x) (to_start c.p.y d.p.y c.q.y))
    h (subst (λ (z : ℤ). parted z (wx *ℤ (c.q.y -ℤ d.p.y) -ℤ wy *ℤ (c.q.x -ℤ d.p.x)) ≡ true) back l)

pub are_met : (c d : Core) → cores_cross c d ≡ true → AreMet c d
unfolding cores_cross
are_met c d h =
    let ux = c.q.x -ℤ c.p.x in
    let uy = c.q.y -ℤ c.p.y in
    let wx = d.q.x -ℤ d.p.x in
    let wy = d.q.y -ℤ d.p.y in
    let ex = d.p.x -ℤ c.p.x in
    let ey = d.p.y -ℤ c.p.y in
    let halves = both_parted (is_point c) (is_point d) (is_parted c d) (is_parted d c) h in
    let found = parted_signs c d halves.0 halves.1 in
    record {
      across = met _ _ _ ux wx ex (meeting ux uy ex ey wx wy) found;
      along = met _ _ _ uy wy ey (meeting uy ux ey ex wy wx) (turned (ux *ℤ wy) (uy *ℤ wx) (ux *ℤ ey) (uy *ℤ ex) (ex *ℤ wy) (ey *ℤ wx) found);
    }
