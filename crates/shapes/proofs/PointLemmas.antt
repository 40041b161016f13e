-- Two cores that are points have one contact point.
use Rattle.std.proofs.Common.{◌≡◌, ℕ, ◌+◌, ◌*◌, ◌≤◌, Bool, true, false, cond, ℤ, pos, negsuc, int_lt, unsigned_abs, ◌≤ℤ◌, ◌+ℤ◌, ◌-ℤ◌, ◌*ℤ◌, ◌∷◌, [], Option, None, Some, arith, refl, sym, ◌∙◌, ap, subst, inl, inr}
use Rattle.std.proofs.lemmas.Int.{ints}
use Rattle.std.proofs.lemmas.Bool.Decides.{nat_tests}
use Rattle.std.proofs.lemmas.Bool.{false≢true, cases_lt}
use Rattle.std.proofs.lemmas.Nat.{mul-le}
use Rattle.fixed_geom.specs.Numbers.{rdiv, root}
use Rattle.fixed_geom.proofs.RootLemmas.{root_is, root_below}
use Rattle.fixed_geom.proofs.VectorLemmas.{dot_self, span_is}
use Rattle.fixed_geom.specs.Vectors.{IsWithin, unit_length, dot, minus, moved, span}
use Rattle.fixed_geom.specs.declared.vectors.Vec2.{Vec2}
use Rattle.shapes.specs.declared.pose.Pose.{Pose}
use Rattle.shapes.specs.declared.pose.Core.{Core}
use Rattle.shapes.specs.Poses.{transformed}
use Rattle.shapes.specs.declared.choice.Chosen.{Chosen}
use Rattle.shapes.specs.declared.spots.Pair.{Pair}
use Rattle.shapes.specs.declared.spots.Candidate.{Candidate}
use Rattle.shapes.specs.declared.spots.Spot.{Spot}
use Rattle.shapes.specs.Cores.{is_point, way_of, share_of, closest}
use Rattle.shapes.specs.Spots.{measured, of_a, of_b, normal_of, separation_of, position_of, spot_of}
use Rattle.shapes.specs.Manifolds.{is_before, is_far, is_rival, is_second}
use Rattle.shapes.specs.Choice.{nearer, nearest, tried, second_from, chosen_from}

times_zero : (x : ℤ) → x *ℤ pos 0 ≡ pos 0
times_zero x = omega (arith, ints)

plus_zero : (x : ℤ) → x +ℤ pos 0 ≡ x
plus_zero x = omega (arith, ints)

unmoved : (x d : ℤ) → x +ℤ rdiv (d *ℤ pos 0) unit_length ≡ x
unfolding rdiv
unmoved x d = rw (times_zero d) (plus_zero x)

moved_not : (p d : Vec2) → moved p d (pos 0) ≡ p
moved_not p d = rw (unmoved p.x d.x, unmoved p.y d.y) refl

-- a body's centre is where it is, however it is turned
pub posed_center : (o : Pose) (v : Vec2) → v.x ≡ pos 0 → v.y ≡ pos 0 → o.x ≡ transformed o v
unfolding transformed rdiv
posed_center o v e h =
    rw (e, h, times_zero o.rot.c, times_zero o.rot.s, plus_zero o.x.x, plus_zero o.x.y) refl

-- the nearest point of a point
pub closest_point : (c : Core) (e : Vec2) → is_point c ≡ true → closest c e ≡ c.p
unfolding closest share_of
closest_point c e h = rw h (moved_not c.p (way_of c))

not_after : (d : ℤ) (n : ℕ) → is_before d (n + 2) d n ≡ false
unfolding is_before
not_after d n = grind (arith, ints, nat_tests)

no_way : (x : ℤ) → x -ℤ x ≡ pos 0
no_way x = omega (arith, ints)

not_far : (v : Vec2) → is_far v v ≡ false
unfolding is_far dot
not_far v = rw (no_way v.x, no_way v.y) refl

never : (b : Bool) (t : Option Spot) → cond (cond b false false) t None ≡ None
never true t = refl
never false t = refl

never_there : (r : Bool) (v w : Vec2) (t : Option Spot) → v ≡ w → cond (cond r (is_far v w) false) t None ≡ None
never_there r v w t e = rw (e, not_far w) (never r t)

-- no second point where the first is
pub no_second : (first t : Spot) → t.at ≡ first.at → tried first None t ≡ None
unfolding tried is_second
no_second first t e = never_there (is_rival first t) t.at first.at (Some t) e

same_place : (s : Pair) (a b : Vec2) → (spot_of s (measured 2 a b)).at ≡ (spot_of s (measured 0 a b)).at
unfolding spot_of position_of normal_of separation_of
same_place s a b = refl

nearer_twin : (a b : Vec2) → nearer (measured 0 a b) (measured 2 a b) ≡ measured 0 a b
unfolding nearer
nearer_twin a b = rw (not_after (span (minus b a)) 0) refl

abbrev pub both : Spot → Option Spot → Chosen
both first second = record { first = first; second = second }

twin : (s : Pair) (a b : Vec2) → chosen_from s (measured 0 a b) (measured 2 a b ∷ []) ≡ both (spot_of s (measured 0 a b)) None
unfolding chosen_from
twin s a b =
    let h = measured 0 a b in
    let t = measured 2 a b in
    let f = spot_of s h in
    ap (λ (c : Candidate). both (spot_of s c) (second_from s (spot_of s c) None (h ∷ t ∷ []))) (nearer_twin a b)
    ∙ ap (both f) (ap (λ (o : Option Spot). tried f o (spot_of s t)) (no_second f f refl) ∙ no_second f (spot_of s t) (same_place s a b))

pub points_are : (s : Pair) → is_point s.a ≡ true → is_point s.b ≡ true → both (spot_of s (of_a s 0 s.a.p)) None ≡ chosen_from s (of_a s 0 s.a.p) (of_b s 2 s.b.p ∷ [])
points_are s a b =
    let to_b : closest s.b s.a.p ≡ s.b.p = closest_point s.b s.a.p b in
    let to_a : closest s.a s.b.p ≡ s.a.p = closest_point s.a s.b.p a in
    rw (to_b, to_a) (sym (twin s s.a.p s.b.p))

-- ---- a candidate beside which no other counts

-- d is further than the tolerance beyond c
abbrev pub IsBeyond : Candidate → Candidate → Type 0
IsBeyond c d = int_lt (c.dist +ℤ pos 20972) d.dist ≡ true

before_beyond : (d e : ℤ) (n m : ℕ) → int_lt (d +ℤ pos 20972) e ≡ true → is_before d n e m ≡ true
unfolding is_before
before_beyond d e n m h = grind (arith, ints, nat_tests)

not_before_beyond : (d e : ℤ) (n m : ℕ) → int_lt (d +ℤ pos 20972) e ≡ true → is_before e m d n ≡ false
unfolding is_before
not_before_beyond d e n m h = grind (arith, ints, nat_tests)

nearer_new : (b c : Candidate) → IsBeyond c b → nearer b c ≡ c
unfolding nearer
nearer_new b c h = rw (before_beyond c.dist b.dist c.number b.number h) refl

nearer_old : (b c : Candidate) → IsBeyond b c → nearer b c ≡ b
unfolding nearer
nearer_old b c h = rw (not_before_beyond b.dist c.dist b.number c.number h) refl

either_beyond : (b : Bool) (c d e : Candidate) → IsBeyond c d → IsBeyond c e → IsBeyond c (cond b d e)
either_beyond true c d e h l = h
either_beyond false c d e h l = l

nearer_beyond : (c d e : Candidate) → IsBeyond c d → IsBeyond c e → IsBeyond c (nearer d e)
unfolding nearer
nearer_beyond c d e h l = either_beyond (is_before e.dist e.number d.dist d.number) c e d l h

no_rival : (b c e : Bool) (x y : Bool) (t : Option Spot) → b ≡ true → cond (cond (cond c false (cond b false x)) y false) t None ≡ None
no_rival true true e x y t h = refl
no_rival true false e x y t h = refl
no_rival false c e x y t h = absurd (false≢true h)

not_beyond : (s : Pair) (c d : Candidate) → IsBeyond c d → tried (spot_of s c) None (spot_of s d) ≡ None
unfolding tried is_second is_rival spot_of
not_beyond s c d h = no_rival (int_lt (c.dist +ℤ pos 20972) d.dist) _ true _ _ _ h

not_itself : (s : Pair) (c : Candidate) → tried (spot_of s c) None (spot_of s c) ≡ None
not_itself s c = no_second (spot_of s c) (spot_of s c) refl

-- three candidates' spots, none of which may be the second point
none_of : (f t u v : Spot) → tried f None t ≡ None → tried f None u ≡ None → tried f None v ≡ None → tried f (tried f (tried f None t) u) v ≡ None
none_of f t u v h k l = ap (λ (o : Option Spot). tried f (tried f o u) v) h ∙ ap (λ (o : Option Spot). tried f o v) k ∙ l

chosen_alone : (s : Pair) (c d e n : Candidate) → nearest c (d ∷ e ∷ []) ≡ n → second_from s (spot_of s n) None (c ∷ d ∷ e ∷ []) ≡ None → chosen_from s c (d ∷ e ∷ []) ≡ both (spot_of s n) None
unfolding chosen_from
chosen_alone s c d e n h l =
    ap (λ (m : Candidate). both (spot_of s m) (second_from s (spot_of s m) None (c ∷ d ∷ e ∷ []))) h ∙ ap (both (spot_of s n)) l

-- the first of three is alone
pub first_alone : (s : Pair) (c d e : Candidate) → IsBeyond c d → IsBeyond c e → both (spot_of s c) None ≡ chosen_from s c (d ∷ e ∷ [])
first_alone s c d e h l =
    sym (chosen_alone s c d e c (ap (λ (m : Candidate). nearer m e) (nearer_old c d h) ∙ nearer_old c e l)
    (none_of (spot_of s c) (spot_of s c) (spot_of s d) (spot_of s e) (not_itself s c) (not_beyond s c d h) (not_beyond s c e l)))

-- the last of three is alone
pub last_alone : (s : Pair) (c d e : Candidate) → IsBeyond e c → IsBeyond e d → both (spot_of s e) None ≡ chosen_from s c (d ∷ e ∷ [])
last_alone s c d e h l =
    sym (chosen_alone s c d e e (nearer_new (nearer c d) e (nearer_beyond e c d h l))
    (none_of (spot_of s e) (spot_of s c) (spot_of s d) (spot_of s e) (not_beyond s e c h) (not_beyond s e d l) (not_itself s e)))

-- a way with a part beyond n is longer than n
pub outside : (d : Vec2) (n : ℕ) → (IsWithin n d → ⊥) → (n + 1) * (n + 1) ≤ unsigned_abs d.x * unsigned_abs d.x + unsigned_abs d.y * unsigned_abs d.y
outside d n h = elim (cases_lt n (unsigned_abs d.x)) [
  | inl l ↦ (let squares : (n + 1) * (n + 1) ≤ unsigned_abs d.x * unsigned_abs d.x = mul-le (n + 1) (n + 1) (unsigned_abs d.x) (unsigned_abs d.x) (omega arith) (omega arith) in omega arith)
  | inr l ↦ elim (cases_lt n (unsigned_abs d.y)) [
    | inl m ↦ (let squares : (n + 1) * (n + 1) ≤ unsigned_abs d.y * unsigned_abs d.y = mul-le (n + 1) (n + 1) (unsigned_abs d.y) (unsigned_abs d.y) (omega arith) (omega arith) in omega arith)
    | inr m ↦ absurd (h (record { x = l; y = m }))
  ]
]

-- what `is_far` tests
pub far_outside : (d : Vec2) → (IsWithin 20972 d → ⊥) → int_lt (pos 439824784) (dot d d) ≡ true
far_outside d h =
    let square = outside d 20972 h in
    rw (dot_self d) (grind (arith, ints, nat_tests))

-- what `is_beyond` tests
pub beyond_square : (d : Vec2) (k m : ℤ) → pos 0 ≤ℤ k → m ≡ (k +ℤ pos 20973) *ℤ (k +ℤ pos 20973) → m ≤ℤ dot d d → int_lt (k +ℤ pos 20972) (span d) ≡ true
beyond_square d (pos n) m h e l =
    let dotted = rw (dot_self d) at l in
    let square : (n + 20973) * (n + 20973) ≤ unsigned_abs d.x * unsigned_abs d.x + unsigned_abs d.y * unsigned_abs d.y = omega (arith, ints, dotted, e) in
    let root : n + 20973 ≤ root (unsigned_abs d.x * unsigned_abs d.x + unsigned_abs d.y * unsigned_abs d.y) = root_below _ (n + 20973) _ square (root_is _).above in
    rw (span_is d) (grind (arith, ints, nat_tests))
beyond_square d (negsuc n) m h e l = absurd (omega (arith, ints, h))

pub beyond_outside : (d : Vec2) (k : ℤ) (n : ℕ) → pos 0 ≤ℤ k → n ≡ unsigned_abs (k +ℤ pos 20973) → (IsWithin n d → ⊥) → int_lt (k +ℤ pos 20972) (span d) ≡ true
beyond_outside d (pos k) n h e l =
    let square = outside d n l in
    let less : k + 20973 ≤ n + 1 = omega (arith, ints, e) in
    let below : (k + 20973) * (k + 20973) ≤ (n + 1) * (n + 1) = mul-le _ _ _ _ less less in
    let le : (pos (k + 20973) *ℤ pos (k + 20973)) ≤ℤ dot d d = rw (dot_self d) (omega (arith, ints, square, below)) in
    beyond_square d (pos k) (pos (k + 20973) *ℤ pos (k + 20973)) h refl le
beyond_outside d (negsuc k) n h e l = absurd (omega (arith, ints, h))

pub alone_at : (s : Pair) {c d : Candidate} → c ≡ d → both (spot_of s c) None ≡ both (spot_of s d) None
alone_at s e = ap (λ (m : Candidate). both (spot_of s m) None) e

-- what is beyond the one point of a core is beyond its candidate
pub beyond_first : (s : Pair) (n : Candidate) (k : ℕ) (e : Vec2) → is_point s.a ≡ true → n ≡ of_a s 0 s.a.p → int_lt (n.dist +ℤ pos 20972) (span (minus e s.a.p)) ≡ true → IsBeyond (of_a s 0 s.a.p) (of_b s k e)
beyond_first s n k e h f l =
    rw (closest_point s.a e h) (subst (λ (c : Candidate). int_lt (c.dist +ℤ pos 20972) (span (minus e s.a.p)) ≡ true) f l)

pub beyond_second : (s : Pair) (n : Candidate) (k : ℕ) (e : Vec2) → is_point s.b ≡ true → n ≡ of_b s 2 s.b.p → int_lt (n.dist +ℤ pos 20972) (span (minus s.b.p e)) ≡ true → IsBeyond (of_b s 2 s.b.p) (of_a s k e)
beyond_second s n k e h f l =
    rw (closest_point s.b e h) (subst (λ (c : Candidate). int_lt (c.dist +ℤ pos 20972) (span (minus s.b.p e)) ≡ true) f l)
