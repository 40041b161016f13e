-- The places of those in a list that pass a test, walked one after another: between one place and the next nothing
-- changes.
use Rattle.std.proofs.Common.{◌≡◌, ℕ, zero, suc, ◌+◌, ◌<◌, ◌≤◌, Bool, false, List, [], ◌∷◌, ◌++◌, length, get_or, take, drop, map, Some, arith, refl, sym, ap, ◌∙◌, subst, inl, inr}
use Rattle.std.specs.List.{slice_get}
use Rattle.std.proofs.lemmas.Bool.{cases_Bool}
use Rattle.fixed_geom.specs.Vectors.{plus, zero_vector}
use Rattle.fixed_geom.specs.declared.vectors.Vec2.{Vec2}
use Rattle.colour_solver.specs.States.{places_from}
use Rattle.colour_solver.proofs.VectorLaws.{zero_plus}

-- no place is below the first
pub places_low : {X : Type 0} (is : X → Bool) (ys : List X) (p d : ℕ) → d ≡ p + length ys → p ≤ get_or (places_from is p ys) 0 d
places_low is [] p d e = omega (arith, e)
places_low is (y ∷ ys) p d e = elim (cases_Bool (is y)) [
  | inl h ↦ rw h (omega arith)
  | inr h ↦ rw h (let low = places_low is ys (suc p) d (omega (arith, e)) in omega (arith, low))
]

pub length-places : {X : Type 0} (is : X → Bool) (ys : List X) (p : ℕ) → length (places_from is p ys) ≤ length ys
length-places is [] p = omega arith
length-places is (y ∷ ys) p = elim (cases_Bool (is y)) [
  | inl h ↦ rw h (let few = length-places is ys (suc p) in omega (arith, few))
  | inr h ↦ rw h (let few = length-places is ys (suc p) in omega (arith, few))
]

length-left : {X : Type 0} (xs : List X) (a : ℕ) → a ≤ length xs → a + length (drop a xs) ≡ length xs
length-left xs zero h = omega arith
length-left [] (suc a) h = absurd (omega arith)
length-left (x ∷ xs) (suc a) h = let rest = length-left xs a (omega (arith, h)) in omega (arith, rest)

-- none of those from a up to m passes
abbrev pub AreOthers : {X : Type 0} → (X → Bool) → List X → ℕ → ℕ → Type 0
AreOthers {X} is xs a m = (j : ℕ) (x : X) → a ≤ j → j < m → slice_get xs j ≡ Some x → is x ≡ false

-- m is the first place from a on, or the list's end; p and q are the numbers that places a and m have
pub record IsNext {X : Type 0} (is : X → Bool) (xs : List X) (a m p q : ℕ) : Type 0 where
  pub from : a ≤ m
  pub to : m ≤ length xs
  pub rest : places_from is q (drop m xs) ≡ places_from is p (drop a xs)
  pub others : AreOthers is xs a m

others_more : {X : Type 0} (is : X → Bool) (x : X) (xs : List X) (a m : ℕ) → AreOthers is xs a m → AreOthers is (x ∷ xs) (suc a) (suc m)
others_more is x xs a m known zero o lo hi g = absurd (omega (arith, lo))
others_more is x xs a m known (suc j) o lo hi g = known j o (omega (arith, lo)) (omega (arith, hi)) g

others_first : {X : Type 0} (is : X → Bool) (x : X) (xs : List X) (m : ℕ) → is x ≡ false → AreOthers is xs zero m → AreOthers is (x ∷ xs) zero (suc m)
others_first is x xs m first known zero o lo hi g = let same : x ≡ o = cc g in subst (λ y. is y ≡ false) same first
others_first is x xs m first known (suc j) o lo hi g = known j o (omega arith) (omega (arith, hi)) g

pub next : {X : Type 0} (is : X → Bool) (xs : List X) (n a m p q d : ℕ) → a ≤ length xs → p ≡ n + a → q ≡ n + m → d ≡ n + length xs → q ≡ get_or (places_from is p (drop a xs)) 0 d → IsNext is xs a m p q
next is [] n zero zero p q d h ep eq ed e = record { from = omega arith; to = omega arith; rest = refl; others = λ j x lo hi g. absurd (omega (arith, hi)) }
next is [] n zero (suc m) p q d h ep eq ed e = absurd (omega (arith, eq, ed, e))
next is [] n (suc a) m p q d h ep eq ed e = absurd (omega (arith, h))
next is (x ∷ xs) n (suc a) zero p q d h ep eq ed e =
    let left = length-left xs a (omega (arith, h)) in
    let low = places_low is (drop a xs) p d (omega (arith, ep, ed, left)) in
    absurd (omega (arith, low, e, ep, eq))
next is (x ∷ xs) n (suc a) (suc m) p q d h ep eq ed e =
    let more = next is xs (suc n) a m p q d (omega (arith, h)) (omega (arith, ep)) (omega (arith, eq)) (omega (arith, ed)) e in
    let from = more.from in
    let to = more.to in
    record { from = omega (arith, from); to = omega (arith, to); rest = more.rest; others = others_more is x xs a m more.others }
next is (x ∷ xs) n zero zero p q d h ep eq ed e =
    let same : q ≡ p = omega (arith, ep, eq) in
    record { from = omega arith; to = omega arith; rest = ap (λ k. places_from is k (x ∷ xs)) same; others = λ j o lo hi g. absurd (omega (arith, hi)) }
next is (x ∷ xs) n zero (suc m) p q d h ep eq ed e = elim (cases_Bool (is x)) [
  | inl on1 ↦ (let at : q ≡ p = rw on1 at e in absurd (omega (arith, at, ep, eq)))
  | inr off1 ↦
      (let at : q ≡ get_or (places_from is (suc p) xs) 0 d = rw off1 at e in
      let more = next is xs (suc n) zero m (suc p) q d (omega arith) (omega (arith, ep)) (omega (arith, eq)) (omega (arith, ed)) at in
      let to = more.to in
      record { from = omega arith; to = omega (arith, to); rest = rw off1 more.rest; others = others_first is x xs m off1 more.others })
]

-- ---- the place that is next

pub record IsTaken {X : Type 0} (is : X → Bool) (xs : List X) (m : ℕ) (more : List ℕ) : Type 0 where
  pub there : m < length xs
  pub rest : places_from is (suc m) (drop (suc m) xs) ≡ more

taken : {X : Type 0} (is : X → Bool) (ys : List X) (m : ℕ) (rest : List ℕ) → places_from is m ys ≡ m ∷ rest → places_from is (suc m) (drop 1 ys) ≡ rest
taken is [] m rest e = absurd (cc e)
taken is (y ∷ ys) m rest e = elim (cases_Bool (is y)) [
  | inl on1 ↦ (let both : (m ∷ places_from is (suc m) ys) ≡ m ∷ rest = rw on1 at e in cc both)
  | inr off1 ↦
      (let all : places_from is (suc m) ys ≡ m ∷ rest = rw off1 at e in
      let low = places_low is ys (suc m) (suc m + length ys) refl in
      let head : get_or (places_from is (suc m) ys) 0 (suc m + length ys) ≡ m = ap (λ l. get_or l 0 (suc m + length ys)) all in
      absurd (omega (arith, low, head)))
]

not_empty : {X : Type 0} (is : X → Bool) (ys : List X) (m : ℕ) (rest : List ℕ) → places_from is m ys ≡ m ∷ rest → 1 ≤ length ys
not_empty is [] m rest e = absurd (cc e)
not_empty is (y ∷ ys) m rest e = omega arith

drop_one : {X : Type 0} (xs : List X) (m : ℕ) → drop 1 (drop m xs) ≡ drop (suc m) xs
drop_one xs zero = refl
drop_one [] (suc m) = refl
drop_one (x ∷ xs) (suc m) = drop_one xs m

drop-head : (l : List ℕ) (k d : ℕ) → k < length l → drop k l ≡ get_or l k d ∷ drop (suc k) l
drop-head [] k d h = absurd (omega (arith, h))
drop-head (x ∷ l) zero d h = refl
drop-head (x ∷ l) (suc k) d h = drop-head l k d (omega (arith, h))

get-head : (l : List ℕ) (k d : ℕ) → get_or (drop k l) 0 d ≡ get_or l k d
get-head l zero d = refl
get-head [] (suc k) d = refl
get-head (x ∷ l) (suc k) d = get-head l k d

-- the place with the number k among those that are left is there, and the others follow it
pub taken_at : {X : Type 0} (is : X → Bool) (xs : List X) (places : List ℕ) (m k d : ℕ) → k < length places → m ≡ get_or places k d → m ≤ length xs → places_from is m (drop m xs) ≡ drop k places → IsTaken is xs m (drop (suc k) places)
taken_at is xs places m k d h em within e =
    let all : places_from is m (drop m xs) ≡ m ∷ drop (suc k) places = e ∙ drop-head places k d h ∙ ap (λ n. n ∷ drop (suc k) places) (sym em) in
    let left = length-left xs m within in
    let some = not_empty is (drop m xs) m (drop (suc k) places) all in
    record {
      there = omega (arith, left, some);
      rest = ap (places_from is (suc m)) (sym (drop_one xs m)) ∙ taken is (drop m xs) m (drop (suc k) places) all;
    }

-- ---- the walk: `reached` is the place with the number k, or the list's end

abbrev pub reached : {X : Type 0} → List ℕ → ℕ → List X → ℕ
reached places k xs = get_or places k (length xs)

pub record IsReached {X : Type 0} (is : X → Bool) (xs : List X) (places : List ℕ) (k : ℕ) : Type 0 where
  pub within : reached places k xs ≤ length xs
  pub rest : places_from is (reached places k xs) (drop (reached places k xs) xs) ≡ drop k places

pub reached_first : {X : Type 0} (is : X → Bool) (xs : List X) (places : List ℕ) → places ≡ places_from is 0 xs → IsNext is xs 0 (reached places 0 xs) 0 (reached places 0 xs)
reached_first is xs places e =
    let at : reached places 0 xs ≡ get_or (places_from is 0 xs) 0 (length xs) = ap (λ l. get_or l 0 (length xs)) e in
    next is xs 0 0 (reached places 0 xs) 0 (reached places 0 xs) (length xs) (omega arith) (omega arith) (omega arith) (omega arith) at

pub reached_at_first : {X : Type 0} (is : X → Bool) (xs : List X) (places : List ℕ) → places ≡ places_from is 0 xs → IsReached is xs places 0
reached_at_first is xs places e = let first = reached_first is xs places e in record { within = first.to; rest = first.rest ∙ sym e }

pub reached_there : {X : Type 0} (is : X → Bool) (xs : List X) (places : List ℕ) (k : ℕ) → k < length places → IsReached is xs places k → reached places k xs < length xs
reached_there is xs places k h known = (taken_at is xs places (reached places k xs) k (length xs) h refl known.within known.rest).there

pub reached_next : {X : Type 0} (is : X → Bool) (xs : List X) (places : List ℕ) (k : ℕ) → k < length places → IsReached is xs places k → IsNext is xs (suc (reached places k xs)) (reached places (suc k) xs) (suc (reached places k xs)) (reached places (suc k) xs)
reached_next is xs places k h known =
    let m = reached places k xs in
    let it : IsTaken is xs m (drop (suc k) places) = taken_at is xs places m k (length xs) h refl known.within known.rest in
    let there = it.there in
    let at : reached places (suc k) xs ≡ get_or (places_from is (suc m) (drop (suc m) xs)) 0 (length xs) = sym (get-head places (suc k) (length xs)) ∙ ap (λ l. get_or l 0 (length xs)) (sym it.rest) in
    next is xs 0 (suc m) (reached places (suc k) xs) (suc m) (reached places (suc k) xs) (length xs) (omega (arith, there)) (omega arith) (omega arith) (omega arith) at

pub reached_more : {X : Type 0} (is : X → Bool) (xs : List X) (places : List ℕ) (k : ℕ) → k < length places → IsReached is xs places k → IsReached is xs places (suc k)
reached_more is xs places k h known =
    let m = reached places k xs in
    let it : IsTaken is xs m (drop (suc k) places) = taken_at is xs places m k (length xs) h refl known.within known.rest in
    let more = reached_next is xs places k h known in
    record { within = more.to; rest = more.rest ∙ it.rest }

-- all were seen
pub reached_last : {X : Type 0} (xs : List X) (places : List ℕ) (k : ℕ) → length places ≤ k → reached places k xs ≡ length xs
reached_last xs [] k h = refl
reached_last xs (p ∷ places) zero h = absurd (omega (arith, h))
reached_last xs (p ∷ places) (suc k) h = reached_last xs places k (omega (arith, h))

-- ---- from one place to the next nothing changes

pub map_still : {X : Type 0} (f : X → X) (xs : List X) (a m : ℕ) → a ≤ m → ((j : ℕ) (x : X) → a ≤ j → j < m → slice_get xs j ≡ Some x → f x ≡ x) → (map f (take m xs) ++ drop m xs) ≡ map f (take a xs) ++ drop a xs
map_still f [] zero zero h same = refl
map_still f [] zero (suc m) h same = refl
map_still f [] (suc a) zero h same = absurd (omega (arith, h))
map_still f [] (suc a) (suc m) h same = refl
map_still f (x ∷ xs) zero zero h same = refl
map_still f (x ∷ xs) zero (suc m) h same =
    let first : f x ≡ x = same zero x (omega arith) (omega arith) refl in
    let rest = map_still f xs zero m (omega arith) (λ j y lo hi g. same (suc j) y (omega arith) (omega (arith, hi)) g) in
    ap (λ l. f x ∷ l) rest ∙ ap (λ y. y ∷ xs) first
map_still f (x ∷ xs) (suc a) zero h same = absurd (omega (arith, h))
map_still f (x ∷ xs) (suc a) (suc m) h same = ap (λ l. f x ∷ l) (map_still f xs a m (omega (arith, h)) (λ j y lo hi g. same (suc j) y (omega (arith, lo)) (omega (arith, hi)) g))

-- a sum over what is left doesn't change where none adds to it
pub sum_still : {X : Type 0} (F : List X → Vec2) (g : X → Vec2) (xs : List X) (a m : ℕ) → a ≤ m → ((y : X) (ys : List X) → F (y ∷ ys) ≡ plus (g y) (F ys)) → ((j : ℕ) (x : X) → a ≤ j → j < m → slice_get xs j ≡ Some x → g x ≡ zero_vector) → F (drop m xs) ≡ F (drop a xs)
sum_still F g [] zero zero h law none = refl
sum_still F g [] zero (suc m) h law none = refl
sum_still F g [] (suc a) zero h law none = absurd (omega (arith, h))
sum_still F g [] (suc a) (suc m) h law none = refl
sum_still F g (x ∷ xs) zero zero h law none = refl
sum_still F g (x ∷ xs) zero (suc m) h law none =
    let first : g x ≡ zero_vector = none zero x (omega arith) (omega arith) refl in
    let rest = sum_still F g xs zero m (omega arith) law (λ j y lo hi e. none (suc j) y (omega arith) (omega (arith, hi)) e) in
    rest ∙ (sym (zero_plus (F xs)) ∙ (ap (λ (v : Vec2). plus v (F xs)) (sym first) ∙ sym (law x xs)))
sum_still F g (x ∷ xs) (suc a) zero h law none = absurd (omega (arith, h))
sum_still F g (x ∷ xs) (suc a) (suc m) h law none = sum_still F g xs a m (omega (arith, h)) law (λ j y lo hi e. none (suc j) y (omega (arith, lo)) (omega (arith, hi)) e)
