-- What is in lists that are filtered and mapped, and lists whose numbers rise.
use Rattle.std.proofs.Common.{◌≡◌, ◌⊎◌, ℕ, zero, suc, ◌<◌, ◌≤◌, Bool, true, false, cond, List, [], ◌∷◌, ◌++◌, length, map, filter, Option, Some, None, get_or, inl, inr, refl, sym, ap, ◌∙◌, subst, arith}
use Rattle.std.specs.Prelude.{AllPairs}
use Rattle.std.specs.List.{filter_map, cons_option}
use Rattle.std.proofs.lemmas.Bool.{false≢true}
use Rattle.std.proofs.lemmas.List.Kept.{AllPairs-cons}
use Rattle.graph_colours.proofs.ListLemmas.{pairs_none, pairs_head, pairs_tail}
use Rattle.std.proofs.lemmas.List.Elements.{All-contains}
use Rattle.contacts_base.proofs.Members.{IsIn, in_append, in_from_contains, contains_from_in}
use Rattle.graph_colours.specs.declared.member.Member.{Member}
use Rattle.graph_colours.specs.Members.{AreRising}
use Rattle.sleep_wake.proofs.ChangeLemmas.{one_order}

-- ---- filtered and mapped

pub in_some : {X : Type 0} (o : Option X) (xs : List X) (x : X) → IsIn x xs → IsIn x (cons_option o xs)
in_some None xs x h = h
in_some (Some y) xs x h = inr h

-- it comes of an element
pub record ComesOf {X Y : Type 0} (f : X → Option Y) (xs : List X) (y : Y) : Type 0 where
  pub of : X
  pub there : IsIn of xs
  pub gives : f of ≡ Some y

comes_later : {X Y : Type 0} (f : X → Option Y) (x : X) (xs : List X) (y : Y) → ComesOf f xs y → ComesOf f (x ∷ xs) y
comes_later f x xs y h = record { of = h.of; there = inr h.there; gives = h.gives }

comes_by : {X Y : Type 0} (f : X → Option Y) (x : X) (xs : List X) (y : Y) (o : Option Y) → f x ≡ o → IsIn y (cons_option o (filter_map f xs)) → (IsIn y (filter_map f xs) → ComesOf f xs y) → ComesOf f (x ∷ xs) y
comes_by f x xs y None e h rest = comes_later f x xs y (rest h)
comes_by f x xs y (Some z) e h rest = elim h [
  | inl p ↦ record { of = x; there = inl refl; gives = e ∙ ap Some (sym p) }
  | inr q ↦ comes_later f x xs y (rest q)
]

pub in_map : {X Y : Type 0} (f : X → Option Y) (xs : List X) (y : Y) → IsIn y (filter_map f xs) → ComesOf f xs y
in_map f [] y h = absurd h
in_map f (x ∷ xs) y h = comes_by f x xs y (f x) refl h (in_map f xs y)

pub map_in : {X Y : Type 0} (f : X → Option Y) (xs : List X) (x : X) (y : Y) → IsIn x xs → f x ≡ Some y → IsIn y (filter_map f xs)
map_in f [] x y h e = absurd h
map_in f (z ∷ xs) x y h e = elim h [
  | inl p ↦ subst (λ o. IsIn y (cons_option o (filter_map f xs))) (sym (ap f (sym p) ∙ e)) (inl refl)
  | inr q ↦ in_some (f z) (filter_map f xs) y (map_in f xs x y q e)
]

-- two functions that agree on the elements
pub map_same : {X Y : Type 0} (f g : X → Option Y) (xs : List X) → ((x : X) → IsIn x xs → f x ≡ g x) → filter_map f xs ≡ filter_map g xs
map_same f g [] h = refl
map_same f g (x ∷ xs) h = rw (h x (inl refl), map_same f g xs (λ y q. h y (inr q))) refl

pub length_map : {X Y : Type 0} (f : X → Option Y) (xs : List X) → length (filter_map f xs) ≤ length xs
length_map f [] = omega arith
length_map f (x ∷ xs) = by_option (f x) (filter_map f xs) xs (length_map f xs)
  where
    by_option : {X Y : Type 0} (o : Option Y) (ys : List Y) (xs : List X) → length ys ≤ length xs → length (cons_option o ys) ≤ suc (length xs)
    by_option None ys xs h = omega (arith, h)
    by_option (Some y) ys xs h = omega (arith, h)

in_filter_by : {X : Type 0} (p : X → Bool) (x y : X) (t : Bool) (ys zs : List X) → p y ≡ t → IsIn x (cond t (y ∷ ys) ys) → (IsIn x ys → IsIn x zs × (p x ≡ true)) → IsIn x (y ∷ zs) × (p x ≡ true)
in_filter_by p x y true ys zs e h rest = elim h [
  | inl q ↦ (inl q, ap p q ∙ e)
  | inr q ↦ let o = rest q in (inr o.0, o.1)
]
in_filter_by p x y false ys zs e h rest = let o = rest h in (inr o.0, o.1)

pub in_filter : {X : Type 0} (p : X → Bool) (xs : List X) (x : X) → IsIn x (filter p xs) → IsIn x xs × (p x ≡ true)
in_filter p [] x h = absurd h
in_filter p (y ∷ ys) x h = in_filter_by p x y (p y) (filter p ys) ys refl h (in_filter p ys x)

filter_in_by : {X : Type 0} (p : X → Bool) (x y : X) (t : Bool) (ys : List X) → p y ≡ t → (x ≡ y) ⊎ IsIn x ys → p x ≡ true → IsIn x (cond t (y ∷ ys) ys)
filter_in_by p x y true ys e h q = h
filter_in_by p x y false ys e h q = elim h [
  | inl k ↦ absurd (false≢true (sym e ∙ ap p (sym k) ∙ q))
  | inr k ↦ k
]

pub filter_in : {X : Type 0} (p : X → Bool) (xs : List X) (x : X) → IsIn x xs → p x ≡ true → IsIn x (filter p xs)
filter_in p [] x h q = absurd h
filter_in p (y ∷ ys) x h q = filter_in_by p x y (p y) (filter p ys) refl (elim h [ inl k ↦ inl k | inr k ↦ inr (filter_in p ys x k q) ]) q

-- it is what the function makes of an element
pub record IsMade {X Y : Type 0} (f : X → Y) (xs : List X) (y : Y) : Type 0 where
  pub of : X
  pub there : IsIn of xs
  pub is : y ≡ f of

pub in_mapped : {X Y : Type 0} (f : X → Y) (xs : List X) (y : Y) → IsIn y (map f xs) → IsMade f xs y
in_mapped f [] y h = absurd h
in_mapped f (x ∷ xs) y h = elim h [
  | inl p ↦ record { of = x; there = inl refl; is = p }
  | inr q ↦ let o = in_mapped f xs y q in record { of = o.of; there = inr o.there; is = o.is }
]

pub mapped_in : {X Y : Type 0} (f : X → Y) (xs : List X) (x : X) → IsIn x xs → IsIn (f x) (map f xs)
mapped_in f [] x h = absurd h
mapped_in f (y ∷ ys) x h = elim h [ inl p ↦ inl (ap f p) | inr q ↦ inr (mapped_in f ys x q) ]

-- ---- numbers that rise

-- each number is below those of all later ones
abbrev pub Rises : {X : Type 0} → (X → ℕ) → List X → Type 0
Rises n [] = Unit {0}
Rises {X} n (x ∷ xs) = ((y : X) → IsIn y xs → n x < n y) × Rises n xs

pub rises_filter : {X : Type 0} (n : X → ℕ) (p : X → Bool) (xs : List X) → Rises n xs → Rises n (filter p xs)
rises_filter n p [] r = tt
rises_filter {X} n p (x ∷ xs) r = by_test (p x) (filter p xs) (λ y h. r.0 y (in_filter p xs y h).0) (rises_filter n p xs r.1)
  where
    by_test : (t : Bool) (ys : List X) → ((y : X) → IsIn y ys → n x < n y) → Rises n ys → Rises n (cond t (x ∷ ys) ys)
    by_test true ys h s = (h, s)
    by_test false ys h s = s

pub rises_map : {X Y : Type 0} (f : X → Option Y) (n : X → ℕ) (k : Y → ℕ) (xs : List X) → ((x : X) (y : Y) → f x ≡ Some y → k y ≡ n x) → Rises n xs → Rises k (filter_map f xs)
rises_map f n k [] same r = tt
rises_map {X} {Y} f n k (x ∷ xs) same r = by_option (f x) (filter_map f xs) (λ z e y h. let o = in_map f xs y h in let a : k z ≡ n x = same x z e in let b : k y ≡ n o.of = same o.of y o.gives in let lt : n x < n o.of = r.0 o.of o.there in omega (arith, a, b, lt)) (rises_map f n k xs same r.1)
  where
    by_option : (o : Option Y) (ys : List Y) → ((z : Y) → o ≡ Some z → (y : Y) → IsIn y ys → k z < k y) → Rises k ys → Rises k (cons_option o ys)
    by_option None ys h s = s
    by_option (Some z) ys h s = (h z refl, s)

pub rises_mapped : {X Y : Type 0} (f : X → Y) (n : X → ℕ) (k : Y → ℕ) (xs : List X) → ((x : X) → k (f x) ≡ n x) → Rises n xs → Rises k (map f xs)
rises_mapped f n k [] same r = tt
rises_mapped f n k (x ∷ xs) same r = (
  λ y h. let o = in_mapped f xs y h in let lt : n x < n o.of = r.0 o.of o.there in let a : k (f x) ≡ n x = same x in let b : k y ≡ n o.of = ap k o.is ∙ same o.of in omega (arith, a, b, lt),
  rises_mapped f n k xs same r.1,
)

pub rises_append : {X : Type 0} (n : X → ℕ) (xs ys : List X) → Rises n xs → Rises n ys → ((x y : X) → IsIn x xs → IsIn y ys → n x < n y) → Rises n (xs ++ ys)
rises_append n [] ys r s lt = s
rises_append n (x ∷ xs) ys r s lt = (
  λ y h. elim (in_append y xs ys h) [ inl p ↦ r.0 y p | inr q ↦ lt x y (inl refl) q ],
  rises_append n xs ys r.1 s (λ a b p q. lt a b (inr p) q),
)

-- a number names one element
pub only_one : {X : Type 0} (n : X → ℕ) (xs : List X) (x y : X) → Rises n xs → IsIn x xs → IsIn y xs → n x ≡ n y → x ≡ y
only_one n [] x y r h k e = absurd h
only_one n (z ∷ xs) x y r h k e = elim h [
  | inl p ↦ elim k [
    | inl q ↦ p ∙ sym q
    | inr q ↦ let lt : n z < n y = r.0 y q in let s : n x ≡ n z = ap n p in absurd (omega (arith, lt, s, e))
  ]
  | inr p ↦ elim k [
    | inl q ↦ let lt : n z < n x = r.0 x p in let s : n y ≡ n z = ap n q in absurd (omega (arith, lt, s, e))
    | inr q ↦ only_one n xs x y r.1 p q e
  ]
]

-- ---- the same of pairs

pub pairs_from_rises : {X : Type 0} (n : X → ℕ) (xs : List X) → Rises n xs → AllPairs (λ x y. n x < n y) xs
pairs_from_rises n [] r = pairs_none (λ x y. n x < n y)
pairs_from_rises n (x ∷ xs) r = AllPairs-cons (λ x y. n x < n y) x xs (λ k d lt. r.0 (get_or xs k d) (in_from_contains xs (get_or xs k d) (k, lt, here xs k d (get_or xs k d) lt))) (pairs_from_rises n xs r.1)
  where
    here : {X : Type 0} (xs : List X) (k : ℕ) (d e : X) → k < length xs → get_or xs k e ≡ get_or xs k d
    here [] k d e lt = absurd (omega arith)
    here (x ∷ xs) zero d e lt = refl
    here (x ∷ xs) (suc k) d e lt = here xs k d e (omega arith)

pub rises_from_pairs : {X : Type 0} (n : X → ℕ) (xs : List X) → AllPairs (λ x y. n x < n y) xs → Rises n xs
rises_from_pairs n [] r = tt
rises_from_pairs n (x ∷ xs) r = (
  λ y h. All-contains (λ z. n x < n z) xs y (pairs_head (λ a b. n a < n b) x xs r) (contains_from_in xs y h),
  rises_from_pairs n xs (pairs_tail (λ a b. n a < n b) x xs r),
)

-- ---- constraints

pub same_members : {C : Type 0} (number : C → ℕ) (xs ys : List (Member C)) → AreRising number xs → AreRising number ys → ((m : Member C) → IsIn m xs → IsIn m ys) → ((m : Member C) → IsIn m ys → IsIn m xs) → xs ≡ ys
same_members number xs ys r s f g = one_order number xs ys r s (λ m. ((λ h. contains_from_in ys m (f m (in_from_contains xs m h))), (λ h. contains_from_in xs m (g m (in_from_contains ys m h)))))
