-- Lists that ascend by a number: two with the same members are equal, and what is merged of two has the members of
-- both.
use Rattle.std.proofs.Common.{◌≡◌, ℕ, ◌<◌, ◌≤◌, List, [], ◌∷◌, map, Bool, true, false, cond, nat_lt, ltb-true, ltb-false, ◌⊎◌, inl, inr, refl, sym, ap, subst, arith}
use Rattle.contacts_base.specs.Merge.{merged, put_in}
use Rattle.contacts_base.proofs.Members.{Each, IsIn, each_in}
use Rattle.contacts_base.proofs.Rising.{IsRising}
use Rattle.contacts.proofs.KnownLemmas.{IsImage, in_map, map_in}

-- ---- two lists with the same members are equal

least : {X : Type 0} (number : X → ℕ) (e f : X) (fs : List X) → Each (λ n. number f < n) (map number fs) → IsIn e (f ∷ fs) → (e ≡ f) ⊎ (number f < number e)
least number e f fs a h = elim h [ inl p ↦ inl p | inr q ↦ inr (each_in (λ n. number f < n) (number e) (map number fs) a (in_map number e fs q)) ]

heads : {X : Type 0} (number : X → ℕ) (e f : X) → (e ≡ f) ⊎ (number f < number e) → (f ≡ e) ⊎ (number e < number f) → e ≡ f
heads number e f a b = elim a [ inl p ↦ p | inr q ↦ elim b [ inl p ↦ sym p | inr r ↦ absurd (omega (arith, q, r)) ] ]

later : {X : Type 0} (number : X → ℕ) (e k : X) (es fs : List X) → Each (λ n. number e < n) (map number es) → IsIn k es → IsIn k (e ∷ fs) → IsIn k fs
later number e k es fs a i h =
    elim h [
      | inl p ↦
          let q : number e < number k = each_in (λ n. number e < n) (number k) (map number es) a (in_map number k es i) in
          let r : number k ≡ number e = ap number p in
          absurd (omega (arith, q, r))
      | inr q ↦ q
    ]

pub same_members : {X : Type 0} (number : X → ℕ) (es fs : List X) → IsRising (map number es) → IsRising (map number fs) → ((k : X) → IsIn k es → IsIn k fs) → ((k : X) → IsIn k fs → IsIn k es) → es ≡ fs
same_members number [] [] a b f g = refl
same_members number [] (y ∷ ys) a b f g = absurd (g y (inl refl))
same_members number (x ∷ xs) [] a b f g = absurd (f x (inl refl))
same_members {X} number (x ∷ xs) (y ∷ ys) a b f g =
    let e : x ≡ y = heads number x y (least number x y ys b.0 (f x (inl refl))) (least number y x xs a.0 (g y (inl refl))) in
    let u : (k : X) → IsIn k xs → IsIn k ys = λ k i. later number x k xs ys a.0 i (subst (λ (z : X). IsIn k (z ∷ ys)) (sym e) (f k (inr i))) in
    let v : (k : X) → IsIn k ys → IsIn k xs = λ k i. later number y k ys xs b.0 i (subst (λ (z : X). IsIn k (z ∷ xs)) e (g k (inr i))) in
    cc (same_members number xs ys a.1 b.1 u v, e)

-- ---- one put in, and several

put_step : {X : Type 0} (number : X → ℕ) (e f : X) (t : Bool) (fs gs : List X) (k : X) → (IsIn k gs → (k ≡ e) ⊎ IsIn k fs) → IsIn k (cond t (f ∷ gs) (e ∷ f ∷ fs)) → (k ≡ e) ⊎ IsIn k (f ∷ fs)
put_step number e f true fs gs k h i = elim i [ inl p ↦ inr (inl p) | inr q ↦ elim (h q) [ inl a ↦ inl a | inr b ↦ inr (inr b) ] ]
put_step number e f false fs gs k h i = elim i [ inl p ↦ inl p | inr q ↦ inr q ]

put_is : {X : Type 0} (number : X → ℕ) (e k : X) (fs : List X) → IsIn k (put_in number e fs) → (k ≡ e) ⊎ IsIn k fs
put_is number e k [] i = elim i [ inl p ↦ inl p | inr q ↦ absurd q ]
put_is number e k (f ∷ fs) i = put_step number e f (nat_lt (number f) (number e)) fs (put_in number e fs) k (put_is number e k fs) i

has_put_step : {X : Type 0} (number : X → ℕ) (e f : X) (t : Bool) (fs gs : List X) (k : X) → ((k ≡ e) ⊎ IsIn k fs → IsIn k gs) → (k ≡ e) ⊎ IsIn k (f ∷ fs) → IsIn k (cond t (f ∷ gs) (e ∷ f ∷ fs))
has_put_step number e f true fs gs k h i = elim i [ inl p ↦ inr (h (inl p)) | inr q ↦ elim q [ inl a ↦ inl a | inr b ↦ inr (h (inr b)) ] ]
has_put_step number e f false fs gs k h i = elim i [ inl p ↦ inl p | inr q ↦ inr q ]

has_put : {X : Type 0} (number : X → ℕ) (e k : X) (fs : List X) → (k ≡ e) ⊎ IsIn k fs → IsIn k (put_in number e fs)
has_put number e k [] i = elim i [ inl p ↦ inl p | inr q ↦ absurd q ]
has_put number e k (f ∷ fs) i = has_put_step number e f (nat_lt (number f) (number e)) fs (put_in number e fs) k (has_put number e k fs) i

pub merged_is : {X : Type 0} (number : X → ℕ) (k : X) (es fs : List X) → IsIn k (merged number es fs) → IsIn k es ⊎ IsIn k fs
merged_is number k [] fs i = inr i
merged_is number k (e ∷ es) fs i = elim (put_is number e k (merged number es fs) i) [ inl p ↦ inl (inl p) | inr q ↦ elim (merged_is number k es fs q) [ inl a ↦ inl (inr a) | inr b ↦ inr b ] ]

pub merged_has : {X : Type 0} (number : X → ℕ) (k : X) (es fs : List X) → IsIn k es ⊎ IsIn k fs → IsIn k (merged number es fs)
merged_has number k [] fs i = elim i [ inl a ↦ absurd a | inr b ↦ b ]
merged_has number k (e ∷ es) fs i = has_put number e k (merged number es fs) (elim i [ inl a ↦ elim a [ inl p ↦ inl p | inr q ↦ inr (merged_has number k es fs (inl q)) ] | inr b ↦ inr (merged_has number k es fs (inr b)) ])

-- the numbers rise
above_step : {X : Type 0} (number : X → ℕ) (e f : X) (t : Bool) (fs gs : List X) (n : ℕ) → n < number e → Each (λ m. n < m) (map number (f ∷ fs)) → (Each (λ m. n < m) (map number fs) → Each (λ m. n < m) (map number gs)) → Each (λ m. n < m) (map number (cond t (f ∷ gs) (e ∷ f ∷ fs)))
above_step number e f true fs gs n lt a h = (a.0, h a.1)
above_step number e f false fs gs n lt a h = (lt, a)

above_put : {X : Type 0} (number : X → ℕ) (e : X) (fs : List X) (n : ℕ) → n < number e → Each (λ m. n < m) (map number fs) → Each (λ m. n < m) (map number (put_in number e fs))
above_put number e [] n lt a = (lt, tt)
above_put number e (f ∷ fs) n lt a = above_step number e f (nat_lt (number f) (number e)) fs (put_in number e fs) n lt a (above_put number e fs n lt)

above_less : (n m : ℕ) (xs : List ℕ) → n < m → Each (λ x. m < x) xs → Each (λ x. n < x) xs
above_less n m [] lt a = tt
above_less n m (x ∷ xs) lt a = let q : m < x = a.0 in (omega (arith, lt, q), above_less n m xs lt a.1)

rise_step : {X : Type 0} (number : X → ℕ) (e f : X) (t : Bool) (fs gs : List X) → nat_lt (number f) (number e) ≡ t → (number e ≡ number f → ⊥) → IsRising (map number (f ∷ fs)) → (number f < number e → Each (λ m. number f < m) (map number gs)) → IsRising (map number gs) → IsRising (map number (cond t (f ∷ gs) (e ∷ f ∷ fs)))
rise_step number e f true fs gs q n r above s = let lt : number f < number e = ltb-true _ _ q in (above lt, s)
rise_step number e f false fs gs q n r above s =
    let le : number e ≤ number f = ltb-false _ _ q in
    let lt : number e < number f = omega (arith, le, n) in
    ((lt, above_less (number e) (number f) (map number fs) lt r.0), r)

put_rises : {X : Type 0} (number : X → ℕ) (e : X) (fs : List X) → IsRising (map number fs) → (IsIn (number e) (map number fs) → ⊥) → IsRising (map number (put_in number e fs))
put_rises number e [] r n = (tt, tt)
put_rises number e (f ∷ fs) r n =
    rise_step number e f (nat_lt (number f) (number e)) fs (put_in number e fs) refl (λ q. n (inl q)) r (λ lt. above_put number e fs (number f) lt r.0) (put_rises number e fs r.1 (λ i. n (inr i)))

pub number_merged : {X : Type 0} (number : X → ℕ) (n : ℕ) (es fs : List X) → IsIn n (map number (merged number es fs)) → IsIn n (map number es) ⊎ IsIn n (map number fs)
number_merged number n es fs i =
    let m : IsImage number n (merged number es fs) = map_in number n (merged number es fs) i in
    elim (merged_is number m.from es fs m.among) [
      | inl p ↦ inl (subst (λ (k : ℕ). IsIn k (map number es)) (sym m.is) (in_map number m.from es p))
      | inr q ↦ inr (subst (λ (k : ℕ). IsIn k (map number fs)) (sym m.is) (in_map number m.from fs q))
    ]

pub merged_rises : {X : Type 0} (number : X → ℕ) (es fs : List X) → IsRising (map number es) → IsRising (map number fs) → ((n : ℕ) → IsIn n (map number es) → IsIn n (map number fs) → ⊥) → IsRising (map number (merged number es fs))
merged_rises number [] fs r s n = s
merged_rises number (e ∷ es) fs r s n =
    put_rises number e (merged number es fs) (merged_rises number es fs r.1 s (λ m i j. n m (inr i) j)) (λ i. elim (number_merged number (number e) es fs i) [
      | inl a ↦ let lt : number e < number e = each_in (λ k. number e < k) (number e) (map number es) r.0 a in absurd (omega (arith, lt))
      | inr b ↦ n (number e) (inl refl) b
    ])
