-- Lists that are written into an array.
use Rattle.std.proofs.Common.{◌≡◌, ℕ, zero, suc, ◌+◌, ◌<◌, ◌≤◌, List, [], ◌∷◌, ◌++◌, ◌∙◌, Option, Some, None, add-one, add-zero, ap, arith, get_or, length, map, min, refl, subst, sym, take, inl, inr}
use Rattle.std.proofs.Math.Seq.{take-suc}
use Rattle.std.proofs.lemmas.Bool.{cases_lt}
use Rattle.std.proofs.lemmas.List.{append-nil, length-append, length-map, map-append, take_all}
use Rattle.std.specs.Prelude.{slice_set}
use Rattle.dillmonth.specs.Lists.{list_of, put_at, put_list, written}

-- one item more
pub written_more : {T : Type 0} (xs out : List T) (x : T) → written (xs ++ x ∷ []) out ≡ put_at (written xs out) (length xs) x
written_more [] [] x = refl
written_more [] (o ∷ out) x = refl
written_more (y ∷ ys) [] x = refl
written_more (y ∷ ys) (o ∷ out) x = ap (λ l. y ∷ l) (written_more ys out x)

-- at a place that there is
pub put_is : {T : Type 0} (out : List T) (at : ℕ) (x : T) → at < length out → slice_set out at x ≡ put_at out at x
put_is [] at x low = let wrong : ⊥ = omega (arith, low) in absurd wrong
put_is (o ∷ out) zero x low = refl
put_is (o ∷ out) (suc at) x low = ap (λ l. o ∷ l) (put_is out at x (omega (arith, low)))

-- and at one that there isn't
pub put_past : {T : Type 0} (out : List T) (at : ℕ) (x : T) → length out ≤ at → out ≡ put_at out at x
put_past [] at x high = refl
put_past (o ∷ out) zero x high = let wrong : ⊥ = omega (arith, high) in absurd wrong
put_past (o ∷ out) (suc at) x high = ap (λ l. o ∷ l) (put_past out at x (omega (arith, high)))

-- an array keeps its length
pub length_written : {T : Type 0} (xs out : List T) → length (written xs out) ≡ length out
length_written [] out = refl
length_written (x ∷ xs) [] = refl
length_written (x ∷ xs) (o ∷ out) = let known : length (written xs out) ≡ length out = length_written xs out in omega (arith, known)

-- one item more, or none
pub written_next : {T : Type 0} (xs out now new : List T) (count : ℕ) (o : Option T) → count ≡ length xs → now ≡ written xs out → new ≡ put_list now count (list_of o) → new ≡ written (xs ++ list_of o) out
written_next xs out now new count None counted known put = put ∙ known ∙ ap (λ l. written l out) (sym (append-nil xs))
written_next xs out now new count (Some x) counted known put = put ∙ (λ i. put_at (known i) (counted i) x) ∙ sym (written_more xs out x)

pub counted_next : {T : Type 0} (xs : List T) (count next : ℕ) (o : Option T) → count ≡ length xs → next ≡ count + length (list_of o) → next ≡ length (xs ++ list_of o)
counted_next xs count next o counted more = more ∙ ap (λ n. n + length (list_of o)) counted ∙ sym (length-append xs (list_of o))

pub few_next : {T : Type 0} (count next slot : ℕ) (o : Option T) → next ≡ count + length (list_of o) → count ≤ slot → next ≤ slot + 1
few_next count next slot None more few = let none : next ≡ count = more ∙ add-zero count in omega (arith, few, none)
few_next count next slot (Some x) more few = omega (arith, few, more)

one_taken : {S : Type 0} (xs : List S) (at : ℕ) (x : S) → at < length xs → x ≡ get_or xs at x → take (at + 1) xs ≡ take at xs ++ x ∷ []
one_taken xs at x low is = rw add-one (take-suc xs at x low ∙ ap (λ e. take at xs ++ e ∷ []) (sym is))

length_take : {S : Type 0} (n : ℕ) (xs : List S) → n < length xs → length (take n xs) ≡ n
length_take zero xs low = refl
length_take (suc n) [] low = let wrong : ⊥ = omega (arith, low) in absurd wrong
length_take (suc n) (x ∷ xs) low = ap suc (length_take n xs (omega (arith, low)))

-- an item of a list is written at its place
pub written_at : {S : Type 0} {T : Type 0} (f : S → T) (xs : List S) (out now new : List T) (at : ℕ) (x : S) (y : T)
    → at < length xs → at < length out → x ≡ get_or xs at x → y ≡ f x → now ≡ written (map f (take at xs)) out → new ≡ slice_set now at y
    → new ≡ written (map f (take (at + 1) xs)) out
written_at f xs out now new at x y low room is shown known put =
    let same : length (map f (take at xs)) ≡ at = length-map (take at xs) f ∙ length_take at xs low in
    let long : at < length now = subst (λ l. at < length l) (sym known) (subst (λ n. at < n) (sym (length_written (map f (take at xs)) out)) room) in
    put ∙ put_is now at y long
    ∙ (λ i. put_at (known i) (sym same i) (shown i))
    ∙ sym (written_more (map f (take at xs)) out (f x))
    ∙ ap (λ l. written l out) (sym (map-append f (take at xs) (x ∷ [])))
    ∙ ap (λ l. written (map f l) out) (sym (one_taken xs at x low is))

-- what is beyond the array isn't written
room_for : {S : Type 0} {T : Type 0} (f : S → T) (xs : List S) (out : List T) (n : ℕ) → length out ≤ n → written (map f (take n xs)) out ≡ written (map f xs) out
room_for f [] [] zero high = refl
room_for f [] [] (suc n) high = refl
room_for f [] (o ∷ out) zero high = refl
room_for f [] (o ∷ out) (suc n) high = refl
room_for f (x ∷ xs) [] zero high = refl
room_for f (x ∷ xs) [] (suc n) high = refl
room_for f (x ∷ xs) (o ∷ out) zero high = let wrong : ⊥ = omega (arith, high) in absurd wrong
room_for f (x ∷ xs) (o ∷ out) (suc n) high = ap (λ l. f x ∷ l) (room_for f xs out n (omega (arith, high)))

-- as many forms as there are items and places
pub written_whole : {S : Type 0} {T : Type 0} (f : S → T) (xs : List S) (out : List T) (n : ℕ) → n ≡ min (length xs) (length out) → written (map f (take n xs)) out ≡ written (map f xs) out
written_whole f xs out n is = elim (cases_lt n (length out)) [
  | inl low ↦ ap (λ l. written (map f l) out) (take_all n xs (omega (arith, is, low)))
  | inr high ↦ room_for f xs out n high
]
