-- Rows that are put back part after part have the effect of all rows in their order, where rows of different constraints
-- may change places.
use Rattle.std.proofs.Common.{◌≡◌, ℕ, zero, suc, ◌<◌, Bool, true, false, cond, List, [], ◌∷◌, length, get_or, map, All, arith, inl, inr, refl, sym, ap, ◌∙◌, subst}
use Rattle.std.specs.Prelude.{nat_eq}
use Rattle.std.specs.List.{AllPairs}
use Rattle.std.proofs.lemmas.Bool.{cases_lt, eqb-true, eq-eqb}
use Rattle.std.proofs.lemmas.List.{length-map}
use Rattle.std.proofs.lemmas.List.Elements.{All-cons, All-head, All-nil, All-tail}
use Rattle.part_runs.specs.ReadBack.{picked}
use Rattle.part_runs.proofs.ListLaws.{get_or-mapped}

-- what holds of all rows holds of those of a part
picked_if : {R : Type 0} (Q : R → Type 0) (t : Bool) (r : R) (rows : List R) → Q r → All Q rows → All Q (cond t (r ∷ rows) rows)
picked_if Q true r rows here rest = All-cons Q r rows here rest
picked_if Q false r rows here rest = rest

pub all_picked : {R : Type 0} (Q : R → Type 0) (k : ℕ) (owners : List ℕ) (rows : List R) → All Q rows → All Q (picked k owners rows)
all_picked Q k [] rows all = All-nil Q
all_picked Q k (o ∷ owners) [] all = All-nil Q
all_picked Q k (o ∷ owners) (r ∷ rows) all = picked_if Q (nat_eq o k) r (picked k owners rows) (All-head Q r rows all) (all_picked Q k owners rows (All-tail Q r rows all))

-- a number below the next one, and not this one, is below this one
less_than : (o n : ℕ) → nat_eq o n ≡ false → o < suc n → o < n
less_than o n e lt = elim (cases_lt o n) [
  | inl less ↦ less
  | inr more ↦ (let same : o ≡ n = omega (arith, lt, more) in absurd (cc (sym e ∙ eq-eqb o n same)))
]

-- pairs told by a name
pub pairs_named : {R N : Type 0} (P : N → N → Type 0) (f : R → N) (rows : List R) → AllPairs P (map f rows) → AllPairs (λ r q. P (f r) (f q)) rows
pairs_named {R} P f rows apart i j d before lt =
    let long : length (map f rows) ≡ length rows = length-map rows f in
    let here : P (get_or (map f rows) i (f d)) (get_or (map f rows) j (f d)) = apart i j (f d) before (omega (arith, lt, long)) in
    subst (λ x. P x (f (get_or rows j d))) (get_or-mapped f rows i d (f d) (omega (arith, before, lt)))
    (subst (λ x. P (get_or (map f rows) i (f d)) x) (get_or-mapped f rows j d (f d) lt) here)

abbrev pub put_all : {R S : Type 0} → (R → S → S) → List R → S → S
put_all put [] s = s
put_all put (r ∷ rows) s = put_all put rows (put r s)

-- those of the parts below n
abbrev pub put_parts : {R S : Type 0} → (R → S → S) → ℕ → (ℕ → List R) → S → S
put_parts put zero part s = s
put_parts put (suc n) part s = put_all put (part n) (put_parts put n part s)

pub same_parts : {R S : Type 0} (put : R → S → S) (n : ℕ) (part other : ℕ → List R) (s : S) → ((k : ℕ) → k < n → part k ≡ other k) → put_parts put n part s ≡ put_parts put n other s
same_parts put zero part other s same = refl
same_parts {R} put (suc n) part other s same =
    ap (λ (l : List R). put_all put l (put_parts put n part s)) (same n (omega arith)) ∙ ap (put_all put (other n)) (same_parts put n part other s (λ k lt. same k (omega (arith, lt))))

no_parts : {R S : Type 0} (put : R → S → S) (n : ℕ) (rows : List R) (s : S) → put_parts put n (λ k. picked k [] rows) s ≡ s
no_parts put zero rows s = refl
no_parts put (suc n) rows s = no_parts put n rows s

module _ {R S : Type 0} (put : R → S → S) (Apart : R → R → Type 0) (swaps : (r q : R) → Apart r q → (s : S) → put q (put r s) ≡ put r (put q s)) where
  -- a row goes before rows of other constraints
  before_all : (r : R) (rows : List R) (s : S) → All (Apart r) rows → put_all put rows (put r s) ≡ put r (put_all put rows s)
  before_all r [] s apart = refl
  before_all r (q ∷ rows) s apart = ap (put_all put rows) (swaps r q (All-head (Apart r) q rows apart) s) ∙ before_all r rows (put q s) (All-tail (Apart r) q rows apart)

  before_parts : (r : R) (n : ℕ) (part : ℕ → List R) (s : S) → ((k : ℕ) → All (Apart r) (part k)) → put_parts put n part (put r s) ≡ put r (put_parts put n part s)
  before_parts r zero part s apart = refl
  before_parts r (suc n) part s apart = ap (put_all put (part n)) (before_parts r n part s apart) ∙ before_all r (part n) (put_parts put n part s) (apart n)

  abbrev with_first : ℕ → R → (ℕ → List R) → ℕ → List R
  with_first o r part k = cond (nat_eq o k) (r ∷ part k) (part k)

  other_part : (o k : ℕ) (r : R) (part : ℕ → List R) (t : Bool) → nat_eq o k ≡ t → k < o → cond t (r ∷ part k) (part k) ≡ part k
  other_part o k r part true e lt = let same : o ≡ k = eqb-true o k e in absurd (omega (arith, lt, same))
  other_part o k r part false e lt = refl

  -- the row of the part o is put first
  first_if : (n o : ℕ) (r : R) (part : ℕ → List R) (s : S) (t : Bool) → nat_eq o n ≡ t → o < suc n → ((k : ℕ) → All (Apart r) (part k))
      → (o < n → put_parts put n (with_first o r part) s ≡ put_parts put n part (put r s))
      → put_all put (cond t (r ∷ part n) (part n)) (put_parts put n (with_first o r part) s) ≡ put_all put (part n) (put_parts put n part (put r s))
  first_if n o r part s true e lt apart less =
      let same : o ≡ n = eqb-true o n e in
      let here : put_parts put n (with_first o r part) s ≡ put_parts put n part s = same_parts put n (with_first o r part) part s (λ k before. other_part o k r part (nat_eq o k) refl (omega (arith, before, same))) in
      ap (λ (x : S). put_all put (part n) (put r x)) here ∙ ap (put_all put (part n)) (sym (before_parts r n part s apart))
  first_if n o r part s false e lt apart less =
      ap (put_all put (part n)) (less (less_than o n e lt))

  first_put : (n o : ℕ) (r : R) (part : ℕ → List R) (s : S) → o < n → ((k : ℕ) → All (Apart r) (part k)) → put_parts put n (with_first o r part) s ≡ put_parts put n part (put r s)
  first_put zero o r part s lt apart = absurd (omega (arith, lt))
  first_put (suc n) o r part s lt apart = first_if n o r part s (nat_eq o n) refl lt apart (λ less. first_put n o r part s less apart)

  pub parts_are_all : (n : ℕ) (owners : List ℕ) (rows : List R) (s : S) → length owners ≡ length rows → All (λ owner. owner < n) owners → AllPairs Apart rows → put_parts put n (λ k. picked k owners rows) s ≡ put_all put rows s
  parts_are_all n [] [] s long below apart = no_parts put n [] s
  parts_are_all n [] (r ∷ rows) s long below apart = absurd (omega (arith, long))
  parts_are_all n (o ∷ owners) [] s long below apart = absurd (omega (arith, long))
  parts_are_all n (o ∷ owners) (r ∷ rows) s long below apart =
      let others : All (Apart r) rows = λ k d lt. apart zero (suc k) d (omega arith) (omega (arith, lt)) in
      let rest : AllPairs Apart rows = λ k l d lt more. apart (suc k) (suc l) d (omega (arith, lt)) (omega (arith, more)) in
      first_put n o r (λ k. picked k owners rows) s (All-head (λ owner. owner < n) o owners below) (λ k. all_picked (Apart r) k owners rows others)
      ∙ parts_are_all n owners rows (put r s) (omega (arith, long)) (All-tail (λ owner. owner < n) o owners below) rest
