-- A part's bodies and slots, one further in a loop.
use Rattle.std.proofs.Common.{◌≡◌, ℕ, ◌+◌, ◌<◌, Bool, true, false, cond, List, [], ◌∷◌, ◌++◌, length, drop, get_or, sym, ap, ◌∙◌, add-one}
use Rattle.std.proofs.lemmas.List.{append_assoc, at_drop_more}
use Rattle.momenta.specs.declared.state.BodyState.{BodyState}
use Rattle.part_runs.specs.Hidden.{hidden, hidden_from, seen}

-- what stands at a place, and what is behind it
pub dropped : {X : Type 0} (xs : List X) (i : ℕ) (x : X) → i < length xs → x ≡ get_or xs i x → drop i xs ≡ x ∷ drop (i + 1) xs
dropped {X} xs i x h e = at_drop_more (λ (l : List X). l) xs i x h ∙ ap (λ (y : X). y ∷ drop (i + 1) xs) (sym e)

-- ---- bodies

pub see_more : (g : ℕ → ℕ) (k : ℕ) (ss out : List BodyState) (i : ℕ) (s : BodyState) → i < length ss → s ≡ get_or ss i s → out ++ hidden_from g k i (drop i ss) ≡ hidden g k ss
    → (out ++ seen g k i s ∷ []) ++ hidden_from g k (i + 1) (drop (i + 1) ss) ≡ hidden g k ss
see_more g k ss out i s h e known =
    append_assoc out (seen g k i s ∷ []) (hidden_from g k (i + 1) (drop (i + 1) ss))
    ∙ ap (λ (n : ℕ). out ++ seen g k i s ∷ hidden_from g k n (drop (i + 1) ss)) (add-one i)
    ∙ ap (λ (l : List BodyState). out ++ hidden_from g k i l) (sym (dropped ss i s h e))
    ∙ known

-- ---- those that pass a test

module _ {X Y : Type 0} (p : X → Bool) (f : X → Y) (F : List X → List Y) (step : (x : X) (xs : List X) → F (x ∷ xs) ≡ cond (p x) (f x ∷ F xs) (F xs)) where
  pub kept_one : (xs : List X) (out all : List Y) (i : ℕ) (x : X) → i < length xs → x ≡ get_or xs i x → p x ≡ true → out ++ F (drop i xs) ≡ all → (out ++ f x ∷ []) ++ F (drop (i + 1) xs) ≡ all
  kept_one xs out all i x h e is known =
      append_assoc out (f x ∷ []) (F (drop (i + 1) xs))
      ∙ ap (λ (t : Bool). out ++ cond t (f x ∷ F (drop (i + 1) xs)) (F (drop (i + 1) xs))) (sym is)
      ∙ ap (λ (l : List Y). out ++ l) (sym (step x (drop (i + 1) xs)))
      ∙ ap (λ (l : List X). out ++ F l) (sym (dropped xs i x h e))
      ∙ known

  pub kept_none : (xs : List X) (out all : List Y) (i : ℕ) (x : X) → i < length xs → x ≡ get_or xs i x → p x ≡ false → out ++ F (drop i xs) ≡ all → out ++ F (drop (i + 1) xs) ≡ all
  kept_none xs out all i x h e is known =
      ap (λ (t : Bool). out ++ cond t (f x ∷ F (drop (i + 1) xs)) (F (drop (i + 1) xs))) (sym is)
      ∙ ap (λ (l : List Y). out ++ l) (sym (step x (drop (i + 1) xs)))
      ∙ ap (λ (l : List X). out ++ F l) (sym (dropped xs i x h e))
      ∙ known
