-- A choice by a test, and tests joined by 'or'.
use Rattle.std.proofs.Common.{◌≡◌, Bool, true, false, cond, ◌||◌, not, refl, sym, ◌∙◌}

pub by_test : {A : Type 0} (P : A → Type 0) (t : Bool) (a b : A) → (t ≡ true → P a) → (t ≡ false → P b) → P (cond t a b)
by_test P true a b then otherwise = then refl
by_test P false a b then otherwise = otherwise refl

pub or_swaps : (a b c : Bool) → (a || (b || c)) ≡ (b || (a || c))
or_swaps true true c = refl
or_swaps true false c = refl
or_swaps false true c = refl
or_swaps false false c = refl

pub or_pairs : (a b c d : Bool) → ((a || b) || (c || d)) ≡ ((a || c) || (b || d))
or_pairs true true true d = refl
or_pairs true true false d = refl
or_pairs true false true d = refl
or_pairs true false false d = refl
or_pairs false true true d = refl
or_pairs false true false d = refl
or_pairs false false true d = refl
or_pairs false false false d = refl

pub or_false : (a : Bool) → (a || false) ≡ a
or_false true = refl
or_false false = refl

pub or_left : (a b : Bool) → (a || b) ≡ false → a ≡ false
or_left true b h = h
or_left false b h = refl

pub or_right : (a b : Bool) → (a || b) ≡ false → b ≡ false
or_right true b h = absurd (let wrong : true ≡ false = h in cc)
or_right false b h = h

pub not_true : (a : Bool) → not a ≡ true → a ≡ false
not_true true h = absurd (let wrong : false ≡ true = h in cc)
not_true false h = refl

pub not_false : (a : Bool) → (a ≡ false → ⊥) → a ≡ true
not_false true h = refl
not_false false h = absurd (h refl)

pub true_or_false : (a : Bool) → a ≡ true → a ≡ false → ⊥
true_or_false a h k = let wrong : true ≡ false = sym h ∙ k in cc

pub not_true_then : (a : Bool) → (a ≡ true → ⊥) → a ≡ false
not_true_then true h = absurd (h refl)
not_true_then false h = refl
