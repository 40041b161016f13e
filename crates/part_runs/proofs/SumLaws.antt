-- Sums over the parts.
use Rattle.std.proofs.Common.{◌≡◌, ◌≢◌, ℕ, zero, suc, ◌<◌, cond, arith, refl, sym, ap, ap₂, ◌∙◌, inl, inr}
use Rattle.std.specs.Prelude.{nat_eq}
use Rattle.std.proofs.lemmas.Bool.{cases_eq, eq-eqb, ne_eqb}
use Rattle.std.proofs.lemmas.Int.{ints}
use Rattle.fixed_geom.specs.Vectors.{plus, zero_vector}
use Rattle.fixed_geom.specs.declared.vectors.Vec2.{Vec2}
use Rattle.colour_solver.proofs.VectorLaws.{plus_zero, same_vector, zero_plus}
use Rattle.part_runs.specs.Hidden.{sum_below}

-- the same summands
pub sum_alike : (n : ℕ) (f g : ℕ → Vec2) → ((k : ℕ) → k < n → f k ≡ g k) → sum_below n f ≡ sum_below n g
sum_alike zero f g same = refl
sum_alike (suc n) f g same = ap₂ plus (sum_alike n f g (λ k lt. same k (omega (arith, lt)))) (same n (omega arith))

pub sum_none : (n : ℕ) → sum_below n (λ k. zero_vector) ≡ zero_vector
sum_none zero = refl
sum_none (suc n) = ap (λ (v : Vec2). plus v zero_vector) (sum_none n)

swap_inner : (a b c d : Vec2) → plus (plus a b) (plus c d) ≡ plus (plus a c) (plus b d)
swap_inner a b c d = same_vector _ _ (omega (arith, ints)) (omega (arith, ints))

-- two sums are one
pub sum_both : (n : ℕ) (f g : ℕ → Vec2) → sum_below n (λ k. plus (f k) (g k)) ≡ plus (sum_below n f) (sum_below n g)
sum_both zero f g = refl
sum_both (suc n) f g = ap (λ (v : Vec2). plus v (plus (f n) (g n))) (sum_both n f g) ∙ swap_inner (sum_below n f) (sum_below n g) (f n) (g n)

-- what one part gives
abbrev pub one_of : ℕ → Vec2 → ℕ → Vec2
one_of j v k = cond (nat_eq j k) v zero_vector

here : (j k : ℕ) (v : Vec2) → j ≡ k → one_of j v k ≡ v
here j k v e = ap (λ b. cond b v zero_vector) (eq-eqb j k e)

elsewhere : (j k : ℕ) (v : Vec2) → j ≢ k → one_of j v k ≡ zero_vector
elsewhere j k v ne = ap (λ b. cond b v zero_vector) (ne_eqb j k ne)

pub sum_one : (n j : ℕ) (v : Vec2) → j < n → sum_below n (one_of j v) ≡ v
sum_one zero j v lt = absurd (omega (arith, lt))
sum_one (suc n) j v lt = elim (cases_eq j n) [
  | inl is ↦
      let others : sum_below n (one_of j v) ≡ sum_below n (λ k. zero_vector) = sum_alike n (one_of j v) (λ k. zero_vector) (λ k less. elsewhere j k v (λ e. omega (arith, less, e, is))) in
      ap₂ plus (others ∙ sum_none n) (here j n v is) ∙ zero_plus v
  | inr ne ↦ ap₂ plus (sum_one n j v (omega (arith, lt, ne))) (elsewhere j n v ne) ∙ plus_zero v
]

-- what is added to a sum in each part is added to all
pub added_apart : (n : ℕ) (a b : Vec2) (f g : ℕ → Vec2) → a ≡ sum_below n f → b ≡ sum_below n g → plus a b ≡ sum_below n (λ k. plus (f k) (g k))
added_apart n a b f g first more = ap₂ plus first more ∙ sym (sum_both n f g)
