-- Seats, one further, and the parts that come of them.
use Rattle.std.proofs.Common.{◌≡◌, ℕ, zero, suc, ◌+◌, ◌<◌, List, [], ◌∷◌, ◌++◌, length, map, arith, ap, subst, ◌∙◌}
use Rattle.part_runs.specs.Runs.{Step, part_ran}
use Rattle.part_solver.specs.Mail.{Posts}
use Rattle.part_solver.specs.Parts.{AreRings, AreSeated, IsSeated, Place, posts_at, run_at, solved}

plain : (n : ℕ) → n + 0 ≡ n
plain n = omega arith

further : (n k : ℕ) → n + suc k ≡ suc n + k
further n k = omega arith

pub seated_more : (t : Step) (n : ℕ) (places : List Place) (p : Place) → AreSeated t n places → IsSeated t (n + length places) p → AreSeated t n (places ++ p ∷ [])
seated_more t n [] p known here = (subst (λ (m : ℕ). IsSeated t m p) (plain n) here, tt)
seated_more t n (x ∷ places) p known here = (known.0, seated_more t (suc n) places p known.1 (subst (λ (m : ℕ). IsSeated t m p) (further n (length places)) here))

-- the parts
runs_from : (t : Step) (n : ℕ) (places : List Place) → AreSeated t n places → (k : ℕ) → k < length places → run_at (map solved places) k ≡ part_ran t (n + k)
runs_from t n [] known k lt = absurd (omega (arith, lt))
runs_from t n (p ∷ places) known zero lt = (λ j. part_ran (known.0.step j) (known.0.number j)) ∙ ap (part_ran t) (same n)
  where
    same : (n : ℕ) → n ≡ n + 0
    same n = omega arith
runs_from t n (p ∷ places) known (suc k) lt = runs_from t (suc n) places known.1 k (omega (arith, lt)) ∙ ap (part_ran t) (next n k)
  where
    next : (n k : ℕ) → suc n + k ≡ n + suc k
    next n k = omega arith

pub parts_run : (t : Step) (places : List Place) → AreSeated t 0 places → (k : ℕ) → k < length places → run_at (map solved places) k ≡ part_ran t k
parts_run t places known k lt = runs_from t 0 places known k lt ∙ ap (part_ran t) (none k)
  where
    none : (k : ℕ) → 0 + k ≡ k
    none k = omega arith

-- ---- rings that are given to seats

-- the first of these rings are those of the part with this number
pub ring_of : (t : Step) (n count : ℕ) (rest all : List Posts) (x : Posts) → all ≡ x ∷ rest → ((k : ℕ) → k < length all → AreRings t n (count + k) (posts_at all k)) → AreRings t n count x
ring_of t n count rest all x is known =
    let each : (k : ℕ) → k < length (x ∷ rest) → AreRings t n (count + k) (posts_at (x ∷ rest) k) = subst (λ (l : List Posts). (k : ℕ) → k < length l → AreRings t n (count + k) (posts_at l k)) is known in
    subst (λ (m : ℕ). AreRings t n m x) (let same : count + 0 ≡ count = omega arith in same) (each 0 (omega arith))

-- and the others are those of the parts behind it
pub rings_of_rest : (t : Step) (n count more : ℕ) (rest all : List Posts) (x : Posts) → all ≡ x ∷ rest → more ≡ count + 1 → ((k : ℕ) → k < length all → AreRings t n (count + k) (posts_at all k)) → (k : ℕ) → k < length rest → AreRings t n (more + k) (posts_at rest k)
rings_of_rest t n count more rest all x is next known k lt =
    let each : (j : ℕ) → j < length (x ∷ rest) → AreRings t n (count + j) (posts_at (x ∷ rest) j) = subst (λ (l : List Posts). (j : ℕ) → j < length l → AreRings t n (count + j) (posts_at l j)) is known in
    subst (λ (m : ℕ). AreRings t n m (posts_at rest k)) (let same : count + suc k ≡ more + k = omega (arith, next) in same) (each (suc k) (omega (arith, lt)))
