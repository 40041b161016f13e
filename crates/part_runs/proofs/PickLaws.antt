-- Rows told by a list of their parts: those of one part.
use Rattle.std.proofs.Common.{◌≡◌, ℕ, Bool, true, false, cond, List, [], ◌∷◌, ◌++◌, length, map, arith, refl, ap, ◌∙◌}
use Rattle.std.specs.Prelude.{nat_eq}
use Rattle.part_runs.specs.Hidden.{owned}
use Rattle.part_runs.specs.ReadBack.{picked}

pub picked_owned : {R : Type 0} (to : R → ℕ) (k : ℕ) (rows : List R) → picked k (map to rows) rows ≡ owned to k rows
picked_owned to k [] = refl
picked_owned {R} to k (r ∷ rows) = ap (λ (l : List R). cond (nat_eq (to r) k) (r ∷ l) l) (picked_owned to k rows)

join_if : {R : Type 0} (t : Bool) (r : R) (xs ys : List R) → cond t (r ∷ (xs ++ ys)) (xs ++ ys) ≡ cond t (r ∷ xs) xs ++ ys
join_if true r xs ys = refl
join_if false r xs ys = refl

pub picked_on : {R : Type 0} (k : ℕ) (owners more : List ℕ) (rows rest : List R) → length owners ≡ length rows → picked k (owners ++ more) (rows ++ rest) ≡ picked k owners rows ++ picked k more rest
picked_on k [] more [] rest long = refl
picked_on k [] more (r ∷ rows) rest long = absurd (omega (arith, long))
picked_on k (o ∷ owners) more [] rest long = absurd (omega (arith, long))
picked_on {R} k (o ∷ owners) more (r ∷ rows) rest long =
    ap (λ (l : List R). cond (nat_eq o k) (r ∷ l) l) (picked_on k owners more rows rest (omega (arith, long))) ∙ join_if (nat_eq o k) r (picked k owners rows) (picked k more rest)
