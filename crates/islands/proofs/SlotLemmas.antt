-- Lists by slot.
use Rattle.std.proofs.Common.{◌≡◌, ℕ, zero, suc, ◌<◌, List, [], ◌∷◌, length, arith, refl, get_or}
use Rattle.islands.specs.Labels.{Labels, label_at}

pub same_labels : (xs ys : Labels) → length xs ≡ length ys → ((s : ℕ) → label_at xs s ≡ label_at ys s) → xs ≡ ys
same_labels [] [] e h = refl
same_labels [] (y ∷ ys) e h = absurd (omega (arith, e))
same_labels (x ∷ xs) [] e h = absurd (omega (arith, e))
same_labels (x ∷ xs) (y ∷ ys) e h = let front : x ≡ y = h 0 in let rest : xs ≡ ys = same_labels xs ys (omega (arith, e)) (λ s. h (suc s)) in rw (front, rest) refl

pub any_default : {X : Type 0} (xs : List X) (i : ℕ) (d e : X) → i < length xs → get_or xs i d ≡ get_or xs i e
any_default [] i d e h = absurd (omega arith)
any_default (x ∷ xs) zero d e h = refl
any_default (x ∷ xs) (suc i) d e h = any_default xs i d e (omega arith)
