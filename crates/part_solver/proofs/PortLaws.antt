-- What was sent through one of several rings, with one letter more.
use Rattle.std.proofs.Common.{◌≡◌, ℕ, zero, suc, ◌<◌, List, [], ◌∷◌, ◌++◌, length, get_or, map, set, arith, ap, ◌∙◌}

pub one_more : {X Y : Type 0} (f : X → List Y) (xs : List X) (i : ℕ) (x y : X) (more : List Y) → i < length xs → x ≡ get_or xs i x → f y ≡ f x ++ more → map f (set xs i y) ≡ set (map f xs) i (get_or (map f xs) i [] ++ more)
one_more f [] i x y more lt is h = absurd (omega (arith, lt))
one_more {X} {Y} f (z ∷ xs) zero x y more lt is h = ap (λ (l : List Y). l ∷ map f xs) (h ∙ ap (λ (w : X). f w ++ more) is)
one_more {X} {Y} f (z ∷ xs) (suc i) x y more lt is h = ap (λ (l : List (List Y)). f z ∷ l) (one_more f xs i x y more (omega (arith, lt)) is h)
