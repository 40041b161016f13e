-- Homes that are below the number of parts, one further.
use Rattle.std.proofs.Common.{◌≡◌, ℕ, ◌<◌, ◌≤◌, ◌+◌, List, [], ◌∷◌, ◌++◌, All, length, take, get_or, ap, subst, sym, ◌∙◌}
use Rattle.std.proofs.lemmas.List.{take_all, take_more}
use Rattle.std.proofs.lemmas.List.Elements.{All-push}
use Rattle.part_solver.specs.Parts.{IsHomeBelow}

pub below_step : (xs : List ℕ) (i n x d : ℕ) → IsHomeBelow n x → i < length xs → x ≡ get_or xs i d → All (IsHomeBelow n) (take i xs) → All (IsHomeBelow n) (take (i + 1) xs)
below_step xs i n x d h lt e known =
    subst (All (IsHomeBelow n)) (sym (take_more xs i d lt ∙ ap (λ (y : ℕ). take i xs ++ y ∷ []) (sym e))) (All-push (IsHomeBelow n) (take i xs) x known h)

pub below_all : (xs : List ℕ) (i n : ℕ) → length xs ≤ i → All (IsHomeBelow n) (take i xs) → All (IsHomeBelow n) xs
below_all xs i n le known = subst (All (IsHomeBelow n)) (take_all i xs le) known
