-- Lists whose elements have a property, or have one element more.
use Rattle.std.specs.Prelude.{◌≡◌, List, [], ◌∷◌, ◌++◌, ◌⊎◌}

-- each has P
abbrev pub Each : {X : Type 0} → (X → Type 0) → List X → Type 0
Each P [] = Unit {0}
Each P (x ∷ xs) = P x × Each P xs

abbrev pub IsIn : {X : Type 0} → X → List X → Type 0
IsIn e [] = ⊥
IsIn e (x ∷ xs) = (e ≡ x) ⊎ IsIn e xs

-- more is less with e at some place
pub record IsAdded {X : Type 0} (e : X) (less more : List X) : Type 0 where
  pub front : List X
  pub back : List X
  pub was : less ≡ front ++ back
  pub is : more ≡ front ++ e ∷ back

-- new is old with in_stead in the place of out
pub record IsRefitted {X : Type 0} (out in_stead : X) (old new : List X) : Type 0 where
  pub front : List X
  pub back : List X
  pub was : old ≡ front ++ out ∷ back
  pub is : new ≡ front ++ in_stead ∷ back
