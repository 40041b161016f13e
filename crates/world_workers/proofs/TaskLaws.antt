-- The answers of one kind, where all are of it.
use Rattle.std.proofs.Common.{◌≡◌, List, [], ◌∷◌, Option, Some, map, refl, ap₂, ◌∙◌, ap}
use Rattle.std.specs.List.{filter_map}

pub all_taken : {A B C D : Type 0} (take : D → Option B) (answer : C → D) (make : A → C) (f : A → B) → ((a : A) → take (answer (make a)) ≡ Some (f a)) → (l : List A) → filter_map take (map answer (map make l)) ≡ map f l
all_taken take answer make f is [] = refl
all_taken take answer make f is (a ∷ l) = rw (is a, all_taken take answer make f is l) refl
