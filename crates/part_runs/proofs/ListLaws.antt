-- Lists of any kind.
use Rattle.std.proofs.Common.{◌≡◌, ℕ, zero, suc, ◌<◌, Bool, true, false, cond, List, [], ◌∷◌, ◌++◌, length, map, get_or, arith, refl, ap, subst}
use Rattle.std.specs.Prelude.{nat_eq, All}
use Rattle.std.specs.List.{flat_map}
use Rattle.std.proofs.lemmas.Bool.{eqb-true}
use Rattle.std.proofs.lemmas.List.Elements.{All-append, All-cons, All-head, All-nil, All-tail}

pub same_if : {X : Type 0} (t : Bool) (x : X) → cond t x x ≡ x
same_if true x = refl
same_if false x = refl

-- ---- maps

pub length_mapped : {X Y : Type 0} (f : X → Y) (xs : List X) → length (map f xs) ≡ length xs
length_mapped f [] = refl
length_mapped f (x ∷ xs) = ap suc (length_mapped f xs)

pub get_or-mapped : {X Y : Type 0} (f : X → Y) (xs : List X) (i : ℕ) (d : X) (e : Y) → i < length xs → get_or (map f xs) i e ≡ f (get_or xs i d)
get_or-mapped f [] i d e lt = absurd (omega (arith, lt))
get_or-mapped f (x ∷ xs) zero d e lt = refl
get_or-mapped f (x ∷ xs) (suc i) d e lt = get_or-mapped f xs i d e (omega (arith, lt))

pub map_mapped : {X Y Z : Type 0} (g : Y → Z) (f : X → Y) (xs : List X) → map g (map f xs) ≡ map (λ (x : X). g (f x)) xs
map_mapped g f [] = refl
map_mapped {X} {Y} {Z} g f (x ∷ xs) = ap (λ (l : List Z). g (f x) ∷ l) (map_mapped g f xs)

-- ---- what holds of each

pub all_left : {X : Type 0} (P : X → Type 0) (xs ys : List X) → All P (xs ++ ys) → All P xs
all_left P [] ys all = All-nil P
all_left P (x ∷ xs) ys all = All-cons P x xs (All-head P x (xs ++ ys) all) (all_left P xs ys (All-tail P x (xs ++ ys) all))

pub all_right : {X : Type 0} (P : X → Type 0) (xs ys : List X) → All P (xs ++ ys) → All P ys
all_right P [] ys all = all
all_right P (x ∷ xs) ys all = all_right P xs ys (All-tail P x (xs ++ ys) all)

-- what holds of all rows of a list of lists
pub all_flat : {X : Type 0} (P : X → Type 0) (xss : List (List X)) → All P (flat_map (λ (xs : List X). xs) xss) → All (All P) xss
all_flat P [] all = All-nil (All P)
all_flat {X} P (xs ∷ xss) all =
    let rest : List X = flat_map (λ (ys : List X). ys) xss in
    All-cons (All P) xs xss (all_left P xs rest all) (all_flat P xss (all_right P xs rest all))

pub flat_all : {X : Type 0} (P : X → Type 0) (xss : List (List X)) → All (All P) xss → All P (flat_map (λ (xs : List X). xs) xss)
flat_all P [] all = All-nil P
flat_all {X} P (xs ∷ xss) all = All-append P xs (flat_map (λ (ys : List X). ys) xss) (All-head (All P) xs xss all) (flat_all P xss (All-tail (All P) xs xss all))

-- ---- whether a slot is in a list

abbrev pub among : List ℕ → ℕ → Bool
among [] j = false
among (slot ∷ slots) j = cond (nat_eq slot j) true (among slots j)

among_if : (P : ℕ → Type 0) (t : Bool) (slot j : ℕ) (rest : Bool) → nat_eq slot j ≡ t → P slot → (rest ≡ true → P j) → cond t true rest ≡ true → P j
among_if P true slot j rest e here more is = subst P (eqb-true slot j e) here
among_if P false slot j rest e here more is = more is

pub among_all : (P : ℕ → Type 0) (slots : List ℕ) (j : ℕ) → All P slots → among slots j ≡ true → P j
among_all P [] j all is = absurd (cc is)
among_all P (slot ∷ slots) j all is = among_if P (nat_eq slot j) slot j (among slots j) refl (All-head P slot slots all) (λ more. among_all P slots j (All-tail P slot slots all) more) is
