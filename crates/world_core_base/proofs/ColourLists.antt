-- Lists of rows, one for each colour.
use Rattle.std.proofs.Common.{◌≡◌, ℕ, zero, suc, ◌+◌, ◌<◌, List, [], ◌∷◌, ◌++◌, length, get_or, drop, map, take, All, arith, add-one, refl, sym, ap, ap₂, ◌∙◌}
use Rattle.std.specs.List.{flat_map}
use Rattle.std.proofs.Math.Seq.{drop-cons}
use Rattle.std.proofs.lemmas.List.{append-nil, length-append, map_push, take_all, take_more}
use Rattle.std.proofs.lemmas.List.Concat.{flat_map-append}
use Rattle.std.proofs.lemmas.List.Elements.{All-append}

flat_mapped : {X Y : Type 0} (f : X → List Y) (xs : List X) → flat_map (λ (ys : List Y). ys) (map f xs) ≡ flat_map f xs
flat_mapped f [] = refl
flat_mapped {X} {Y} f (x ∷ xs) = ap (λ (l : List Y). f x ++ l) (flat_mapped f xs)

-- one list more
pub lists_more : {X Y : Type 0} (f : X → Y) (done : List Y) (xs : List X) (i : ℕ) (d : X) → i < length xs → done ≡ map f (take i xs) → done ++ f (get_or xs i d) ∷ [] ≡ map f (take (i + 1) xs)
lists_more {X} {Y} f done xs i d h e = ap (λ (l : List Y). l ++ f (get_or xs i d) ∷ []) e ∙ sym (ap (map f) (take_more xs i d h) ∙ map_push f (take i xs) (get_or xs i d))

last_list : {X Y : Type 0} (f : X → List Y) (xs : List X) (k : ℕ) (d : X) → length xs ≡ k + 1 → flat_map f (take k xs) ++ f (get_or xs k d) ≡ flat_map f xs
last_list {X} {Y} f xs k d long =
    let whole : take (k + 1) xs ≡ xs = take_all (k + 1) xs (omega (arith, long)) in
    sym (ap (flat_map f) (sym whole ∙ take_more xs k d (omega (arith, long))) ∙ flat_map-append f (take k xs) (get_or xs k d ∷ []) ∙ ap (λ (l : List Y). flat_map f (take k xs) ++ l) (append-nil (f (get_or xs k d))))

-- the lists but the last one after another, and then the last
pub joined : {X Y : Type 0} (f : X → List Y) (xs : List X) (k : ℕ) (d : X) (lists : List (List Y)) (left : List Y) → length xs ≡ k + 1 → lists ≡ map f (take k xs) → left ≡ f (get_or xs k d) → flat_map (λ (ys : List Y). ys) lists ++ left ≡ flat_map f xs
joined {X} {Y} f xs k d lists left long e last =
    ap₂ (λ (l : List (List Y)) (m : List Y). flat_map (λ (ys : List Y). ys) l ++ m) e last ∙ ap (λ (l : List Y). l ++ f (get_or xs k d)) (flat_mapped f (take k xs)) ∙ last_list f xs k d long

one_of : {X : Type 0} (P : X → Type 0) (x : X) → P x → All P (x ∷ [])
one_of P x here zero d lt = here
one_of P x here (suc k) d lt = absurd (omega (arith, lt))

pub all_lists_more : {X : Type 0} (P : X → Type 0) (xs : List X) (x : X) → All P xs → P x → All P (xs ++ x ∷ [])
all_lists_more P xs x all here = All-append P xs (x ∷ []) all (one_of P x here)

pub all_flat : {X : Type 0} (P : X → Type 0) (lists : List (List X)) → All (All P) lists → All P (flat_map (λ (xs : List X). xs) lists)
all_flat P [] all = λ k d lt. absurd (omega (arith, lt))
all_flat {X} P (xs ∷ lists) all = All-append P xs (flat_map (λ (ys : List X). ys) lists) (all zero xs (omega arith)) (all_flat P lists (λ k d lt. all (suc k) d (omega (arith, lt))))

pub all_joined : {X : Type 0} (P : X → Type 0) (lists : List (List X)) (left : List X) → All (All P) lists → All P left → All P (flat_map (λ (xs : List X). xs) lists ++ left)
all_joined {X} P lists left all last = All-append P (flat_map (λ (xs : List X). xs) lists) left (all_flat P lists all) last

pub length_joined : {X : Type 0} (lists : List (List X)) (i : ℕ) (d : List X) → i < length lists → length (flat_map (λ (xs : List X). xs) (drop i lists)) ≡ length (get_or lists i d) + length (flat_map (λ (xs : List X). xs) (drop (i + 1) lists))
length_joined {X} lists i d h =
    rw add-one (ap (λ (l : List (List X)). length (flat_map (λ (xs : List X). xs) l)) (drop-cons lists i d h) ∙ length-append (get_or lists i d) (flat_map (λ (xs : List X). xs) (drop (suc i) lists)))
