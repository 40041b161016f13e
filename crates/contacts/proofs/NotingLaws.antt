-- Lists of what is noted, one more at a time.
use Rattle.std.proofs.Common.{◌≡◌, ℕ, ◌+◌, ◌<◌, List, [], ◌∷◌, ◌++◌, length, map, take, get_or, Option, None, Some, refl, sym, ap, ◌∙◌}
use Rattle.std.specs.List.{filter_map, cons_option}
use Rattle.std.specs.Option.{option_to_list}
use Rattle.std.proofs.lemmas.List.{append_assoc, map-append, take_more}
use Rattle.std.proofs.lemmas.List.Elements.{filter_map-append}

one_picked : {Y : Type 0} (o : Option Y) → cons_option o [] ≡ option_to_list o
one_picked None = refl
one_picked (Some y) = refl

-- what is picked of one more behind others
pub picks_step : {X Y : Type 0} (pick : X → Option Y) (xs : List X) (k : ℕ) (x d : X) (o : Option Y) (first ys more : List Y) → k < length xs → x ≡ get_or xs k d → o ≡ pick x → ys ≡ first ++ filter_map pick (take k xs) → more ≡ ys ++ option_to_list o → more ≡ first ++ filter_map pick (take (k + 1) xs)
picks_step {X} {Y} pick xs k x d o first ys more lt is so was added =
    added
    ∙ ap (λ (l : List Y). l ++ option_to_list o) was
    ∙ append_assoc first (filter_map pick (take k xs)) (option_to_list o)
    ∙ ap (λ (l : List Y). first ++ l)
    (ap (λ (p : Option Y). filter_map pick (take k xs) ++ option_to_list p) so
    ∙ ap (λ (l : List Y). filter_map pick (take k xs) ++ l) (sym (one_picked (pick x)))
    ∙ sym (filter_map-append pick (take k xs) (x ∷ []))
    ∙ ap (λ (z : X). filter_map pick (take k xs ++ z ∷ [])) is
    ∙ ap (filter_map pick) (sym (take_more xs k d lt)))

-- what becomes of one more
pub map_step : {X Y : Type 0} (f : X → Y) (xs : List X) (k : ℕ) (x d : X) (y : Y) (ys more : List Y) → k < length xs → x ≡ get_or xs k d → y ≡ f x → ys ≡ map f (take k xs) → more ≡ ys ++ y ∷ [] → more ≡ map f (take (k + 1) xs)
map_step {X} {Y} f xs k x d y ys more lt is so was added =
    added
    ∙ ap (λ (l : List Y). l ++ y ∷ []) was
    ∙ ap (λ (z : Y). map f (take k xs) ++ z ∷ []) so
    ∙ sym (map-append f (take k xs) (x ∷ []))
    ∙ ap (λ (z : X). map f (take k xs ++ z ∷ [])) is
    ∙ ap (map f) (sym (take_more xs k d lt))
