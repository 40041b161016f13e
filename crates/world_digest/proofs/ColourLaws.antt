-- Constraints that are told colour after colour.
use Rattle.std.proofs.Common.{◌≡◌, ℕ, ◌+◌, List, [], ◌∷◌, ◌++◌, ◌∙◌, add-one, ap, ap₂, flat_map, map, refl, sym}
use Rattle.std.proofs.Math.ListN.{get_or-map}
use Rattle.std.proofs.lemmas.List.{length-map}
use Rattle.plain_world.specs.declared.constraint.Constraint.{Constraint}
use Rattle.graph_colours.specs.Colours.{ids_of, list_at}
use Rattle.graph_colours.specs.declared.member.Member.{Member}
use Rattle.plain_world.specs.KeptColours.{members_at}
use Rattle.world_digest.specs.ConstraintWords.{colours_words, constraint_words}
use Rattle.world_digest.specs.Sums.{absorbed_all, list_words}
use Rattle.world_digest.specs.declared.sums.Sums.{Sums}
use Rattle.world_digest.proofs.SumLaws.{fed_both}

-- what is told of each by another is told of the others
words_map : {S T : Type 0} (words : T → List ℕ) (f : S → T) (xs : List S) → list_words (λ x. words (f x)) xs ≡ list_words words (map f xs)
words_map words f xs = ap₂ (λ (n : ℕ) (ws : List ℕ). n ∷ ws) (sym (length-map xs f)) (each words f xs)
  where
    each : {S T : Type 0} (words : T → List ℕ) (f : S → T) (xs : List S) → flat_map (λ x. words (f x)) xs ≡ flat_map words (map f xs)
    each words f [] = refl
    each words f (x ∷ xs) = ap (λ (ws : List ℕ). words (f x) ++ ws) (each words f xs)

-- one colour more
pub colour_fed : (lists : List (List (Member Constraint))) (k : ℕ) (s t u : Sums) → t ≡ absorbed_all s (colours_words (ids_of lists) k) → u ≡ absorbed_all t (list_words (λ m. constraint_words m.id) (list_at lists k)) → u ≡ absorbed_all s (colours_words (ids_of lists) (k + 1))
colour_fed lists k s t u known fed =
    let ids : List Constraint = members_at (ids_of lists) k in
    let at : ids ≡ map (λ (m : Member Constraint). m.id) (list_at lists k) = get_or-map (λ (ms : List (Member Constraint)). map (λ (m : Member Constraint). m.id) ms) lists k [] in
    let told : u ≡ absorbed_all t (list_words constraint_words ids) =
    fed ∙ ap (λ (ws : List ℕ). absorbed_all t ws) (words_map constraint_words (λ (m : Member Constraint). m.id) (list_at lists k) ∙ ap (λ (l : List Constraint). list_words constraint_words l) (sym at)) in
    rw add-one (fed_both s t u (colours_words (ids_of lists) k) (list_words constraint_words ids) known told)
