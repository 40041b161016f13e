-- How many constraints there are once one was placed or released.
use Rattle.std.proofs.Common.{◌≡◌, refl, ℕ, suc, ◌+◌, ◌==◌, Bool, not, List, ◌∷◌, length, ap, arith}
use Rattle.std.specs.Prelude.{filter}
use Rattle.std.specs.List.{count_by}
use Rattle.std.proofs.lemmas.List.Filters.{length-filter_both}
use Rattle.std.proofs.lemmas.List.Sums.{length-filter}
use Rattle.std.proofs.lemmas.List.Sorted.{length_permutation}
use Rattle.graph_colours.specs.declared.member.Member.{Member}
use Rattle.graph_colours.specs.Members.{without_member}
use Rattle.graph_colours.specs.Colours.{all_members, with_placed, released, IsColouring}
use Rattle.graph_colours.proofs.OnceLemmas.{times}
use Rattle.graph_colours.proofs.ColouringLemmas.{placed_members, released_members}

pub placed_size : {C : Type 0} (number : C → ℕ) (m : Member C) (lists : List (List (Member C))) → IsColouring number lists → length (all_members (with_placed number m lists)) ≡ length (all_members lists) + 1
placed_size number m lists keeps =
    let e : length (all_members (with_placed number m lists)) ≡ suc (length (all_members lists)) = length_permutation (m ∷ all_members lists) (all_members (with_placed number m lists)) (placed_members number m lists keeps) in
    omega (arith, e)

without_size : {C : Type 0} (number : C → ℕ) (id : C) (ms : List (Member C)) → length (without_member number id ms) + times number id ms ≡ length ms
unfolding without_member
without_size {C} number id ms =
    let p : Member C → Bool = λ m. number m.id == number id in
    let q : Member C → Bool = λ m. not (number m.id == number id) in
    let both : length (filter p ms) + length (filter q ms) ≡ length ms = length-filter_both p q (λ x. refl) ms in
    let few : length (filter p ms) ≡ count_by p ms = length-filter p ms in
    omega (arith, both, few)

pub released_size : {C : Type 0} (number : C → ℕ) (id : C) (lists : List (List (Member C))) → length (all_members (released number id lists)) + times number id (all_members lists) ≡ length (all_members lists)
released_size {C} number id lists =
    let e : length (all_members (released number id lists)) ≡ length (without_member number id (all_members lists)) = ap (λ (ms : List (Member C)). length ms) (released_members number id lists) in
    let w : length (without_member number id (all_members lists)) + times number id (all_members lists) ≡ length (all_members lists) = without_size number id (all_members lists) in
    omega (arith, e, w)
