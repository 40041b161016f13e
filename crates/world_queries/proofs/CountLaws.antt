-- Colours that have a constraint are counted one by one.
use Rattle.std.proofs.Common.{◌≡◌, ℕ, suc, ◌+◌, ◌<◌, ◌==◌, Bool, true, false, cond, List, [], ◌∷◌, length, map, drop, slice_index_or, refl, ap, sym, ◌∙◌, subst, arith, true≢false}
use Rattle.std.proofs.lemmas.Bool.Decides.{nat_tests}
use Rattle.std.proofs.lemmas.List.{drop_more}
use Rattle.std.proofs.lemmas.List.Sums.{sum_by-cons}
use Rattle.std.specs.List.{count_by}
use Rattle.graph_colours.specs.Colours.{ids_of}
use Rattle.graph_colours.specs.declared.member.Member.{Member}
use Rattle.world_queries.specs.Counts.{has_some}

-- whether a colour has a constraint
abbrev pub has_member : {C : Type 0} → List (Member C) → Bool
has_member ms = has_some (map (λ m. m.id) ms)

suc_is_more : (n : ℕ) → (suc n == 0) ≡ true → ⊥
suc_is_more n e = grind (arith, nat_tests)

pub some_there : {C : Type 0} (ms : List (Member C)) → (length ms == 0) ≡ false → has_member ms ≡ true
some_there [] e = absurd (true≢false e)
some_there (m ∷ ms) e = refl

pub none_there : {C : Type 0} (ms : List (Member C)) → (length ms == 0) ≡ true → has_member ms ≡ false
none_there [] e = refl
none_there (m ∷ ms) e = absurd (suc_is_more (length ms) e)

count_front : {C : Type 0} (ms : List (Member C)) (rest : List (List (Member C))) (count all : ℕ) (t : Bool) → has_member ms ≡ t → count + count_by has_some (ids_of (ms ∷ rest)) ≡ all → (count + cond t 1 0) + count_by has_some (ids_of rest) ≡ all
count_front {C = C} ms rest count all t is known =
    let front : count + (cond t 1 0 + count_by has_some (ids_of rest)) ≡ all = subst (λ (b : Bool). count + (cond b 1 0 + count_by has_some (ids_of rest)) ≡ all) is (ap (λ (n : ℕ). count + n) (sym (sum_by-cons (λ ids. cond (has_some ids) 1 0) (map (λ m. m.id) ms) (ids_of rest))) ∙ known) in
    omega arith

-- the next colour is counted if it has a constraint
pub count_next : {C : Type 0} (lists : List (List (Member C))) (ms : List (Member C)) (k count all : ℕ) (t : Bool) → k < length lists → ms ≡ slice_index_or lists k [] → has_member ms ≡ t
    → count + count_by has_some (ids_of (drop k lists)) ≡ all
    → (count + cond t 1 0) + count_by has_some (ids_of (drop (k + 1) lists)) ≡ all
count_next {C = C} lists ms k count all t low at is known =
    count_front ms (drop (k + 1) lists) count all t is
    (subst (λ (l : List (Member C)). count + count_by has_some (ids_of (l ∷ drop (k + 1) lists)) ≡ all) (sym at)
    (subst (λ (l : List (List (Member C))). count + count_by has_some (ids_of l) ≡ all) (drop_more lists k [] low) known))
