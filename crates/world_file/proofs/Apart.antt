-- Ties from the last to the first: whose movers are taken, and whether no two of a colour share one.
use Rattle.std.proofs.Common.{◌≡◌, ℕ, suc, ◌+◌, ◌<◌, ◌&&◌, ◌||◌, Bool, true, false, not, cond, List, [], ◌∷◌, Option, Some, None, length, drop, get_or, refl, sym, ap, ◌∙◌, arith, drop-cons}
use Rattle.std.specs.Prelude.{slice_index_or}
use Rattle.std.proofs.lemmas.Bool.{false≢true}
use Rattle.std.proofs.lemmas.List.Folds.{list_any_none}
use Rattle.std.specs.List.{list_any}
use Rattle.std.specs.Option.{option_map_or}
use Rattle.graph_colours.specs.Members.{is_free}
use Rattle.graph_colours.specs.Movers.{has_mover}
use Rattle.graph_colours.specs.declared.member.Movers.{Movers}
use Rattle.graph_colours.specs.declared.member.Member.{Member}
use Rattle.graph_colours.proofs.Cases.{or_pairs}
use Rattle.plain_world.specs.declared.constraint.Constraint.{Constraint}
use Rattle.world_file.specs.Fitting.{share_no_mover, coloured, has_colour}
use Rattle.world_file.specs.Taken.{AreTaken, IsTieTaken, is_mover_taken, is_second_taken, is_unshared}
use Rattle.world_file.specs.declared.ties.Tie.{Tie}

-- a constraint is free where its movers aren't taken
any_or : {X : Type 0} (p q : X → Bool) (xs : List X) → list_any (λ x. p x || q x) xs ≡ (list_any p xs || list_any q xs)
any_or p q [] = refl
any_or p q (x ∷ xs) = ap (λ t. (p x || q x) || t) (any_or p q xs) ∙ or_pairs (p x) (q x) (list_any p xs) (list_any q xs)

second_taken : {C : Type 0} (ms : List (Member C)) (used : List Bool) (second : Option ℕ) → AreTaken ms used → list_any (λ m. option_map_or (has_mover m.movers) second false) ms ≡ is_second_taken used second
second_taken ms used None taken = list_any_none (λ m. false) ms (λ k d lt. refl)
second_taken ms used (Some s) taken = sym (taken s)

free_is_untaken : {C : Type 0} (ms : List (Member C)) (used : List Bool) (movers : Movers) → AreTaken ms used → not (is_mover_taken used movers) ≡ is_free ms movers
unfolding is_free
free_is_untaken ms used movers taken =
    let all : list_any (λ m. has_mover m.movers movers.first || option_map_or (has_mover m.movers) movers.second false) ms ≡ (list_any (λ m. has_mover m.movers movers.first) ms || list_any (λ m. option_map_or (has_mover m.movers) movers.second false) ms) = any_or (λ m. has_mover m.movers movers.first) (λ m. option_map_or (has_mover m.movers) movers.second false) ms in
    ap not (sym (all ∙ rw (second_taken ms used movers.second taken, taken movers.first) refl))

apart_by : (b : Bool) (t : Tie) (ms : List (Member Constraint)) (used : List Bool) → AreTaken ms used → (cond b (not (is_mover_taken used t.member.movers)) true && share_no_mover ms) ≡ share_no_mover (cond b (t.member ∷ ms) ms)
apart_by true t ms used taken = ap (λ x. x && share_no_mover ms) (free_is_untaken ms used t.member.movers taken)
apart_by false t ms used taken = refl

taken_by : (b : Bool) (t : Tie) (ms : List (Member Constraint)) (u : Bool) (s : ℕ) → u ≡ list_any (λ m. has_mover m.movers s) ms → cond b (has_mover t.member.movers s || u) u ≡ list_any (λ m. has_mover m.movers s) (cond b (t.member ∷ ms) ms)
taken_by true t ms u s h = ap (λ x. has_mover t.member.movers s || x) h
taken_by false t ms u s h = h

cut : (ties : List Tie) (k left : ℕ) (d : Tie) → k < length ties → k + 1 ≡ left → drop k ties ≡ get_or ties k d ∷ drop left ties
cut ties k left d short next =
    let at : drop k ties ≡ get_or ties k d ∷ drop (suc k) ties = drop-cons ties k d short in
    let here : suc k ≡ left = omega arith in
    at ∙ ap (λ n. get_or ties k d ∷ drop n ties) here

apart_step : (ties : List Tie) (colour k left : ℕ) (d : Tie) (used : List Bool) (apart : Bool) → k < length ties → k + 1 ≡ left → AreTaken (coloured (drop left ties) colour) used → apart ≡ share_no_mover (coloured (drop left ties) colour)
    → (is_unshared used colour (get_or ties k d) && apart) ≡ share_no_mover (coloured (drop k ties) colour)
apart_step ties colour k left d used apart short next taken e =
    let t : Tie = get_or ties k d in
    ap (λ x. is_unshared used colour t && x) e
    ∙ apart_by (has_colour colour t.colour) t (coloured (drop left ties) colour) used taken
    ∙ ap (λ ts. share_no_mover (coloured ts colour)) (sym (cut ties k left d short next))

by_true : (u apart whole : Bool) → u ≡ true → (u && apart) ≡ whole → apart ≡ whole
by_true true apart whole h e = e
by_true false apart whole h e = absurd (false≢true h)

by_false : (u apart whole : Bool) → u ≡ false → (u && apart) ≡ whole → u ≡ whole
by_false true apart whole h e = absurd (false≢true (sym h))
by_false false apart whole h e = e

pub apart_then : (ties : List Tie) (colour k left : ℕ) (d : Tie) (used : List Bool) (u apart : Bool) → k < length ties → k + 1 ≡ left → AreTaken (coloured (drop left ties) colour) used → apart ≡ share_no_mover (coloured (drop left ties) colour)
    → u ≡ is_unshared used colour (get_or ties k d) → u ≡ true → apart ≡ share_no_mover (coloured (drop k ties) colour)
apart_then ties colour k left d used u apart short next taken e is h = by_true u apart (share_no_mover (coloured (drop k ties) colour)) h (ap (λ x. x && apart) is ∙ apart_step ties colour k left d used apart short next taken e)

pub apart_else : (ties : List Tie) (colour k left : ℕ) (d : Tie) (used : List Bool) (u apart : Bool) → k < length ties → k + 1 ≡ left → AreTaken (coloured (drop left ties) colour) used → apart ≡ share_no_mover (coloured (drop left ties) colour)
    → u ≡ is_unshared used colour (get_or ties k d) → u ≡ false → u ≡ share_no_mover (coloured (drop k ties) colour)
apart_else ties colour k left d used u apart short next taken e is h = by_false u apart (share_no_mover (coloured (drop k ties) colour)) h (ap (λ x. x && apart) is ∙ apart_step ties colour k left d used apart short next taken e)

pub taken_step : (ties : List Tie) (colour k left : ℕ) (d : Tie) (used new : List Bool) → k < length ties → k + 1 ≡ left → AreTaken (coloured (drop left ties) colour) used → IsTieTaken colour (get_or ties k d) used new
    → AreTaken (coloured (drop k ties) colour) new
taken_step ties colour k left d used new short next taken more s =
    let t : Tie = get_or ties k d in
    more s
    ∙ taken_by (has_colour colour t.colour) t (coloured (drop left ties) colour) (slice_index_or used s false) s (taken s)
    ∙ ap (λ ts. list_any (λ (m : Member Constraint). has_mover m.movers s) (coloured ts colour)) (sym (cut ties k left d short next))
