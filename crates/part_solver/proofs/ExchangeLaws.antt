-- Letters, move by move.
use Rattle.std.proofs.Common.{◌≡◌, ℕ, suc, ◌+◌, ◌<◌, ◌≤◌, Bool, true, false, cond, List, [], ◌∷◌, ◌++◌, drop, filter, length, get_or, map, set, take, arith, refl, sym, ap, ◌∙◌}
use Rattle.std.proofs.lemmas.List.{drop-drop, length-append, map-append, take-append-drop, take_more}
use Rattle.std.proofs.lemmas.List.Elements.{filter-append}
use Rattle.momenta.specs.declared.state.BodyState.{BodyState}
use Rattle.colour_solver.specs.States.{nobody}
use Rattle.part_runs.specs.Walks.{Move, goes, slots_between}
use Rattle.part_runs.specs.Handing.{bodies_at, left_by, let_go, taken_in}
use Rattle.part_solver.specs.Exchange.{own_walk, put_in}
use Rattle.part_solver.specs.declared.moves.BodyMove.{BodyMove}

abbrev pub as_move : BodyMove → Move
as_move m = record { slot = m.slot; from = m.from; to = m.to }

abbrev pub slot_of : Move → ℕ
slot_of m = m.slot

pub slots_more : (u v : ℕ) (moves more : List BodyMove) → slots_between u v (own_walk (moves ++ more)) ≡ slots_between u v (own_walk moves) ++ slots_between u v (own_walk more)
slots_more u v moves more =
    ap (λ (l : List Move). map slot_of (filter (goes u v) l)) (map-append as_move moves more)
    ∙ ap (map slot_of) (filter-append (goes u v) (map as_move moves) (map as_move more))
    ∙ map-append slot_of (filter (goes u v) (map as_move moves)) (filter (goes u v) (map as_move more))

pub slots_next : (u v i : ℕ) (moves : List BodyMove) (d : BodyMove) → i < length moves
    → slots_between u v (own_walk (take (i + 1) moves)) ≡ slots_between u v (own_walk (take i moves)) ++ slots_between u v (own_walk (get_or moves i d ∷ []))
slots_next u v i moves d lt = ap (λ (l : List BodyMove). slots_between u v (own_walk l)) (take_more moves i d lt) ∙ slots_more u v (take i moves) (get_or moves i d ∷ [])

pub left_then : (xs ys : List ℕ) (s : List BodyState) → left_by (xs ++ ys) s ≡ left_by ys (left_by xs s)
left_then [] ys s = refl
left_then (x ∷ xs) ys s = left_then xs ys (set s x nobody)

pub given_then : (xs ys : List ℕ) (s : List BodyState) → let_go (xs ++ ys) s ≡ let_go xs s ++ let_go ys (left_by xs s)
given_then [] ys s = refl
given_then (x ∷ xs) ys s = ap (λ (l : List BodyState). get_or s x nobody ∷ l) (given_then xs ys (set s x nobody))

pub put_then : (xs ys : List ℕ) (bodies s : List BodyState) → put_in (xs ++ ys) bodies s ≡ put_in ys (drop (length xs) bodies) (put_in xs bodies s)
put_then [] ys bodies s = refl
put_then (x ∷ xs) ys bodies s =
    put_then xs ys (drop 1 bodies) (set s x (get_or bodies 0 nobody))
    ∙ ap (λ (l : List BodyState). put_in ys l (put_in xs (drop 1 bodies) (set s x (get_or bodies 0 nobody)))) (drop-drop (length xs) 1 bodies ∙ ap (λ (n : ℕ). drop n bodies) (let way : 1 + length xs ≡ length (x ∷ xs) = omega arith in way))

-- bodies that come from one list of all
pub put_all : (slots : List ℕ) (all s : List BodyState) → put_in slots (bodies_at all slots) s ≡ taken_in slots all s
put_all [] all s = refl
put_all (x ∷ slots) all s = put_all slots all (set s x (get_or all x nobody))

-- ---- how many there are

one_few : (b : Bool) (m : Move) → length (map slot_of (cond b (m ∷ []) [])) ≤ 1
one_few true m = omega arith
one_few false m = omega arith

pub slots_one : (u v : ℕ) (m : BodyMove) → length (slots_between u v (own_walk (m ∷ []))) ≤ 1
slots_one u v m = one_few (goes u v (as_move m)) (as_move m)

pub slots_fit : (u v i : ℕ) (moves : List BodyMove) (d : BodyMove) → i < length moves
    → length (slots_between u v (own_walk (take i moves))) + length (slots_between u v (own_walk (get_or moves i d ∷ []))) ≤ length (slots_between u v (own_walk moves))
slots_fit u v i moves d lt =
    let front = slots_between u v (own_walk (take i moves)) in
    let here = slots_between u v (own_walk (get_or moves i d ∷ [])) in
    let behind = slots_between u v (own_walk (drop (i + 1) moves)) in
    let whole : slots_between u v (own_walk moves) ≡ (front ++ here) ++ behind =
    ap (λ (l : List BodyMove). slots_between u v (own_walk l)) (sym (take-append-drop (i + 1) moves)) ∙ slots_more u v (take (i + 1) moves) (drop (i + 1) moves) ∙ ap (λ (l : List ℕ). l ++ behind) (slots_next u v i moves d lt) in
    let long : length (slots_between u v (own_walk moves)) ≡ length ((front ++ here) ++ behind) = ap length whole in
    let all = length-append (front ++ here) behind in
    let both = length-append front here in
    omega (arith, long, all, both)

pub given_long : (slots : List ℕ) (s : List BodyState) → length (let_go slots s) ≡ length slots
given_long [] s = refl
given_long (x ∷ slots) s = ap suc (given_long slots (set s x nobody))
