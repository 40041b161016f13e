-- What a part sends: each body is there when its turn comes.
use Rattle.std.proofs.Common.{◌≡◌, ◌≢◌, ℕ, zero, suc, ◌<◌, true, false, cond, List, [], ◌∷◌, length, get_or, set, take, arith, refl, sym, ap, ap₂, ◌∙◌}
use Rattle.std.specs.Prelude.{filter}
use Rattle.std.proofs.lemmas.Bool.{eq-eqb, false_from_ne_true}
use Rattle.std.proofs.lemmas.List.Elements.{All-weaker}
use Rattle.std.proofs.lemmas.List.Kept.{AllPairs-filter}
use Rattle.momenta.specs.declared.state.BodyState.{BodyState}
use Rattle.colour_solver.specs.States.{nobody}
use Rattle.part_runs.specs.Hidden.{SameMovers, hidden, part_at}
use Rattle.part_runs.specs.Walks.{IsWalk, Move, Walk, goes, slots_between}
use Rattle.part_runs.specs.Handing.{IsHandedOn, IsSent, bodies_at, left_by, left_for, let_go, put_in, taken_in}
use Rattle.part_runs.proofs.HandLaws.{IsGone, among_none, get-left_by, get-left_for, gone_between, handed, is_gone, leaves}
use Rattle.part_runs.proofs.HiddenLaws.{get-hidden, seen_own}
use Rattle.part_runs.proofs.ListLaws.{among, get_or-mapped, length_mapped}

-- the bodies that are let go are those of the letter
let_go_is : (slots : List ℕ) (all ss : List BodyState) → ((i : ℕ) → i < length slots → get_or (left_by (take i slots) ss) (get_or slots i 0) nobody ≡ get_or all (get_or slots i 0) nobody) → let_go slots ss ≡ bodies_at all slots
let_go_is [] all ss each = refl
let_go_is (slot ∷ slots) all ss each = ap₂ (λ (b : BodyState) (l : List BodyState). b ∷ l) (each zero (omega arith)) (let_go_is slots all (set ss slot nobody) (λ i lt. each (suc i) (omega (arith, lt))))

put_in_is : (slots : List ℕ) (all ss : List BodyState) → put_in slots (bodies_at all slots) ss ≡ taken_in slots all ss
put_in_is [] all ss = refl
put_in_is (slot ∷ slots) all ss = put_in_is slots all (set ss slot (get_or all slot nobody))

no_move : Move
no_move = record { slot = 0; from = 0; to = 0 }

module _ (n : ℕ) (states : List BodyState) (before : List ℕ) (w : Walk) (is : IsWalk n states before w) where
  -- no slot is sent twice
  once_between : (u v i j : ℕ) → i < j → j < length (slots_between u v w) → get_or (slots_between u v w) i 0 ≢ get_or (slots_between u v w) j 0
  once_between u v i j lt within e =
      let moves : List Move = filter (goes u v) w.moves in
      let slot : Move → ℕ = λ (m : Move). m.slot in
      let long : length (slots_between u v w) ≡ length moves = length_mapped slot moves in
      let at_i : get_or (slots_between u v w) i 0 ≡ (get_or moves i no_move).slot = get_or-mapped slot moves i no_move 0 (omega (arith, lt, within, long)) in
      let at_j : get_or (slots_between u v w) j 0 ≡ (get_or moves j no_move).slot = get_or-mapped slot moves j no_move 0 (omega (arith, within, long)) in
      AllPairs-filter (λ (m o : Move). m.slot ≢ o.slot) (goes u v) w.moves is.once i j no_move lt (omega (arith, within, long)) (sym at_i ∙ e ∙ at_j)

  -- what goes to v hasn't gone to another part
  not_left : (m u v j : ℕ) → ((x : ℕ) → x < m → x ≢ v) → IsGone states before w.at u v j → leaves m u w j ≡ false
  not_left zero u v j others g = refl
  not_left (suc x) u v j others g =
      ap (λ t. cond t true (among (slots_between u x w) j)) (not_left x u v j (λ y lt. others y (omega (arith, lt))) g)
      ∙ false_from_ne_true (among (slots_between u x w) j) (λ there. others x (omega arith) (sym (is_gone n states before w is u x j there).to ∙ g.to))

  module _ (all : List BodyState) where
    own_there : (u v i : ℕ) → i < length (slots_between u v w) →
        get_or (left_by (take i (slots_between u v w)) (left_for v u w (hidden (part_at before) u all))) (get_or (slots_between u v w) i 0) nobody ≡ get_or all (get_or (slots_between u v w) i 0) nobody
    own_there u v i within =
        let slots : List ℕ = slots_between u v w in
        let slot : ℕ = get_or slots i 0 in
        let mine : List BodyState = hidden (part_at before) u all in
        let g : IsGone states before w.at u v slot = gone_between n states before w is u v i 0 within in
        let here : among (take i slots) slot ≡ false = among_none slots i slot (λ k lt inside. once_between u v k i lt within) in
        let there : leaves v u w slot ≡ false = not_left v u v slot (λ x lt e. omega (arith, lt, e)) g in
        get-left_by (take i slots) (left_for v u w mine) slot ∙ ap (λ t. cond t nobody (get_or (left_for v u w mine) slot nobody)) here
        ∙ get-left_for v u w mine slot ∙ ap (λ t. cond t nobody (get_or mine slot nobody)) there
        ∙ get-hidden (part_at before) u all slot ∙ seen_own (part_at before) u slot (get_or all slot nobody) (λ m. eq-eqb (part_at before slot) u g.from)

    sent : length all ≡ length states → (u v : ℕ) → IsSent before w all u v
    sent long u v = record {
      within = All-weaker (IsGone states before w.at u v) (λ slot. slot < length all) (λ slot g. let inside = g.within in omega (arith, inside, long)) (slots_between u v w) (gone_between n states before w is u v);
      own = own_there u v;
      letter_is = let_go_is (slots_between u v w) all (left_for v u w (hidden (part_at before) u all)) (own_there u v);
      put = λ states. put_in_is (slots_between u v w) all states;
    }

    pub handed_on : SameMovers states all → length all ≡ length states → ((slot : ℕ) → part_at before slot < n) → IsHandedOn n before w all
    handed_on same long below = record { sent = sent long; bodies = handed n states before w is all same below }
