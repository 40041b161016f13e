-- Bodies that are handed on as a walk says: each part has then those that are with it.
use Rattle.std.proofs.Common.{◌≡◌, ◌≢◌, ℕ, zero, suc, ◌<◌, Bool, true, false, cond, List, [], ◌∷◌, length, map, get_or, set, take, arith, refl, sym, ap, ◌∙◌, subst, inl, inr}
use Rattle.std.specs.Prelude.{nat_eq, filter, All}
use Rattle.std.proofs.lemmas.Bool.{and_from, and_parts, cases_eq, eq-eqb, eqb-true, ne_eqb}
use Rattle.std.proofs.lemmas.List.{ext_get_or, get_or-set_other, get_or-set_same, length-set}
use Rattle.std.proofs.lemmas.List.Elements.{All-cons, All-head, All-nil, All-tail}
use Rattle.momenta.specs.declared.state.BodyState.{BodyState}
use Rattle.colour_solver.specs.Colour.{is_mover}
use Rattle.colour_solver.specs.States.{nobody}
use Rattle.part_runs.specs.Hidden.{SameMovers, hidden, part_at, seen}
use Rattle.part_runs.specs.Walks.{IsMoved, IsWalk, Move, Walk, goes, slots_between}
use Rattle.part_runs.specs.Handing.{left_by, left_for, taken_from, taken_in}
use Rattle.part_runs.proofs.HiddenLaws.{get-hidden, length-hidden_from, seen_own}
use Rattle.part_runs.proofs.ListLaws.{among, among_all}

-- ---- whether a slot is in a list

pub among_none : (slots : List ℕ) (i j : ℕ) → ((k : ℕ) → k < i → k < length slots → get_or slots k 0 ≢ j) → among (take i slots) j ≡ false
among_none slots zero j differ = refl
among_none [] (suc i) j differ = refl
among_none (slot ∷ slots) (suc i) j differ =
    ap (λ t. cond t true (among (take i slots) j)) (ne_eqb slot j (differ zero (omega arith) (omega arith))) ∙ among_none slots i j (λ k lt within. differ (suc k) (omega (arith, lt)) (omega (arith, within)))

-- ---- bodies let go

set_same_nobody : (ss : List BodyState) (slot : ℕ) → get_or (set ss slot nobody) slot nobody ≡ nobody
set_same_nobody [] slot = refl
set_same_nobody (s ∷ ss) zero = refl
set_same_nobody (s ∷ ss) (suc slot) = set_same_nobody ss slot

set_nobody : (ss : List BodyState) (slot j : ℕ) → get_or (set ss slot nobody) j nobody ≡ cond (nat_eq slot j) nobody (get_or ss j nobody)
set_nobody ss slot j = elim (cases_eq slot j) [
  | inl same ↦ ap (λ (i : ℕ). get_or (set ss slot nobody) i nobody) (sym same) ∙ set_same_nobody ss slot ∙ sym (ap (λ t. cond t nobody (get_or ss j nobody)) (eq-eqb slot j same))
  | inr differ ↦ get_or-set_other ss slot j nobody nobody (λ e. differ (sym e)) ∙ sym (ap (λ t. cond t nobody (get_or ss j nobody)) (ne_eqb slot j differ))
]

either_if : {X : Type 0} (t u : Bool) (x y : X) → cond u x (cond t x y) ≡ cond (cond t true u) x y
either_if true true x y = refl
either_if true false x y = refl
either_if false true x y = refl
either_if false false x y = refl

pub get-left_by : (slots : List ℕ) (ss : List BodyState) (j : ℕ) → get_or (left_by slots ss) j nobody ≡ cond (among slots j) nobody (get_or ss j nobody)
get-left_by [] ss j = refl
get-left_by (slot ∷ slots) ss j =
    get-left_by slots (set ss slot nobody) j ∙ ap (λ (s : BodyState). cond (among slots j) nobody s) (set_nobody ss slot j) ∙ either_if (nat_eq slot j) (among slots j) nobody (get_or ss j nobody)

length-left_by : (slots : List ℕ) (ss : List BodyState) → length (left_by slots ss) ≡ length ss
length-left_by [] ss = refl
length-left_by (slot ∷ slots) ss = length-left_by slots (set ss slot nobody) ∙ length-set ss slot nobody

-- whether the part k lets the body in the slot j go to one of the parts below m
abbrev pub leaves : ℕ → ℕ → Walk → ℕ → Bool
leaves zero k w j = false
leaves (suc v) k w j = cond (leaves v k w j) true (among (slots_between k v w) j)

pub get-left_for : (m k : ℕ) (w : Walk) (ss : List BodyState) (j : ℕ) → get_or (left_for m k w ss) j nobody ≡ cond (leaves m k w j) nobody (get_or ss j nobody)
get-left_for zero k w ss j = refl
get-left_for (suc v) k w ss j =
    get-left_by (slots_between k v w) (left_for v k w ss) j ∙ ap (λ (s : BodyState). cond (among (slots_between k v w) j) nobody s) (get-left_for v k w ss j)
    ∙ either_if (leaves v k w j) (among (slots_between k v w) j) nobody (get_or ss j nobody)

length-left_for : (m k : ℕ) (w : Walk) (ss : List BodyState) → length (left_for m k w ss) ≡ length ss
length-left_for zero k w ss = refl
length-left_for (suc v) k w ss = length-left_by (slots_between k v w) (left_for v k w ss) ∙ length-left_for v k w ss

-- ---- bodies taken in

set_back : (all ss : List BodyState) (slot j : ℕ) → j < length ss → get_or (set ss slot (get_or all slot nobody)) j nobody ≡ cond (nat_eq slot j) (get_or all j nobody) (get_or ss j nobody)
set_back all ss slot j within = elim (cases_eq slot j) [
  | inl same ↦ subst (λ (i : ℕ). get_or (set ss slot (get_or all slot nobody)) i nobody ≡ cond (nat_eq slot i) (get_or all i nobody) (get_or ss i nobody)) same
      (get_or-set_same ss slot (get_or all slot nobody) nobody (omega (arith, within, same)) ∙ sym (ap (λ t. cond t (get_or all slot nobody) (get_or ss slot nobody)) (eq-eqb slot slot refl)))
  | inr differ ↦ get_or-set_other ss slot j (get_or all slot nobody) nobody (λ e. differ (sym e)) ∙ sym (ap (λ t. cond t (get_or all j nobody) (get_or ss j nobody)) (ne_eqb slot j differ))
]

get-taken_in : (slots : List ℕ) (all ss : List BodyState) (j : ℕ) → j < length ss → get_or (taken_in slots all ss) j nobody ≡ cond (among slots j) (get_or all j nobody) (get_or ss j nobody)
get-taken_in [] all ss j within = refl
get-taken_in (slot ∷ slots) all ss j within =
    let now : List BodyState = set ss slot (get_or all slot nobody) in
    let long : length now ≡ length ss = length-set ss slot (get_or all slot nobody) in
    get-taken_in slots all now j (omega (arith, within, long)) ∙ ap (λ (s : BodyState). cond (among slots j) (get_or all j nobody) s) (set_back all ss slot j within)
    ∙ either_if (nat_eq slot j) (among slots j) (get_or all j nobody) (get_or ss j nobody)

length-taken_in : (slots : List ℕ) (all ss : List BodyState) → length (taken_in slots all ss) ≡ length ss
length-taken_in [] all ss = refl
length-taken_in (slot ∷ slots) all ss = length-taken_in slots all (set ss slot (get_or all slot nobody)) ∙ length-set ss slot (get_or all slot nobody)

-- whether the part k takes the body in the slot j from one of the parts below m
abbrev comes : ℕ → ℕ → Walk → ℕ → Bool
comes zero k w j = false
comes (suc u) k w j = cond (comes u k w j) true (among (slots_between u k w) j)

length-taken_from : (m k : ℕ) (w : Walk) (all ss : List BodyState) → length (taken_from m k w all ss) ≡ length ss
length-taken_from zero k w all ss = refl
length-taken_from (suc u) k w all ss = length-taken_in (slots_between u k w) all (taken_from u k w all ss) ∙ length-taken_from u k w all ss

get-taken_from : (m k : ℕ) (w : Walk) (all ss : List BodyState) (j : ℕ) → j < length ss → get_or (taken_from m k w all ss) j nobody ≡ cond (comes m k w j) (get_or all j nobody) (get_or ss j nobody)
get-taken_from zero k w all ss j within = refl
get-taken_from (suc u) k w all ss j within =
    let long = length-taken_from u k w all ss in
    get-taken_in (slots_between u k w) all (taken_from u k w all ss) j (omega (arith, within, long)) ∙ ap (λ (s : BodyState). cond (among (slots_between u k w) j) (get_or all j nobody) s) (get-taken_from u k w all ss j within)
    ∙ either_if (comes u k w j) (among (slots_between u k w) j) (get_or all j nobody) (get_or ss j nobody)

-- ---- who moves

-- the body in the slot j moves from the part u to the part v
pub record IsGone (states : List BodyState) (before after : List ℕ) (u v j : ℕ) : Type 0 where
  pub within : j < length states
  pub mover : is_mover states j ≡ true
  pub from : part_at before j ≡ u
  pub to : part_at after j ≡ v
  pub other : u ≢ v

gone_if : (states : List BodyState) (before after : List ℕ) (u v : ℕ) (t : Bool) (m : Move) (slots : List ℕ) → goes u v m ≡ t → IsMoved states before after m → All (IsGone states before after u v) slots
    → (filtered : List Move) → slots ≡ map (λ (x : Move). x.slot) filtered → All (IsGone states before after u v) (map (λ (x : Move). x.slot) (cond t (m ∷ filtered) filtered))
gone_if states before after u v true m slots is moved all filtered e =
    let both = and_parts (nat_eq m.from u) (nat_eq m.to v) is in
    let from : m.from ≡ u = eqb-true m.from u both.0 in
    let to : m.to ≡ v = eqb-true m.to v both.1 in
    All-cons (IsGone states before after u v) m.slot (map (λ (x : Move). x.slot) filtered)
    (record { within = moved.within; mover = moved.mover; from = sym moved.from ∙ from; to = sym moved.to ∙ to; other = λ same. moved.other (from ∙ same ∙ sym to) })
    (subst (All (IsGone states before after u v)) e all)
gone_if states before after u v false m slots is moved all filtered e = subst (All (IsGone states before after u v)) e all

gone : (states : List BodyState) (before after : List ℕ) (u v : ℕ) (moves : List Move) → All (IsMoved states before after) moves → All (IsGone states before after u v) (map (λ (x : Move). x.slot) (filter (goes u v) moves))
gone states before after u v [] all = All-nil (IsGone states before after u v)
gone states before after u v (m ∷ moves) all =
    gone_if states before after u v (goes u v m) m (map (λ (x : Move). x.slot) (filter (goes u v) moves)) refl (All-head (IsMoved states before after) m moves all)
    (gone states before after u v moves (All-tail (IsMoved states before after) m moves all)) (filter (goes u v) moves) refl

-- who goes from u to v is among those
there_if : (u v j : ℕ) (t : Bool) (m : Move) (moves : List Move) → goes u v m ≡ t → (m.slot ≡ j → goes u v m ≡ true) → (among (map (λ (x : Move). x.slot) (filter (goes u v) moves)) j ≡ false → All (λ (x : Move). x.slot ≢ j) moves)
    → among (map (λ (x : Move). x.slot) (cond t (m ∷ filter (goes u v) moves) (filter (goes u v) moves))) j ≡ false → All (λ (x : Move). x.slot ≢ j) (m ∷ moves)
there_if u v j true m moves is here rest none = elim (cases_eq m.slot j) [
  | inl same ↦ absurd (cc (sym (ap (λ t. cond t true (among (map (λ (x : Move). x.slot) (filter (goes u v) moves)) j)) (eq-eqb m.slot j same)) ∙ none))
  | inr differ ↦ All-cons (λ (x : Move). x.slot ≢ j) m moves differ (rest (sym (ap (λ t. cond t true (among (map (λ (x : Move). x.slot) (filter (goes u v) moves)) j)) (ne_eqb m.slot j differ)) ∙ none))
]
there_if u v j false m moves is here rest none = All-cons (λ (x : Move). x.slot ≢ j) m moves (λ same. absurd (cc (sym is ∙ here same))) (rest none)

none_there : (states : List BodyState) (before after : List ℕ) (u v j : ℕ) (moves : List Move) → part_at before j ≡ u → part_at after j ≡ v → All (IsMoved states before after) moves
    → among (map (λ (x : Move). x.slot) (filter (goes u v) moves)) j ≡ false → All (λ (m : Move). m.slot ≢ j) moves
none_there states before after u v j [] from to all none = All-nil (λ (m : Move). m.slot ≢ j)
none_there states before after u v j (m ∷ moves) from to all none =
    let moved : IsMoved states before after m = All-head (IsMoved states before after) m moves all in
    there_if u v j (goes u v m) m moves refl
    (λ same. and_from (nat_eq m.from u) (nat_eq m.to v) (eq-eqb m.from u (moved.from ∙ ap (part_at before) same ∙ from)) (eq-eqb m.to v (moved.to ∙ ap (part_at after) same ∙ to)))
    (none_there states before after u v j moves from to (All-tail (IsMoved states before after) m moves all)) none

module _ (n : ℕ) (states : List BodyState) (before : List ℕ) (w : Walk) (is : IsWalk n states before w) where
  pub gone_between : (u v : ℕ) → All (IsGone states before w.at u v) (slots_between u v w)
  gone_between u v = gone states before w.at u v w.moves is.moved

  pub is_gone : (u v j : ℕ) → among (slots_between u v w) j ≡ true → IsGone states before w.at u v j
  is_gone u v j there = among_all (IsGone states before w.at u v) (slots_between u v w) j (gone_between u v) there

  -- who isn't among those that go is where it was
  stays : (u v j : ℕ) → part_at before j ≡ u → part_at w.at j ≡ v → among (slots_between u v w) j ≡ false → part_at w.at j ≡ part_at before j
  stays u v j from to none = is.still j (none_there states before w.at u v j w.moves from to is.moved none)

  leaves_if : (P : Type 0) (t r : Bool) → (t ≡ true → P) → (r ≡ true → P) → cond t true r ≡ true → P
  leaves_if P true r h k e = h refl
  leaves_if P false r h k e = k e

  -- who leaves the part k, and who comes to it
  record IsLeaving (k j : ℕ) : Type 0 where
    mover : is_mover states j ≡ true
    from : part_at before j ≡ k
    away : part_at w.at j ≢ k

  record IsComing (k j : ℕ) : Type 0 where
    mover : is_mover states j ≡ true
    to : part_at w.at j ≡ k

  leaving : (m k j : ℕ) → leaves m k w j ≡ true → IsLeaving k j
  leaving zero k j there = absurd (cc there)
  leaving (suc v) k j there =
      leaves_if (IsLeaving k j) (leaves v k w j) (among (slots_between k v w) j) (leaving v k j)
      (λ among_those. let g = is_gone k v j among_those in record { mover = g.mover; from = g.from; away = λ e. g.other (sym e ∙ g.to) }) there

  coming : (m k j : ℕ) → comes m k w j ≡ true → IsComing k j
  coming zero k j there = absurd (cc there)
  coming (suc u) k j there =
      leaves_if (IsComing k j) (comes u k w j) (among (slots_between u k w) j) (coming u k j)
      (λ among_those. let g = is_gone u k j among_those in record { mover = g.mover; to = g.to }) there

  false_first : (t r : Bool) → cond t true r ≡ false → t ≡ false
  false_first true r e = e
  false_first false r e = refl

  false_second : (t r : Bool) → cond t true r ≡ false → r ≡ false
  false_second true r e = absurd (cc e)
  false_second false r e = e

  -- who doesn't leave
  not_leaving : (m k v j : ℕ) → v < m → leaves m k w j ≡ false → among (slots_between k v w) j ≡ false
  not_leaving zero k v j lt none = absurd (omega (arith, lt))
  not_leaving (suc m) k v j lt none = elim (cases_eq v m) [
    | inl same ↦ subst (λ (x : ℕ). among (slots_between k x w) j ≡ false) (sym same) (false_second (leaves m k w j) (among (slots_between k m w) j) none)
    | inr differ ↦ not_leaving m k v j (omega (arith, lt, differ)) (false_first (leaves m k w j) (among (slots_between k m w) j) none)
  ]

  not_coming : (m k u j : ℕ) → u < m → comes m k w j ≡ false → among (slots_between u k w) j ≡ false
  not_coming zero k u j lt none = absurd (omega (arith, lt))
  not_coming (suc m) k u j lt none = elim (cases_eq u m) [
    | inl same ↦ subst (λ (x : ℕ). among (slots_between x k w) j ≡ false) (sym same) (false_second (comes m k w j) (among (slots_between m k w) j) none)
    | inr differ ↦ not_coming m k u j (omega (arith, lt, differ)) (false_first (comes m k w j) (among (slots_between m k w) j) none)
  ]

  -- whoever neither leaves the part k nor comes to it is as much with it as before
  same_part : (k j : ℕ) → part_at before j < n → leaves n k w j ≡ false → comes n k w j ≡ false → nat_eq (part_at w.at j) k ≡ nat_eq (part_at before j) k
  same_part k j below no_leave no_come = elim (cases_eq (part_at before j) k) [
    | inl here ↦
        let still : part_at w.at j ≡ part_at before j = stays k (part_at w.at j) j here refl (not_leaving n k (part_at w.at j) j (is.below j) no_leave) in
        ap (λ (q : ℕ). nat_eq q k) still
    | inr away ↦ elim (cases_eq (part_at w.at j) k) [
      | inl comes_here ↦ ap (λ (q : ℕ). nat_eq q k) (stays (part_at before j) k j refl comes_here (not_coming n k (part_at before j) j below no_come))
      | inr elsewhere ↦ ne_eqb (part_at w.at j) k elsewhere ∙ sym (ne_eqb (part_at before j) k away)
    ]
  ]

  module _ (all : List BodyState) (same : SameMovers states all) (below : (slot : ℕ) → part_at before slot < n) where
    moves_now : (j : ℕ) → is_mover states j ≡ true → (get_or all j nobody).movable ≡ true
    moves_now j mover = same j ∙ mover

    gone_from : (k j : ℕ) → IsLeaving k j → nobody ≡ seen (part_at w.at) k j (get_or all j nobody)
    gone_from k j l = λ i. cond (sym (moves_now j l.mover) i) (cond (sym (ne_eqb (part_at w.at j) k l.away) i) (get_or all j nobody) nobody) (get_or all j nobody)

    come_to : (k j : ℕ) → IsComing k j → get_or all j nobody ≡ seen (part_at w.at) k j (get_or all j nobody)
    come_to k j c = sym (seen_own (part_at w.at) k j (get_or all j nobody) (λ m. eq-eqb (part_at w.at j) k c.to))

    body_if : (k j : ℕ) (l c : Bool) → leaves n k w j ≡ l → comes n k w j ≡ c
        → cond c (get_or all j nobody) (cond l nobody (seen (part_at before) k j (get_or all j nobody))) ≡ seen (part_at w.at) k j (get_or all j nobody)
    body_if k j l true leave come = come_to k j (coming n k j come)
    body_if k j true false leave come = gone_from k j (leaving n k j leave)
    body_if k j false false leave come =
        let s : BodyState = get_or all j nobody in
        ap (λ (t : Bool). cond s.movable (cond t s nobody) s) (sym (same_part k j (below j) leave come))

    -- slot by slot
    handed_at : (k j : ℕ) → j < length all → get_or (taken_from n k w all (left_for n k w (hidden (part_at before) k all))) j nobody ≡ get_or (hidden (part_at w.at) k all) j nobody
    handed_at k j within =
        let mine : List BodyState = hidden (part_at before) k all in
        let left : List BodyState = left_for n k w mine in
        let long : length left ≡ length all = length-left_for n k w mine ∙ length-hidden_from (part_at before) k 0 all in
        get-taken_from n k w all left j (omega (arith, within, long))
        ∙ ap (λ (s : BodyState). cond (comes n k w j) (get_or all j nobody) s) (get-left_for n k w mine j ∙ ap (λ (s : BodyState). cond (leaves n k w j) nobody s) (get-hidden (part_at before) k all j))
        ∙ body_if k j (leaves n k w j) (comes n k w j) refl refl ∙ sym (get-hidden (part_at w.at) k all j)

    pub handed : (k : ℕ) → taken_from n k w all (left_for n k w (hidden (part_at before) k all)) ≡ hidden (part_at w.at) k all
    handed k =
        let mine : List BodyState = hidden (part_at before) k all in
        let left : List BodyState = left_for n k w mine in
        let now : List BodyState = taken_from n k w all left in
        let long : length now ≡ length all = length-taken_from n k w all left ∙ length-left_for n k w mine ∙ length-hidden_from (part_at before) k 0 all in
        ext_get_or nobody now (hidden (part_at w.at) k all) (long ∙ sym (length-hidden_from (part_at w.at) k 0 all)) (λ j within. handed_at k j (omega (arith, within, long)))
