-- What a walk does, where each body that is wanted goes to one part alone: it moves once, and is there afterwards.
use Rattle.std.proofs.Common.{◌≡◌, ◌≢◌, ℕ, zero, suc, ◌<◌, Bool, true, false, cond, List, [], ◌∷◌, ◌++◌, length, get_or, set, arith, refl, sym, ap, ◌∙◌, inl, inr}
use Rattle.std.specs.Prelude.{nat_eq, All, AllPairs}
use Rattle.std.proofs.lemmas.Bool.{cases_eq, eqb-false, eqb-true}
use Rattle.std.proofs.lemmas.List.{get_or-set_other, get_or-set_same, length-set}
use Rattle.std.proofs.lemmas.List.Elements.{All-cons, All-head, All-nil, All-push, All-tail}
use Rattle.std.proofs.lemmas.List.Quantifiers.{all_pairs_push}
use Rattle.momenta.specs.declared.state.BodyState.{BodyState}
use Rattle.colour_solver.specs.declared.constraint_row.ConstraintRow.{ConstraintRow}
use Rattle.colour_solver.specs.Colour.{is_mover}
use Rattle.colour_solver.specs.ConstraintVisits.{constraint_slots}
use Rattle.part_runs.specs.Hidden.{AreAt, ArePartsBelow, ArePlaced, IsAt, IsPlacedRow, part_at}
use Rattle.part_runs.specs.Walks.{IsMoved, IsWalk, Move, Walk, fetched, fetched_mover, row_fetched, setting_out, walk_home, walk_rows}

-- ---- lists

part-set : (at : List ℕ) (slot to s n : ℕ) → to < n → part_at at s < n → part_at (set at slot to) s < n
part-set [] slot to s n h k = k
part-set (x ∷ at) zero to zero n h k = h
part-set (x ∷ at) zero to (suc s) n h k = k
part-set (x ∷ at) (suc slot) to zero n h k = k
part-set (x ∷ at) (suc slot) to (suc s) n h k = part-set at slot to s n h k

all_before : {X : Type 0} (P : X → Type 0) (xs : List X) (x : X) → All P (xs ++ x ∷ []) → All P xs
all_before P [] x all = All-nil P
all_before P (y ∷ xs) x all = All-cons P y xs (All-head P y (xs ++ x ∷ []) all) (all_before P xs x (All-tail P y (xs ++ x ∷ []) all))

last_too : {X : Type 0} (P : X → Type 0) (xs : List X) (x : X) → All P (xs ++ x ∷ []) → P x
last_too P [] x all = All-head P x [] all
last_too P (y ∷ xs) x all = last_too P xs x (All-tail P y (xs ++ x ∷ []) all)

-- ---- a walk on its way

-- the bodies `states` go to where `aim` says, from where `before` says
pub record IsGoing (n : ℕ) (states : List BodyState) (before : List ℕ) (aim : ℕ → ℕ) (w : Walk) : Type 0 where
  pub long : length w.at ≡ length states
  pub below : ArePartsBelow (part_at w.at) n
  pub moved : All (IsMoved states before w.at) w.moves
  pub aimed : All (λ (m : Move). m.to ≡ aim m.slot) w.moves
  pub once : AllPairs (λ (m o : Move). m.slot ≢ o.slot) w.moves
  pub still : (slot : ℕ) → All (λ (m : Move). m.slot ≢ slot) w.moves → part_at w.at slot ≡ part_at before slot

-- a part of the way: what is where it shall be stays there
pub record IsFetched (n : ℕ) (states : List BodyState) (before : List ℕ) (aim : ℕ → ℕ) (w now : Walk) : Type 0 where
  pub going : IsGoing n states before aim now
  pub keeps : (slot : ℕ) → part_at w.at slot ≡ aim slot → part_at now.at slot ≡ aim slot

pub no_way : (n : ℕ) (states : List BodyState) (before : List ℕ) (aim : ℕ → ℕ) (w : Walk) → IsGoing n states before aim w → IsFetched n states before aim w w
no_way n states before aim w is = record { going = is; keeps = λ slot e. e }

pub way_on : (n : ℕ) (states : List BodyState) (before : List ℕ) (aim : ℕ → ℕ) (v w now : Walk) → IsFetched n states before aim v w → IsFetched n states before aim w now → IsFetched n states before aim v now
way_on n states before aim v w now one more = record { going = more.going; keeps = λ slot e. more.keeps slot (one.keeps slot e) }

pub going_first : (n : ℕ) (states : List BodyState) (before : List ℕ) (aim : ℕ → ℕ) → length before ≡ length states → ArePartsBelow (part_at before) n → IsGoing n states before aim (setting_out before)
going_first n states before aim long below = record {
  long = long;
  below = below;
  moved = All-nil (IsMoved states before before);
  aimed = All-nil (λ (m : Move). m.to ≡ aim m.slot);
  once = λ i j d lt within. absurd (omega (arith, within));
  still = λ slot none. refl;
}

-- ---- a body that is wanted

-- it moves from where it is
abbrev move_of : ℕ → ℕ → Walk → Move
move_of to slot w = record { slot = slot; from = part_at w.at slot; to = to }

abbrev with_move : ℕ → ℕ → Walk → Walk
with_move to slot w = record { at = set w.at slot to; moves = w.moves ++ move_of to slot w ∷ [] }

module _ (n : ℕ) (states : List BodyState) (before : List ℕ) (aim : ℕ → ℕ) (to slot : ℕ) (w : Walk) (within : slot < length states) (below : to < n) (aims : to ≡ aim slot) (is : IsGoing n states before aim w) where
  set_here : part_at (set w.at slot to) slot ≡ to
  set_here = get_or-set_same w.at slot to 0 (let long = is.long in omega (arith, within, long))

  set_other : (s : ℕ) → s ≢ slot → part_at (set w.at slot to) s ≡ part_at w.at s
  set_other s differ = get_or-set_other w.at slot s to 0 differ

  set_keeps : (s : ℕ) → part_at w.at s ≡ aim s → part_at (set w.at slot to) s ≡ aim s
  set_keeps s e = elim (cases_eq s slot) [
    | inl same ↦ ap (part_at (set w.at slot to)) same ∙ set_here ∙ aims ∙ ap aim (sym same)
    | inr differ ↦ set_other s differ ∙ e
  ]

  -- it hasn't moved yet
  not_yet : part_at w.at slot ≢ to → All (λ (m : Move). m.slot ≢ slot) w.moves
  not_yet ne k d lt e = ne (ap (part_at w.at) (sym e) ∙ sym ((is.moved k d lt).to) ∙ is.aimed k d lt ∙ ap aim e ∙ sym aims)

  still_moved : part_at w.at slot ≢ to → All (IsMoved states before (set w.at slot to)) w.moves
  still_moved ne k d lt = record {
    within = (is.moved k d lt).within;
    mover = (is.moved k d lt).mover;
    from = (is.moved k d lt).from;
    to = (is.moved k d lt).to ∙ sym (set_other (get_or w.moves k d).slot (not_yet ne k d lt));
    other = (is.moved k d lt).other;
  }

  moved_there : is_mover states slot ≡ true → part_at w.at slot ≢ to → IsGoing n states before aim (with_move to slot w)
  moved_there mover ne = record {
    long = length-set w.at slot to ∙ is.long;
    below = λ s. part-set w.at slot to s n below (is.below s);
    moved = All-push (IsMoved states before (set w.at slot to)) w.moves (move_of to slot w) (still_moved ne)
        (record { within = within; mover = mover; from = is.still slot (not_yet ne); to = sym set_here; other = ne });
    aimed = All-push (λ (m : Move). m.to ≡ aim m.slot) w.moves (move_of to slot w) is.aimed aims;
    once = all_pairs_push (λ (m o : Move). m.slot ≢ o.slot) w.moves (move_of to slot w) is.once (not_yet ne);
    still = λ s none. set_other s (λ e. last_too (λ (m : Move). m.slot ≢ s) w.moves (move_of to slot w) none (sym e)) ∙ is.still s (all_before (λ (m : Move). m.slot ≢ s) w.moves (move_of to slot w) none);
  }

  fetched_if : (t : Bool) → nat_eq (part_at w.at slot) to ≡ t → is_mover states slot ≡ true → IsFetched n states before aim w (cond t w (with_move to slot w))
  fetched_if true there mover = no_way n states before aim w is
  fetched_if false there mover = record { going = moved_there mover (eqb-false (part_at w.at slot) to there); keeps = set_keeps }

  there_if : (t : Bool) → nat_eq (part_at w.at slot) to ≡ t → part_at (cond t w (with_move to slot w)).at slot ≡ aim slot
  there_if true there = eqb-true (part_at w.at slot) to there ∙ aims
  there_if false there = set_here ∙ aims

  pub fetches : is_mover states slot ≡ true → IsFetched n states before aim w (fetched to slot w)
  fetches mover = fetched_if (nat_eq (part_at w.at slot) to) refl mover

  pub fetches_there : part_at (fetched to slot w).at slot ≡ aim slot
  fetches_there = there_if (nat_eq (part_at w.at slot) to) refl

-- ---- a row

module _ (n : ℕ) (states : List BodyState) (before : List ℕ) (aim : ℕ → ℕ) where
  mover_if : (t : Bool) (to slot : ℕ) (w : Walk) → is_mover states slot ≡ t → slot < length states → to < n → (t ≡ true → aim slot ≡ to) → IsGoing n states before aim w → IsFetched n states before aim w (cond t (fetched to slot w) w)
  mover_if true to slot w mover within below aims is = fetches n states before aim to slot w within below (sym (aims refl)) is mover
  mover_if false to slot w mover within below aims is = no_way n states before aim w is

  mover_there_if : (t : Bool) (to slot : ℕ) (w : Walk) → slot < length states → to < n → (t ≡ true → aim slot ≡ to) → IsGoing n states before aim w → t ≡ true → part_at (cond t (fetched to slot w) w).at slot ≡ aim slot
  mover_there_if true to slot w within below aims is mover = fetches_there n states before aim to slot w within below (sym (aims refl)) is
  mover_there_if false to slot w within below aims is mover = absurd (cc mover)

  -- one of its bodies
  mover_fetched : (to slot : ℕ) (w : Walk) → slot < length states → to < n → (is_mover states slot ≡ true → aim slot ≡ to) → IsGoing n states before aim w → IsFetched n states before aim w (fetched_mover states to slot w)
  mover_fetched to slot w within below aims is = mover_if (is_mover states slot) to slot w refl within below aims is

  mover_there : (to slot : ℕ) (w : Walk) → slot < length states → to < n → (is_mover states slot ≡ true → aim slot ≡ to) → IsGoing n states before aim w → is_mover states slot ≡ true → part_at (fetched_mover states to slot w).at slot ≡ aim slot
  mover_there to slot w within below aims is mover = mover_there_if (is_mover states slot) to slot w within below aims is mover

  module _ (to : ConstraintRow → ℕ) where
    abbrev with_first : ConstraintRow → Walk → Walk
    with_first r w = fetched_mover states (to r) (constraint_slots r).a w

    first_fetched : (r : ConstraintRow) (w : Walk) → IsPlacedRow (length states) r → to r < n → IsAt constraint_slots aim to states r → IsGoing n states before aim w → IsFetched n states before aim w (with_first r w)
    first_fetched r w placed below aims is = mover_fetched (to r) (constraint_slots r).a w placed.a below aims.a is

    both_fetched : (r : ConstraintRow) (w : Walk) → IsPlacedRow (length states) r → to r < n → IsAt constraint_slots aim to states r → IsGoing n states before aim w → IsFetched n states before aim w (row_fetched states (to r) r w)
    both_fetched r w placed below aims is =
        let one = first_fetched r w placed below aims is in
        way_on n states before aim w (with_first r w) (row_fetched states (to r) r w) one (mover_fetched (to r) (constraint_slots r).b (with_first r w) placed.b below aims.b one.going)

    -- its movers are there
    both_there : (r : ConstraintRow) (w : Walk) → IsPlacedRow (length states) r → to r < n → IsAt constraint_slots aim to states r → IsGoing n states before aim w → IsAt constraint_slots (part_at (row_fetched states (to r) r w).at) to states r
    both_there r w placed below aims is =
        let one = first_fetched r w placed below aims is in
        record {
          a = λ m. (mover_fetched (to r) (constraint_slots r).b (with_first r w) placed.b below aims.b one.going).keeps (constraint_slots r).a (mover_there (to r) (constraint_slots r).a w placed.a below aims.a is m) ∙ aims.a m;
          b = λ m. mover_there (to r) (constraint_slots r).b (with_first r w) placed.b below aims.b one.going m ∙ aims.b m;
        }

    -- ---- all rows of a stage

    pub rows_fetched : (rs : List ConstraintRow) (w : Walk) → ArePlaced (length states) rs → All (λ r. to r < n) rs → AreAt constraint_slots aim to states rs → IsGoing n states before aim w → IsFetched n states before aim w (walk_rows states to rs w)
    rows_fetched [] w placed below aims is = no_way n states before aim w is
    rows_fetched (r ∷ rs) w placed below aims is =
        let one = both_fetched r w (All-head (IsPlacedRow (length states)) r rs placed) (All-head (λ x. to x < n) r rs below) (All-head (IsAt constraint_slots aim to states) r rs aims) is in
        way_on n states before aim w (row_fetched states (to r) r w) (walk_rows states to rs (row_fetched states (to r) r w)) one
        (rows_fetched rs (row_fetched states (to r) r w) (All-tail (IsPlacedRow (length states)) r rs placed) (All-tail (λ x. to x < n) r rs below) (All-tail (IsAt constraint_slots aim to states) r rs aims) one.going)

    pub rows_there : (rs : List ConstraintRow) (w : Walk) → ArePlaced (length states) rs → All (λ r. to r < n) rs → AreAt constraint_slots aim to states rs → IsGoing n states before aim w → AreAt constraint_slots (part_at (walk_rows states to rs w).at) to states rs
    rows_there [] w placed below aims is = All-nil (IsAt constraint_slots (part_at w.at) to states)
    rows_there (r ∷ rs) w placed below aims is =
        let head = All-head (IsAt constraint_slots aim to states) r rs aims in
        let one = both_fetched r w (All-head (IsPlacedRow (length states)) r rs placed) (All-head (λ x. to x < n) r rs below) head is in
        let here = both_there r w (All-head (IsPlacedRow (length states)) r rs placed) (All-head (λ x. to x < n) r rs below) head is in
        let now : Walk = row_fetched states (to r) r w in
        let last : Walk = walk_rows states to rs now in
        let rest = rows_fetched rs now (All-tail (IsPlacedRow (length states)) r rs placed) (All-tail (λ x. to x < n) r rs below) (All-tail (IsAt constraint_slots aim to states) r rs aims) one.going in
        All-cons (IsAt constraint_slots (part_at last.at) to states) r rs
        (record {
          a = λ m. rest.keeps (constraint_slots r).a (here.a m ∙ sym (head.a m)) ∙ head.a m;
          b = λ m. rest.keeps (constraint_slots r).b (here.b m ∙ sym (head.b m)) ∙ head.b m;
        })
        (rows_there rs now (All-tail (IsPlacedRow (length states)) r rs placed) (All-tail (λ x. to x < n) r rs below) (All-tail (IsAt constraint_slots aim to states) r rs aims) one.going)

-- ---- the way home

module _ (n : ℕ) (states : List BodyState) (before home : List ℕ) (at_home : ArePartsBelow (part_at home) n) where
  pub home_fetched : (slots : List ℕ) (w : Walk) → All (λ slot. slot < length states) slots → All (λ slot. is_mover states slot ≡ true) slots → IsGoing n states before (part_at home) w → IsFetched n states before (part_at home) w (walk_home home slots w)
  home_fetched [] w within movers is = no_way n states before (part_at home) w is
  home_fetched (slot ∷ slots) w within movers is =
      let now : Walk = fetched (part_at home slot) slot w in
      let one = fetches n states before (part_at home) (part_at home slot) slot w (All-head (λ s. s < length states) slot slots within) (at_home slot) refl is (All-head (λ s. is_mover states s ≡ true) slot slots movers) in
      way_on n states before (part_at home) w now (walk_home home slots now) one
      (home_fetched slots now (All-tail (λ s. s < length states) slot slots within) (All-tail (λ s. is_mover states s ≡ true) slot slots movers) one.going)

  pub home_there : (slots : List ℕ) (w : Walk) → All (λ slot. slot < length states) slots → All (λ slot. is_mover states slot ≡ true) slots → IsGoing n states before (part_at home) w → All (λ slot. part_at (walk_home home slots w).at slot ≡ part_at home slot) slots
  home_there [] w within movers is = All-nil (λ slot. part_at w.at slot ≡ part_at home slot)
  home_there (slot ∷ slots) w within movers is =
      let now : Walk = fetched (part_at home slot) slot w in
      let inside = All-head (λ s. s < length states) slot slots within in
      let one = fetches n states before (part_at home) (part_at home slot) slot w inside (at_home slot) refl is (All-head (λ s. is_mover states s ≡ true) slot slots movers) in
      let within_rest = All-tail (λ s. s < length states) slot slots within in
      let movers_rest = All-tail (λ s. is_mover states s ≡ true) slot slots movers in
      let rest = home_fetched slots now within_rest movers_rest one.going in
      All-cons (λ s. part_at (walk_home home slots now).at s ≡ part_at home s) slot slots
      (rest.keeps slot (fetches_there n states before (part_at home) (part_at home slot) slot w inside (at_home slot) refl is))
      (home_there slots now within_rest movers_rest one.going)

-- ---- a walk that is done

pub walk_done : (n : ℕ) (states : List BodyState) (before : List ℕ) (aim : ℕ → ℕ) (w : Walk) → length before ≡ length states → IsGoing n states before aim w → IsWalk n states before w
walk_done n states before aim w long is = record { long = is.long ∙ sym long; below = is.below; moved = is.moved; once = is.once; still = is.still }
