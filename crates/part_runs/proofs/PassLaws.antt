-- A pass of a step, stage by stage.
use Rattle.std.proofs.Common.{◌≡◌, ℕ, suc, ◌+◌, ◌<◌, ◌≤◌, cond, List, [], ◌∷◌, length, map, get_or, take, arith, refl, sym, ap, ◌∙◌, subst, inl, inr}
use Rattle.std.specs.Prelude.{nat_lt, All}
use Rattle.std.specs.List.{flat_map}
use Rattle.std.proofs.lemmas.Bool.{cases_lt, le-ltb, lt-ltb}
use Rattle.std.proofs.lemmas.List.{get_or_append_left, get_or_at, length-append}
use Rattle.momenta.specs.declared.state.BodyState.{BodyState}
use Rattle.momenta.specs.declared.state.Ends.{Ends}
use Rattle.colour_solver_base.specs.RowsAfter.{RowAfter}
use Rattle.colour_solver.specs.declared.constraint_row.ConstraintRow.{ConstraintRow}
use Rattle.colour_solver.specs.declared.row_visits.Slots.{Slots}
use Rattle.colour_solver.specs.Colour.{is_mover}
use Rattle.colour_solver.specs.ConstraintVisits.{constraint_slots}
use Rattle.colour_solver.specs.RowVisits.{passed, rows_passed}
use Rattle.part_runs.specs.Hidden.{AreAt, ArePlaced, IsAt, IsPlacedRow, SameMovers, hidden, owned, part_at}
use Rattle.part_runs.specs.Walks.{Walk, first_part, home_of}
use Rattle.part_runs.specs.Passes.{AreVisited, IsFairVisit}
use Rattle.part_runs.specs.Runs.{IsReached, Stand, Step, stage_rows, visited, walks_of}
use Rattle.part_runs.specs.Stages.{IsOwnStage, IsPassOf, IsStage, IsWayHome, bodies_in, own_at, owner_at, rows_at, states_at, stood, walk_at}
use Rattle.part_runs.specs.Laws.{AreHomes, CanRun, PassesByParts}
use Rattle.part_runs.proofs.AfterLaws.{after_long, after_moves, all_sent, count_own, given_last, given_next, last_states, next_states, own_colour_at, own_left_at, rows_after_at, sent_next, stood_on}
use Rattle.part_runs.proofs.ListLaws.{all_flat, all_left, all_right, get_or-mapped, length_mapped}
use Rattle.part_runs.proofs.MadeLaws.{walks_made}
use Rattle.part_runs.proofs.PassApart.{visits_apart}
use Rattle.part_runs.proofs.ReachLaws.{visited_reached}
use Rattle.part_runs.proofs.SentLaws.{handed_on}
use Rattle.part_runs.proofs.StageLaws.{IsStageWalk, IsStanding, IsWalkHome, colours_walked, home_walked, left_walked, standing_first}

-- ---- rows that are where they were

at_same : (g : ℕ → ℕ) (to : ConstraintRow → ℕ) (first : List BodyState) (r q : ConstraintRow) → constraint_slots q ≡ constraint_slots r → to q ≡ to r → IsAt constraint_slots g to first r → IsAt constraint_slots g to first q
at_same g to first r q e same is = record {
  a = λ m. ap (λ (s : Slots). g s.a) e ∙ is.a (ap (λ (s : Slots). is_mover first s.a) (sym e) ∙ m) ∙ sym same;
  b = λ m. ap (λ (s : Slots). g s.b) e ∙ is.b (ap (λ (s : Slots). is_mover first s.b) (sym e) ∙ m) ∙ sym same;
}

-- the part of a row is told by where its bodies stand
pub owner_by_slots : (t : Step) (i : ℕ) (r q : ConstraintRow) → constraint_slots q ≡ constraint_slots r → owner_at t i q ≡ owner_at t i r
owner_by_slots t i r q e = ap (λ (s : Slots). cond (nat_lt i (length t.rows.colours)) (cond (is_mover t.states s.a) (part_at t.home s.a) (part_at t.home s.b)) 0) e

slots_at : (old now : List ConstraintRow) → map constraint_slots now ≡ map constraint_slots old → (k : ℕ) (d : ConstraintRow) → k < length now → constraint_slots (get_or now k d) ≡ constraint_slots (get_or old k d)
slots_at old now e k d lt =
    let long : length now ≡ length old = sym (length_mapped constraint_slots now) ∙ ap length e ∙ length_mapped constraint_slots old in
    sym (get_or-mapped constraint_slots now k d (constraint_slots d) lt) ∙ ap (λ (l : List Slots). get_or l k (constraint_slots d)) e ∙ get_or-mapped constraint_slots old k d (constraint_slots d) (omega (arith, lt, long))

module _ (t : Step) (i : ℕ) (old now : List ConstraintRow) (e : map constraint_slots now ≡ map constraint_slots old) where
  long_now : length now ≡ length old
  long_now = sym (length_mapped constraint_slots now) ∙ ap length e ∙ length_mapped constraint_slots old

  at_now : (g : ℕ → ℕ) → AreAt constraint_slots g (owner_at t i) t.states old → AreAt constraint_slots g (owner_at t i) t.states now
  at_now g all k d lt =
      let here = slots_at old now e k d lt in
      at_same g (owner_at t i) t.states (get_or old k d) (get_or now k d) here (owner_by_slots t i (get_or old k d) (get_or now k d) here) (all k d (let long = long_now in omega (arith, lt, long)))

  below_now : (n : ℕ) → All (λ r. owner_at t i r < n) old → All (λ r. owner_at t i r < n) now
  below_now n all k d lt =
      subst (λ (x : ℕ). x < n) (sym (owner_by_slots t i (get_or old k d) (get_or now k d) (slots_at old now e k d lt))) (all k d (let long = long_now in omega (arith, lt, long)))

-- ---- a stage

count_reached : (t : Step) (s : Stand) → IsReached t s → length s.rows ≡ length t.rows.colours + 1
count_reached t s reached = sym (length_mapped (map constraint_slots) s.rows) ∙ ap length reached.slots ∙ length_mapped (map constraint_slots) (stage_rows t.rows) ∙ length-append t.rows.colours (t.rows.left ∷ [])

owner_coloured : (t : Step) (i : ℕ) → i < length t.rows.colours → home_of t.home t.states ≡ owner_at t i
owner_coloured t i lt = λ j r. cond (sym (lt-ltb i (length t.rows.colours) lt) j) (home_of t.home t.states r) (first_part r)

owner_left : (t : Step) (i : ℕ) → length t.rows.colours ≤ i → first_part ≡ owner_at t i
owner_left t i le = λ j r. cond (sym (le-ltb i (length t.rows.colours) le) j) (home_of t.home t.states r) (first_part r)

module _ (n : ℕ) (t : Step) (f : ConstraintRow → Ends → RowAfter ConstraintRow) (fair : IsFairVisit f) (s : Stand) (reached : IsReached t s) where
  moves_at : (i : ℕ) → SameMovers t.states (states_at f s i)
  moves_at i slot = after_moves f fair (take i s.rows) s.states slot ∙ reached.movers slot

  long_at : (i : ℕ) → length (states_at f s i) ≡ length t.states
  long_at i = after_long f fair (take i s.rows) s.states ∙ reached.long

  count_rows : length s.rows ≡ length t.rows.colours + 1
  count_rows = count_reached t s reached

  same_at : (i : ℕ) → i < length s.rows → map constraint_slots (rows_at s.rows i) ≡ map constraint_slots (rows_at (stage_rows t.rows) i)
  same_at i lt =
      let long : length (stage_rows t.rows) ≡ length t.rows.colours + 1 = length-append t.rows.colours (t.rows.left ∷ []) in
      let count = count_rows in
      sym (get_or-mapped (map constraint_slots) s.rows i [] [] lt) ∙ ap (λ (l : List (List Slots)). get_or l i []) reached.slots ∙ get_or-mapped (map constraint_slots) (stage_rows t.rows) i [] [] (omega (arith, lt, long, count))

  -- which rows of a stage are those of a part
  abbrev AreOwn : ℕ → Type 0
  AreOwn i = (k : ℕ) (x : Stand) → IsReached t x → own_at t k x i ≡ owned (owner_at t i) k (rows_at x.rows i)

  own_stage : (i k : ℕ) → i < length s.rows → i < length (walks_of t) → AreOwn i → AreVisited n f (part_at (walk_at (walks_of t) i).at) (owner_at t i) (states_at f s i) (rows_at s.rows i) → IsOwnStage t k f s i
  own_stage i k lt more own apart =
      let g : ℕ → ℕ = part_at (walk_at (walks_of t) i).at in
      let mine : own_at t k s i ≡ owned (owner_at t i) k (rows_at s.rows i) = own k s reached in
      let count = count_own t.home k t.states s.rows in
      record {
        bodies = ap (λ (at : List ℕ). hidden (part_at at) k (states_at f s (i + 1))) (stood_on t.home (walks_of t) i more) ∙ ap (hidden g k) (next_states f s i lt) ∙ apart.bodies k ∙ ap (passed constraint_slots f (bodies_in t k f s i)) (sym mine);
        rows = own k (visited f s) (visited_reached f fair t s reached) ∙ ap (owned (owner_at t i) k) (rows_after_at f s i lt) ∙ apart.rows_are k ∙ ap (rows_passed constraint_slots f (bodies_in t k f s i)) (sym mine);
        given = given_next t k f s i more lt (omega (arith, lt, count));
      }

  stage_of : (i : ℕ) → i < length s.rows → length (walks_of t) ≡ length s.rows + 1 → IsStageWalk n t.states t.home (stood t.home (walks_of t) i) (walk_at (walks_of t) i) (owner_at t i) (rows_at (stage_rows t.rows) i) → AreOwn i → IsStage n t f s i
  stage_of i lt long is own =
      let old : List ConstraintRow = rows_at (stage_rows t.rows) i in
      let now : List ConstraintRow = rows_at s.rows i in
      let same = same_at i lt in
      let w : Walk = walk_at (walks_of t) i in
      let more : i < length (walks_of t) = omega (arith, lt, long) in
      let apart = visits_apart f fair (part_at w.at) (owner_at t i) (λ r e. owner_by_slots t i r (f r e).row (fair.slots r e)) t.states n now (states_at f s i)
      (below_now t i old now same n is.below) (moves_at i) (at_now t i old now same (part_at w.at) is.there) in
      record {
        walk = is.walk;
        handed = handed_on n t.states (stood t.home (walks_of t) i) w is.walk (states_at f s i) (moves_at i) (long_at i) is.before.below;
        visited_apart = apart;
        own = λ k. own k s reached;
        next = next_states f s i lt;
        onward = stood_on t.home (walks_of t) i more;
        sent = λ u v. sent_next u v t f s i more (omega (arith, lt));
        each = λ k. own_stage i k lt more own apart;
      }

  -- ---- all of them

  module _ (positive : 0 < n) (can : CanRun t.states t.rows) (homes : AreHomes n t) where
    placed : All (ArePlaced (length t.states)) t.rows.colours
    placed = all_flat (IsPlacedRow (length t.states)) t.rows.colours (all_left (IsPlacedRow (length t.states)) (flat_map (λ rs. rs) t.rows.colours) t.rows.left can.rows)

    left_placed : ArePlaced (length t.states) t.rows.left
    left_placed = all_right (IsPlacedRow (length t.states)) (flat_map (λ rs. rs) t.rows.colours) t.rows.left can.rows

    at_first : IsStanding n t.states t.home t.home
    at_first = standing_first n t.states t.home homes.long homes.below

    long_walks : length (walks_of t) ≡ length s.rows + 1
    long_walks =
        let count = count_rows in
        let walks = (walks_made t).count in
        omega (arith, count, walks)

    coloured : (i : ℕ) → i < length t.rows.colours → IsStage n t f s i
    coloured i lt =
        let count = count_rows in
        let same : rows_at t.rows.colours i ≡ rows_at (stage_rows t.rows) i = sym (get_or_append_left t.rows.colours (t.rows.left ∷ []) [] i lt) in
        let walk = colours_walked n t.states t.home homes.below positive t.rows.left left_placed t.rows.colours t.home i at_first placed can.apart lt in
        stage_of i (omega (arith, lt, count)) long_walks
        (subst (λ (rs : List ConstraintRow). IsStageWalk n t.states t.home (stood t.home (walks_of t) i) (walk_at (walks_of t) i) (owner_at t i) rs) same
        (subst (λ (to : ConstraintRow → ℕ). IsStageWalk n t.states t.home (stood t.home (walks_of t) i) (walk_at (walks_of t) i) to (rows_at t.rows.colours i)) (owner_coloured t i lt) walk))
        (λ k x there. own_colour_at t.home k t.states x.rows i (length t.rows.colours) (count_reached t x there) lt ∙ ap (λ (to : ConstraintRow → ℕ). owned to k (rows_at x.rows i)) (owner_coloured t i lt))

    uncoloured : (i : ℕ) → i ≡ length t.rows.colours → IsStage n t f s i
    uncoloured i e =
        let count = count_rows in
        let m : ℕ = length t.rows.colours in
        let same : t.rows.left ≡ rows_at (stage_rows t.rows) m = sym (get_or_at t.rows.colours t.rows.left [] [] m refl) in
        let walk = left_walked n t.states t.home homes.below positive t.rows.left left_placed t.rows.colours t.home at_first placed can.apart in
        let owner : first_part ≡ owner_at t m = owner_left t m (omega arith) in
        subst (IsStage n t f s) (sym e)
        (stage_of m (omega (arith, count)) long_walks
        (subst (λ (rs : List ConstraintRow). IsStageWalk n t.states t.home (stood t.home (walks_of t) m) (walk_at (walks_of t) m) (owner_at t m) rs) same
        (subst (λ (to : ConstraintRow → ℕ). IsStageWalk n t.states t.home (stood t.home (walks_of t) m) (walk_at (walks_of t) m) to t.rows.left) owner walk))
        (λ k x there. own_left_at t.home k t.states x.rows m (count_reached t x there) ∙ ap (λ (to : ConstraintRow → ℕ). owned to k (rows_at x.rows m)) owner))

    back_home : IsWayHome n t f s (length s.rows)
    back_home =
        let m : ℕ = length s.rows in
        let count : suc (length t.rows.colours) ≡ m = let e = count_rows in omega (arith, e) in
        let walk = subst (λ (i : ℕ). IsWalkHome n t.states t.home homes.below positive (stood t.home (walks_of t) i) (walk_at (walks_of t) i)) count
        (home_walked n t.states t.home homes.below positive t.rows.left left_placed t.rows.colours t.home homes.long at_first placed can.apart) in
        record {
          walk = walk.walk;
          handed = handed_on n t.states (stood t.home (walks_of t) m) (walk_at (walks_of t) m) walk.walk (states_at f s m) (moves_at m) (long_at m) walk.before.below;
          home = walk.home_is;
          states = last_states f s;
          bodies = λ k j. hidden (part_at (walk.home_is j)) k (last_states f s j);
          given = λ k. given_last t k f s;
          sent = λ u v. all_sent u v t f s m long_walks (omega arith);
        }

    pub pass_of : IsPassOf n t f s
    pass_of =
        let count = count_rows in
        record {
          rows = count;
          walks = long_walks;
          each = λ i lt. elim (cases_lt i (length t.rows.colours)) [
            | inl less ↦ coloured i less
            | inr more ↦ uncoloured i (omega (arith, lt, more, count))
          ];
          home = back_home;
        }

pub passes : PassesByParts
passes t n positive can homes f fair s reached = pass_of n t f fair s reached positive can homes
