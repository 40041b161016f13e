-- The walks of a pass, stage by stage: those of the colours, of the rows that have none, and home.
use Rattle.std.proofs.Common.{◌≡◌, ℕ, zero, suc, ◌<◌, false, List, [], ◌∷◌, length, get_or, arith, refl, sym, ap, ◌∙◌, inl, inr}
use Rattle.std.specs.Prelude.{All}
use Rattle.std.proofs.lemmas.Bool.{cases_Bool}
use Rattle.std.proofs.lemmas.List.{ext_get_or}
use Rattle.std.proofs.lemmas.List.Elements.{All-head, All-tail}
use Rattle.momenta.specs.declared.state.BodyState.{BodyState}
use Rattle.colour_solver.specs.declared.constraint_row.ConstraintRow.{ConstraintRow}
use Rattle.colour_solver.specs.Colour.{IsColour, is_mover}
use Rattle.colour_solver.specs.ConstraintVisits.{constraint_slots}
use Rattle.colour_solver.specs.States.{movers_of}
use Rattle.part_runs.specs.Hidden.{AreAt, ArePartsBelow, ArePlaced, part_at}
use Rattle.part_runs.specs.Walks.{IsWalk, Walk, first_part, home_of, setting_out, stages_from, walk_home, walk_rows}
use Rattle.part_runs.specs.Stages.{rows_at, stood, walk_at}
use Rattle.part_runs.specs.Laws.{HomesAreBelow}
use Rattle.part_runs.proofs.AimLaws.{aim_of, all_movers, colour_aims, movers_move, movers_within}
use Rattle.part_runs.proofs.PassApart.{part_below}
use Rattle.part_runs.proofs.WalkLaws.{IsGoing, going_first, home_fetched, home_there, rows_fetched, rows_there, walk_done}

-- ---- before a stage

pub homes_below : HomesAreBelow
homes_below n [] positive all slot = positive
homes_below n (part ∷ home) positive all zero = All-head (λ x. x < n) part home all
homes_below n (part ∷ home) positive all (suc slot) = homes_below n home positive (All-tail (λ x. x < n) part home all) slot

-- each slot is with one of the parts below n, and what doesn't move is at home
pub record IsStanding (n : ℕ) (first : List BodyState) (home at : List ℕ) : Type 0 where
  pub long : length at ≡ length first
  pub below : ArePartsBelow (part_at at) n
  pub others : (slot : ℕ) → is_mover first slot ≡ false → part_at at slot ≡ part_at home slot

pub standing_first : (n : ℕ) (first : List BodyState) (home : List ℕ) → length home ≡ length first → ArePartsBelow (part_at home) n → IsStanding n first home home
standing_first n first home long below = record { long = long; below = below; others = λ slot m. refl }

standing_on : (n : ℕ) (first : List BodyState) (home at : List ℕ) (w : Walk) → IsStanding n first home at → IsWalk n first at w → IsStanding n first home w.at
standing_on n first home at w is walk = record {
  long = walk.long ∙ is.long;
  below = walk.below;
  others = λ slot m. walk.still slot (λ k d lt e. absurd (cc (sym m ∙ ap (is_mover first) (sym e) ∙ (walk.moved k d lt).mover))) ∙ is.others slot m;
}

-- ---- a stage

-- its walk brings each mover of its rows to where the row is
pub record IsStageWalk (n : ℕ) (first : List BodyState) (home at : List ℕ) (w : Walk) (to : ConstraintRow → ℕ) (rows : List ConstraintRow) : Type 0 where
  pub before : IsStanding n first home at
  pub walk : IsWalk n first at w
  pub there : AreAt constraint_slots (part_at w.at) to first rows
  pub below : All (λ r. to r < n) rows

stage_walk : (n : ℕ) (first : List BodyState) (home at : List ℕ) (aim : ℕ → ℕ) (to : ConstraintRow → ℕ) (rows : List ConstraintRow) → IsStanding n first home at → ArePlaced (length first) rows → All (λ r. to r < n) rows → AreAt constraint_slots aim to first rows
    → IsStageWalk n first home at (walk_rows first to rows (setting_out at)) to rows
stage_walk n first home at aim to rows is placed below aims =
    let going : IsGoing n first at aim (setting_out at) = going_first n first at aim is.long is.below in
    record {
      before = is;
      walk = walk_done n first at aim (walk_rows first to rows (setting_out at)) is.long (rows_fetched n first at aim to rows (setting_out at) placed below aims going).going;
      there = rows_there n first at aim to rows (setting_out at) placed below aims going;
      below = below;
    }

module _ (n : ℕ) (first : List BodyState) (home : List ℕ) (at_home : ArePartsBelow (part_at home) n) (positive : 0 < n) where
  colour_walk : (at : List ℕ) (rows : List ConstraintRow) → IsStanding n first home at → ArePlaced (length first) rows → IsColour constraint_slots first rows → IsStageWalk n first home at (walk_rows first (home_of home first) rows (setting_out at)) (home_of home first) rows
  colour_walk at rows is placed colour =
      stage_walk n first home at (aim_of first (home_of home first) rows) (home_of home first) rows is placed (λ k d lt. part_below constraint_slots (part_at home) n first (get_or rows k d) at_home) (colour_aims first (home_of home first) rows colour)

  left_walk : (at : List ℕ) (rows : List ConstraintRow) → IsStanding n first home at → ArePlaced (length first) rows → IsStageWalk n first home at (walk_rows first first_part rows (setting_out at)) first_part rows
  left_walk at rows is placed = stage_walk n first home at (λ slot. 0) first_part rows is placed (λ k d lt. positive) (λ k d lt. record { a = λ m. refl; b = λ m. refl })

  -- ---- the way home

  pub record IsWalkHome (at : List ℕ) (w : Walk) : Type 0 where
    pub before : IsStanding n first home at
    pub walk : IsWalk n first at w
    pub home_is : w.at ≡ home

  way_home : (at : List ℕ) → length home ≡ length first → IsStanding n first home at → IsWalkHome at (walk_home home (movers_of first) (setting_out at))
  way_home at long is =
      let going : IsGoing n first at (part_at home) (setting_out at) = going_first n first at (part_at home) is.long is.below in
      let w : Walk = walk_home home (movers_of first) (setting_out at) in
      let fetched = home_fetched n first at home at_home (movers_of first) (setting_out at) (movers_within first) (movers_move first) going in
      let walk : IsWalk n first at w = walk_done n first at (part_at home) w is.long fetched.going in
      let there = home_there n first at home at_home (movers_of first) (setting_out at) (movers_within first) (movers_move first) going in
      let now : IsStanding n first home w.at = standing_on n first home at w is walk in
      let each : (slot : ℕ) → part_at w.at slot ≡ part_at home slot = λ slot. elim (cases_Bool (is_mover first slot)) [
        | inl m ↦ all_movers (λ s. part_at w.at s ≡ part_at home s) first there slot m
        | inr m ↦ now.others slot m
      ] in
      record { before = is; walk = walk; home_is = ext_get_or 0 w.at home (now.long ∙ sym long) (λ i lt. each i) }

  -- ---- all of them

  module _ (left : List ConstraintRow) (left_placed : ArePlaced (length first) left) where
    abbrev pub walks_from : List (List ConstraintRow) → List ℕ → List Walk
    walks_from colours at = stages_from home (movers_of first) first colours left at

    pub colours_walked : (colours : List (List ConstraintRow)) (at : List ℕ) (i : ℕ) → IsStanding n first home at → All (ArePlaced (length first)) colours → All (IsColour constraint_slots first) colours → i < length colours
        → IsStageWalk n first home (stood at (walks_from colours at) i) (walk_at (walks_from colours at) i) (home_of home first) (rows_at colours i)
    colours_walked [] at i is placed apart lt = absurd (omega (arith, lt))
    colours_walked (rows ∷ colours) at zero is placed apart lt = colour_walk at rows is (All-head (ArePlaced (length first)) rows colours placed) (All-head (IsColour constraint_slots first) rows colours apart)
    colours_walked (rows ∷ colours) at (suc i) is placed apart lt =
        let now = colour_walk at rows is (All-head (ArePlaced (length first)) rows colours placed) (All-head (IsColour constraint_slots first) rows colours apart) in
        let w : Walk = walk_rows first (home_of home first) rows (setting_out at) in
        colours_walked colours w.at i (standing_on n first home at w is now.walk) (All-tail (ArePlaced (length first)) rows colours placed) (All-tail (IsColour constraint_slots first) rows colours apart) (omega (arith, lt))

    pub left_walked : (colours : List (List ConstraintRow)) (at : List ℕ) → IsStanding n first home at → All (ArePlaced (length first)) colours → All (IsColour constraint_slots first) colours
        → IsStageWalk n first home (stood at (walks_from colours at) (length colours)) (walk_at (walks_from colours at) (length colours)) first_part left
    left_walked [] at is placed apart = left_walk at left is left_placed
    left_walked (rows ∷ colours) at is placed apart =
        let now = colour_walk at rows is (All-head (ArePlaced (length first)) rows colours placed) (All-head (IsColour constraint_slots first) rows colours apart) in
        let w : Walk = walk_rows first (home_of home first) rows (setting_out at) in
        left_walked colours w.at (standing_on n first home at w is now.walk) (All-tail (ArePlaced (length first)) rows colours placed) (All-tail (IsColour constraint_slots first) rows colours apart)

    pub home_walked : (colours : List (List ConstraintRow)) (at : List ℕ) → length home ≡ length first → IsStanding n first home at → All (ArePlaced (length first)) colours → All (IsColour constraint_slots first) colours
        → IsWalkHome (stood at (walks_from colours at) (suc (length colours))) (walk_at (walks_from colours at) (suc (length colours)))
    home_walked [] at long is placed apart =
        let now = left_walk at left is left_placed in
        let w : Walk = walk_rows first first_part left (setting_out at) in
        way_home w.at long (standing_on n first home at w is now.walk)
    home_walked (rows ∷ colours) at long is placed apart =
        let now = colour_walk at rows is (All-head (ArePlaced (length first)) rows colours placed) (All-head (IsColour constraint_slots first) rows colours apart) in
        let w : Walk = walk_rows first (home_of home first) rows (setting_out at) in
        home_walked colours w.at long (standing_on n first home at w is now.walk) (All-tail (ArePlaced (length first)) rows colours placed) (All-tail (IsColour constraint_slots first) rows colours apart)
