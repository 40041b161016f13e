-- What a step's caller is told of the parts' runs holds of the run of all bodies.
use Rattle.std.proofs.Common.{◌≡◌, ℕ, ◌<◌, Bool, true, false, cond, List, [], ◌∷◌, Some, length, get_or, arith, refl, sym, ap, ◌∙◌, subst}
use Rattle.std.specs.Prelude.{nat_eq, nat_lt, All}
use Rattle.std.specs.List.{slice_get}
use Rattle.std.proofs.lemmas.Bool.{eq-eqb}
use Rattle.std.proofs.lemmas.List.Elements.{All-cons, All-from_get_or, All-get_or, All-head, All-nil, All-tail}
use Rattle.std.proofs.lemmas.Option.{get_or_from_slice_get}
use Rattle.momenta.specs.declared.state.BodyState.{BodyState}
use Rattle.colour_solver.specs.declared.constraint_row.ConstraintRow.{ConstraintRow}
use Rattle.colour_solver.specs.Colour.{is_mover}
use Rattle.colour_solver.specs.ColourRows.{all_rows}
use Rattle.colour_solver.specs.ConstraintVisits.{AreRowsBelow, IsRowBelow, constraint_bounced, constraint_slots}
use Rattle.colour_solver.specs.States.{nobody}
use Rattle.colour_solver.specs.Ticks.{Run, ran, start}
use Rattle.part_runs.specs.Hidden.{ArePartsBelow, SameMovers, hidden, owned, part_at}
use Rattle.part_runs.specs.Walks.{home_of}
use Rattle.part_runs.specs.Runs.{IsReached, Stand, Step, at_home, own_stages, part_ran, ran_stand, stand_of}
use Rattle.part_runs.specs.Stages.{IsStage, owner_at, rows_at}
use Rattle.part_runs.specs.ReadBack.{source}
use Rattle.part_runs.specs.Laws.{AreHomes, CanRun, PartsStepAll}
use Rattle.part_runs.proofs.AfterLaws.{count_own}
use Rattle.part_runs.proofs.BodyBackLaws.{seen_home}
use Rattle.part_runs.proofs.FairVisits.{all_bounced_fair}
use Rattle.part_runs.proofs.FlatLaws.{flat}
use Rattle.part_runs.proofs.HiddenLaws.{length-hidden_from, slice-hidden}
use Rattle.part_runs.proofs.ListLaws.{all_flat, flat_all}
use Rattle.part_runs.proofs.PassApart.{part_below}
use Rattle.part_runs.proofs.PassLaws.{passes}
use Rattle.part_runs.proofs.ReachLaws.{ran_reached}
use Rattle.part_runs.proofs.RunWhole.{IsKept, IsWhole, ran_kept, ran_whole}
use Rattle.part_runs.proofs.SummedLaws.{ran_summed}

-- ---- bodies

source_below : (x : Bool) (i n : ℕ) → 0 < n → i < n → cond x i 0 < n
source_below true i n positive h = h
source_below false i n positive h = positive

-- a body stands in the same slot as its part has it
there_too : (g : ℕ → ℕ) (first now : List BodyState) (slot : ℕ) (s : BodyState) → SameMovers first now → slice_get now slot ≡ Some s → slice_get (hidden g (source g first slot) now) slot ≡ Some s
there_too g first now slot s same at =
    let h : ℕ = source g first slot in
    let is : s.movable ≡ is_mover now slot = sym (ap (λ (b : BodyState). b.movable) (get_or_from_slice_get now slot s nobody at)) in
    slice-hidden g h now slot s at ∙ ap Some (seen_home g first now slot s same is)

-- ---- rows

own_row : {R : Type 0} (t : Bool) (P : R → Type 0) (r : R) (rs : List R) → t ≡ true → All P (cond t (r ∷ rs) rs) → P r
own_row true P r rs is all = All-head P r rs all
own_row false P r rs is all = absurd (cc is)

other_rows : {R : Type 0} (t : Bool) (P : R → Type 0) (r : R) (rs : List R) → All P (cond t (r ∷ rs) rs) → All P rs
other_rows true P r rs all = All-tail P r rs all
other_rows false P r rs all = all

-- what holds of each part's rows holds of all
rows_all : {R : Type 0} (to : R → ℕ) (n : ℕ) (P : R → Type 0) (rows : List R) → All (λ r. to r < n) rows → ((k : ℕ) → k < n → All P (owned to k rows)) → All P rows
rows_all to n P [] below each = All-nil P
rows_all to n P (r ∷ rs) below each =
    let q : ℕ = to r in
    All-cons P r rs (own_row (nat_eq q q) P r (owned to q rs) (eq-eqb q q refl) (each q (All-head (λ x. to x < n) r rs below)))
    (rows_all to n P rs (All-tail (λ x. to x < n) r rs below) (λ k lt. other_rows (nat_eq (to r) k) P r (owned to k rs) (each k lt)))

owner_if : (c : Bool) (i n : ℕ) → 0 < n → i < n → cond c i 0 < n
owner_if true i n positive h = h
owner_if false i n positive h = positive

owner_below : (t : Step) (i n : ℕ) (r : ConstraintRow) → 0 < n → ArePartsBelow (part_at t.home) n → owner_at t i r < n
owner_below t i n r positive below = owner_if (nat_lt i (length t.rows.colours)) (home_of t.home t.states r) n positive (part_below constraint_slots (part_at t.home) n t.states r below)

-- what holds of the rows of each part holds of all
module _ (t : Step) (n : ℕ) (positive : 0 < n) (can : CanRun t.states t.rows) (homes : AreHomes n t) (s : Stand) (reached : IsReached t s) (P : ConstraintRow → Type 0) where
  stage_all : (i : ℕ) → i < length s.rows → ((k : ℕ) → k < n → All P (flat (own_stages t.home k t.states s.rows))) → All P (rows_at s.rows i)
  stage_all i lt each =
      let stage : IsStage n t constraint_bounced s i = (passes t n positive can homes constraint_bounced all_bounced_fair s reached).each i lt in
      rows_all (owner_at t i) n P (rows_at s.rows i) (λ k d within. owner_below t i n (get_or (rows_at s.rows i) k d) positive homes.below)
      (λ k less. subst (All P) (stage.own k) (All-get_or (All P) (own_stages t.home k t.states s.rows) i [] (let long = count_own t.home k t.states s.rows in omega (arith, lt, long)) (all_flat P (own_stages t.home k t.states s.rows) (each k less))))

  pub stages_all : ((k : ℕ) → k < n → All P (flat (own_stages t.home k t.states s.rows))) → All P (flat s.rows)
  stages_all each = flat_all P s.rows (All-from_get_or (All P) s.rows [] (λ i lt. stage_all i lt each))

-- ---- a run

pub parts_step : PartsStepAll
parts_step t n positive can homes each =
    let r : Run = ran t.count t.gravity (start t.states (all_rows t.rows)) in
    let s : Stand = ran_stand t.count t.gravity (stand_of t) in
    let kept : IsKept t.states (all_rows t.rows) r = ran_kept t.count t.gravity t.states (all_rows t.rows) in
    let summed = ran_summed t n positive can homes in
    let reached : IsReached t s = ran_reached t in
    let whole : IsWhole t.states r = ran_whole t.count t.gravity t.states (all_rows t.rows) can.rows in
    let from : ℕ → ℕ = source (part_at t.home) t.states in
    let below : (slot : ℕ) → from slot < n = λ slot. source_below (is_mover t.states slot) (part_at t.home slot) n positive (homes.below slot) in
    let long : length r.states ≡ length s.states = ap length summed.states in
    let there : (slot : ℕ) (b : BodyState) → slice_get r.states slot ≡ Some b → slice_get (at_home t (from slot) s.states) slot ≡ Some b = λ slot b at.
    there_too (part_at t.home) t.states s.states slot b reached.movers (sym (ap (λ (l : List BodyState). slice_get l slot) summed.states) ∙ at) in
    record {
      states = λ slot b at. (each (from slot) (below slot)).states slot b (there slot b at);
      rows = subst (λ (m : ℕ). AreRowsBelow m r.rows) (sym long)
          (subst (λ (rs : List ConstraintRow). AreRowsBelow (length s.states) rs) (sym summed.rows)
          (stages_all t n positive can homes s reached (IsRowBelow (length s.states))
          (λ k less. subst (λ (m : ℕ). AreRowsBelow m (part_ran t k).rows) (length-hidden_from (part_at t.home) k 0 s.states) (each k less).rows)));
      long = kept.long;
      same = whole.same;
      courses = λ slot b at. (each (from slot) (below slot)).courses slot b (there slot b at);
      momentum = whole.momentum;
    }
