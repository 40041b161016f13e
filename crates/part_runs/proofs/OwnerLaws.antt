-- The parts of all rows in one list: what a part has are the rows that have its number there.
use Rattle.std.proofs.Common.{◌≡◌, ℕ, ◌+◌, ◌<◌, Bool, true, false, cond, List, [], ◌∷◌, ◌++◌, length, map, All, refl, sym, ap, ap₂, ◌∙◌}
use Rattle.std.proofs.lemmas.List.{append-nil, append_assoc, length-append, map-append}
use Rattle.std.proofs.lemmas.List.Elements.{All-append, All-cons, All-nil}
use Rattle.momenta.specs.declared.state.BodyState.{BodyState}
use Rattle.colour_solver.specs.declared.constraint_row.ConstraintRow.{ConstraintRow}
use Rattle.colour_solver.specs.declared.row_visits.Slots.{Slots}
use Rattle.colour_solver.specs.Colour.{is_mover}
use Rattle.colour_solver.specs.ConstraintVisits.{constraint_slots}
use Rattle.part_runs.specs.Hidden.{ArePartsBelow, owned, part_at, part_of}
use Rattle.part_runs.specs.Walks.{first_part, home_of, own_left}
use Rattle.part_runs.specs.Runs.{own_stages}
use Rattle.part_runs.specs.ReadBack.{owners_of, picked}
use Rattle.part_runs.proofs.AfterLaws.{left_is}
use Rattle.part_runs.proofs.FlatLaws.{flat}
use Rattle.part_runs.proofs.ListLaws.{length_mapped, map_mapped}
use Rattle.part_runs.proofs.PickLaws.{picked_on, picked_owned}

-- ---- stage by stage

-- the part of a row with a colour whose bodies stand there
abbrev slots_part : List ℕ → List BodyState → Slots → ℕ
slots_part home first s = cond (is_mover first s.a) (part_at home s.a) (part_at home s.b)

-- the parts of the rows of some stages, told by where their bodies stand
abbrev pub owners_by : List ℕ → List BodyState → List (List Slots) → List ℕ
owners_by home first [] = []
owners_by home first (left ∷ []) = map (λ s. 0) left
owners_by home first (ss ∷ next ∷ more) = map (λ (s : Slots). cond (is_mover first s.a) (part_at home s.a) (part_at home s.b)) ss ++ owners_by home first (next ∷ more)

colour_picked : (home : List ℕ) (k : ℕ) (first : List BodyState) (rs : List ConstraintRow) → owned (home_of home first) k rs ≡ picked k (map (slots_part home first) (map constraint_slots rs)) rs
colour_picked home k first rs = sym (picked_owned (home_of home first) k rs) ∙ ap (λ (l : List ℕ). picked k l rs) (sym (map_mapped (slots_part home first) constraint_slots rs))

left_picked : (k : ℕ) (rs : List ConstraintRow) → own_left k rs ≡ picked k (map (λ s. 0) (map constraint_slots rs)) rs
left_picked k rs = left_is k rs ∙ sym (picked_owned first_part k rs) ∙ ap (λ (l : List ℕ). picked k l rs) (sym (map_mapped (λ s. 0) constraint_slots rs))

pub stages_picked : (home : List ℕ) (k : ℕ) (first : List BodyState) (rows : List (List ConstraintRow)) → flat (own_stages home k first rows) ≡ picked k (owners_by home first (map (map constraint_slots) rows)) (flat rows)
stages_picked home k first [] = refl
stages_picked home k first (rs ∷ []) =
    append-nil (own_left k rs) ∙ left_picked k rs ∙ ap (λ (l : List ConstraintRow). picked k (map (λ s. 0) (map constraint_slots rs)) l) (sym (append-nil rs))
stages_picked home k first (rs ∷ next ∷ rows) =
    let owners : List ℕ = map (slots_part home first) (map constraint_slots rs) in
    let more : List ℕ = owners_by home first (map (map constraint_slots) (next ∷ rows)) in
    let long : length owners ≡ length rs = length_mapped (slots_part home first) (map constraint_slots rs) ∙ length_mapped constraint_slots rs in
    ap₂ (λ (x y : List ConstraintRow). x ++ y) (colour_picked home k first rs) (stages_picked home k first (next ∷ rows)) ∙ sym (picked_on k owners more rs (flat (next ∷ rows)) long)

-- the rows that have colours, and then those that have none
first_owners : (home : List ℕ) (first : List BodyState) (rs : List ConstraintRow) (ss : List (List ConstraintRow)) (left : List ConstraintRow)
    → owners_by home first (map (map constraint_slots) (rs ∷ ss ++ left ∷ [])) ≡ map (slots_part home first) (map constraint_slots rs) ++ owners_by home first (map (map constraint_slots) (ss ++ left ∷ []))
first_owners home first rs [] left = refl
first_owners home first rs (next ∷ ss) left = refl

pub owners_flat : (home : List ℕ) (first : List BodyState) (colours : List (List ConstraintRow)) (left : List ConstraintRow)
    → owners_by home first (map (map constraint_slots) (colours ++ left ∷ [])) ≡ owners_of constraint_slots home first (flat colours) left
owners_flat home first [] left = map_mapped (λ s. 0) constraint_slots left
owners_flat home first (rs ∷ colours) left =
    let to : ConstraintRow → ℕ = part_of constraint_slots (part_at home) first in
    first_owners home first rs colours left
    ∙ ap₂ (λ (x y : List ℕ). x ++ y) (map_mapped (slots_part home first) constraint_slots rs) (owners_flat home first colours left)
    ∙ sym (append_assoc (map to rs) (map to (flat colours)) (map (λ r. 0) left)) ∙ ap (λ (l : List ℕ). l ++ map (λ r. 0) left) (sym (map-append to rs (flat colours)))

pub count_owners : {R : Type 0} (at : R → Slots) (home : List ℕ) (first : List BodyState) (coloured left : List R) → length (owners_of at home first coloured left) ≡ length (coloured ++ left)
count_owners at home first coloured left =
    length-append (map (part_of at (part_at home) first) coloured) (map (λ r. 0) left) ∙ ap₂ (λ (x y : ℕ). x + y) (length_mapped (part_of at (part_at home) first) coloured) (length_mapped (λ r. 0) left) ∙ sym (length-append coloured left)

-- ---- each is one of the parts

mapped_below : {X : Type 0} (n : ℕ) (f : X → ℕ) (xs : List X) → ((x : X) → f x < n) → All (λ owner. owner < n) (map f xs)
mapped_below n f [] below = All-nil (λ owner. owner < n)
mapped_below n f (x ∷ xs) below = All-cons (λ owner. owner < n) (f x) (map f xs) (below x) (mapped_below n f xs below)

below_if : (t : Bool) (n a b : ℕ) → a < n → b < n → cond t a b < n
below_if true n a b h k = h
below_if false n a b h k = k

pub owners_below : {R : Type 0} (n : ℕ) (at : R → Slots) (home : List ℕ) (first : List BodyState) (coloured left : List R) → 0 < n → ArePartsBelow (part_at home) n → All (λ owner. owner < n) (owners_of at home first coloured left)
owners_below {R} n at home first coloured left positive below =
    All-append (λ owner. owner < n) (map (part_of at (part_at home) first) coloured) (map (λ r. 0) left)
    (mapped_below n (part_of at (part_at home) first) coloured (λ (r : R). below_if (is_mover first (at r).a) n (part_at home (at r).a) (part_at home (at r).b) (below (at r).a) (below (at r).b)))
    (mapped_below n (λ r. 0) left (λ r. positive))
