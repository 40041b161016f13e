-- Colours that stay colours: where the same bodies move, and where each row's bodies stand where they stood.
use Rattle.std.proofs.Common.{◌≡◌, ℕ, zero, suc, List, [], ◌∷◌, ◌++◌, length, map, All, Some, arith, refl, sym, ap, ◌∙◌}
use Rattle.std.specs.List.{flat_map, slice_get}
use Rattle.std.proofs.lemmas.List.{append_assoc, length-map, map-append}
use Rattle.std.proofs.lemmas.List.Elements.{All-cons, All-head, All-nil, All-tail, All-weaker}
use Rattle.momenta.specs.declared.state.BodyState.{BodyState}
use Rattle.colour_solver.specs.declared.row_visits.Slots.{Slots}
use Rattle.colour_solver.specs.declared.constraint_row.ConstraintRow.{ConstraintRow}
use Rattle.colour_solver.specs.declared.phase.Phase.{Phase}
use Rattle.colour_solver.specs.Colour.{AreColours, IsColour, is_mover}
use Rattle.colour_solver.specs.ColourRows.{ColourRows, all_rows}
use Rattle.colour_solver.specs.ConstraintVisits.{constraint_slots}
use Rattle.colour_solver.specs.Phases.{constraint_visit}
use Rattle.colour_solver.specs.States.{AreSameBeside, AreSameStates}
use Rattle.colour_solver.specs.RowVisits.{rows_passed}
use Rattle.colour_solver.proofs.SlotLaws.{passed_same, visit_slots}

-- ---- the same bodies move

abbrev SameMove : List BodyState → List BodyState → Type 0
SameMove old new = (slot : ℕ) → is_mover new slot ≡ is_mover old slot

colour_still : {R : Type 0} (at : R → Slots) (old new : List BodyState) (rows : List R) → SameMove old new → IsColour at old rows → IsColour at new rows
colour_still at old new rows same is = λ i j r e lt here there.
    let none = is i j r e lt here there in
    record {
      a_a = λ moves. none.a_a (sym (same (at r).a) ∙ moves);
      a_b = λ moves. none.a_b (sym (same (at r).a) ∙ moves);
      b_a = λ moves. none.b_a (sym (same (at r).b) ∙ moves);
      b_b = λ moves. none.b_b (sym (same (at r).b) ∙ moves);
    }

each_still : (old new : List BodyState) (r : ColourRows ConstraintRow) → SameMove old new → AreColours old r → AreColours new r
each_still old new r same all =
    All-weaker (λ (rs : List ConstraintRow). IsColour constraint_slots old rs) (λ (rs : List ConstraintRow). IsColour constraint_slots new rs) (λ rs is. colour_still constraint_slots old new rs same is) r.colours all

-- after what is done to movers alone, and after a whole step
pub colours_same : (old new : List BodyState) (r : ColourRows ConstraintRow) → AreSameStates old new → AreColours old r → AreColours new r
colours_same old new r same all = each_still old new r same.movable all

pub colours_beside : (old new : List BodyState) (r : ColourRows ConstraintRow) → AreSameBeside old new → AreColours old r → AreColours new r
colours_beside old new r same all = each_still old new r same.movable all

-- ---- each row's bodies stand where they stood

-- the row that stood where one stands now
record WasThere {R : Type 0} (at : R → Slots) (rows : List R) (i : ℕ) (now : R) : Type 0 where
  pub row : R
  pub there : slice_get rows i ≡ Some row
  pub same : at row ≡ at now

stood : {R : Type 0} (at : R → Slots) (rows visited : List R) (i : ℕ) (now : R) → map at visited ≡ map at rows → slice_get visited i ≡ Some now → WasThere at rows i now
stood at [] [] i now same here = absurd (cc here)
stood at [] (t ∷ visited) i now same here = absurd (cc same)
stood at (r ∷ rows) [] i now same here = absurd (cc same)
stood at (r ∷ rows) (t ∷ visited) zero now same here =
    let first : at t ≡ at r = cc same in
    let is : t ≡ now = cc here in
    record { row = r; there = refl; same = sym first ∙ ap at is }
stood at (r ∷ rows) (t ∷ visited) (suc i) now same here =
    let rest : map at visited ≡ map at rows = cc same in
    let known = stood at rows visited i now rest here in
    record { row = known.row; there = known.there; same = known.same }

colour_alike : {R : Type 0} (at : R → Slots) (ss : List BodyState) (rows visited : List R) → map at visited ≡ map at rows → IsColour at ss rows → IsColour at ss visited
colour_alike at ss rows visited same is = λ i j r e lt here there.
    let first = stood at rows visited i r same here in
    let second = stood at rows visited j e same there in
    let none = is i j first.row second.row lt first.there second.there in
    record {
      a_a = rw (← first.same, ← second.same) none.a_a;
      a_b = rw (← first.same, ← second.same) none.a_b;
      b_a = rw (← first.same, ← second.same) none.b_a;
      b_b = rw (← first.same, ← second.same) none.b_b;
    }

-- ---- colour by colour

front_same : {X : Type 0} (xs ys more rest : List X) → length xs ≡ length ys → xs ++ more ≡ ys ++ rest → xs ≡ ys
front_same [] [] more rest long e = refl
front_same [] (y ∷ ys) more rest long e = absurd (cc long)
front_same (x ∷ xs) [] more rest long e = absurd (cc long)
front_same {X} (x ∷ xs) (y ∷ ys) more rest long e =
    let first : x ≡ y = cc e in
    let tail : xs ++ more ≡ ys ++ rest = cc e in
    let later : xs ≡ ys = front_same xs ys more rest (omega (arith, long)) tail in
    cc (first, later)

back_same : {X : Type 0} (xs ys more rest : List X) → length xs ≡ length ys → xs ++ more ≡ ys ++ rest → more ≡ rest
back_same [] [] more rest long e = e
back_same [] (y ∷ ys) more rest long e = absurd (cc long)
back_same (x ∷ xs) [] more rest long e = absurd (cc long)
back_same (x ∷ xs) (y ∷ ys) more rest long e =
    let tail : xs ++ more ≡ ys ++ rest = cc e in
    back_same xs ys more rest (omega (arith, long)) tail

map_front : {R X : Type 0} (k : R → X) (xs : List R) (xss : List (List R)) (l : List R) → map k (flat_map (λ (rs : List R). rs) (xs ∷ xss) ++ l) ≡ map k xs ++ map k (flat_map (λ (rs : List R). rs) xss ++ l)
map_front {R} {X} k xs xss l = ap (map k) (append_assoc xs (flat_map (λ (rs : List R). rs) xss) l) ∙ map-append k xs (flat_map (λ (rs : List R). rs) xss ++ l)

colours_alike : {R : Type 0} (at : R → Slots) (ss : List BodyState) (old new : List (List R)) (left rest : List R) → map length new ≡ map length old
    → map at (flat_map (λ (rs : List R). rs) new ++ rest) ≡ map at (flat_map (λ (rs : List R). rs) old ++ left) → All (IsColour at ss) old → All (IsColour at ss) new
colours_alike at ss [] [] left rest long same all = All-nil (IsColour at ss)
colours_alike at ss [] (n ∷ new) left rest long same all = absurd (cc long)
colours_alike at ss (o ∷ old) [] left rest long same all = absurd (cc long)
colours_alike {R} at ss (o ∷ old) (n ∷ new) left rest long same all =
    let more : map length new ≡ map length old = cc long in
    let here : length n ≡ length o = cc long in
    let parts : map at n ++ map at (flat_map (λ (rs : List R). rs) new ++ rest) ≡ map at o ++ map at (flat_map (λ (rs : List R). rs) old ++ left) =
    sym (map_front at n new rest) ∙ same ∙ map_front at o old left in
    let as_many : length (map at n) ≡ length (map at o) = length-map n at ∙ here ∙ sym (length-map o at) in
    All-cons (IsColour at ss) n new
    (colour_alike at ss o n (front_same (map at n) (map at o) _ _ as_many parts) (All-head (IsColour at ss) o old all))
    (colours_alike at ss old new left rest more (back_same (map at n) (map at o) _ _ as_many parts) (All-tail (IsColour at ss) o old all))

-- after a pass
pub colours_passed : (phase : Phase) (ss ts : List BodyState) (old new : ColourRows ConstraintRow) → AreSameStates ss ts → map length new.colours ≡ map length old.colours → all_rows new ≡ rows_passed constraint_slots (constraint_visit phase) ss (all_rows old)
    → AreColours ss old → AreColours ts new
colours_passed phase ss ts old new same long are all =
    let slots : map constraint_slots (all_rows new) ≡ map constraint_slots (all_rows old) =
    ap (map constraint_slots) are ∙ passed_same constraint_slots (constraint_visit phase) constraint_slots (visit_slots phase) ss (all_rows old) in
    colours_same ss ts new same (colours_alike constraint_slots ss old.colours new.colours old.left new.left long slots all)
