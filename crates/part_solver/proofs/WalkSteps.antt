-- The walk of a part, one row and one stage further.
use Rattle.std.proofs.Common.{◌≡◌, ℕ, ◌+◌, ◌<◌, Bool, true, false, cond, List, [], ◌∷◌, ◌++◌, filter, get_or, length, map, nat_eq, take, set, refl, sym, ap, subst, ◌∙◌}
use Rattle.std.proofs.lemmas.List.{append-nil, append_assoc, map-append, take_more}
use Rattle.std.proofs.lemmas.List.Elements.{filter-append}
use Rattle.momenta.specs.declared.state.BodyState.{BodyState}
use Rattle.joint_rows.specs.declared.row.JointRow.{JointRow}
use Rattle.colour_solver.specs.Colour.{is_mover}
use Rattle.colour_solver.specs.ConstraintVisits.{constraint_slots, contacts_among}
use Rattle.colour_solver.specs.declared.constraint_row.ConstraintRow.{ConstraintRow}
use Rattle.colour_solver.specs.declared.constraint_row.ConstraintRow.TheVariants.{Joint}
use Rattle.colour_solver.specs.declared.row_visits.Slots.{Slots}
use Rattle.part_runs.specs.Hidden.{owned, part_at}
use Rattle.part_runs.specs.Walks.{Move, Walk, fetched, fetched_mover, row_fetched, setting_out, touches, walk_home, walk_rows}
use Rattle.part_solver.specs.Walking.{IsOnward, kept, slots_fetched}
use Rattle.part_solver.specs.declared.moves.BodyMove.{BodyMove}
use Rattle.part_solver.proofs.HandingOn.{as_body}

-- ---- one walk behind another

abbrev pub joined : Walk → Walk → Walk
joined w v = record { at = v.at; moves = w.moves ++ v.moves }

-- the walk w goes on from where it has come to
pub joined_none : (w : Walk) → joined w (setting_out w.at) ≡ w
joined_none w = ap (λ (m : List Move). record { at = w.at; moves = m }) (append-nil w.moves)

fetch_if : (t : Bool) (to slot : ℕ) (w v : Walk) → cond t (joined w v) (record { at = set v.at slot to; moves = (w.moves ++ v.moves) ++ record { slot = slot; from = part_at v.at slot; to = to } ∷ [] })
    ≡ joined w (cond t v (record { at = set v.at slot to; moves = v.moves ++ record { slot = slot; from = part_at v.at slot; to = to } ∷ [] }))
fetch_if true to slot w v = refl
fetch_if false to slot w v = ap (λ (m : List Move). record { at = set v.at slot to; moves = m }) (append_assoc w.moves v.moves (record { slot = slot; from = part_at v.at slot; to = to } ∷ []))

pub fetched_behind : (to slot : ℕ) (w v : Walk) → fetched to slot (joined w v) ≡ joined w (fetched to slot v)
fetched_behind to slot w v = fetch_if (nat_eq (part_at v.at slot) to) to slot w v

mover_if : (t : Bool) (to slot : ℕ) (w v : Walk) → cond t (fetched to slot (joined w v)) (joined w v) ≡ joined w (cond t (fetched to slot v) v)
mover_if true to slot w v = fetched_behind to slot w v
mover_if false to slot w v = refl

mover_behind : (states : List BodyState) (to slot : ℕ) (w v : Walk) → fetched_mover states to slot (joined w v) ≡ joined w (fetched_mover states to slot v)
mover_behind states to slot w v = mover_if (is_mover states slot) to slot w v

row_behind : (states : List BodyState) (to : ℕ) (r : ConstraintRow) (w v : Walk) → row_fetched states to r (joined w v) ≡ joined w (row_fetched states to r v)
row_behind states to r w v =
    ap (fetched_mover states to (constraint_slots r).b) (mover_behind states to (constraint_slots r).a w v) ∙ mover_behind states to (constraint_slots r).b w (fetched_mover states to (constraint_slots r).a v)

rows_behind : (states : List BodyState) (to : ConstraintRow → ℕ) (rows : List ConstraintRow) (w v : Walk) → walk_rows states to rows (joined w v) ≡ joined w (walk_rows states to rows v)
rows_behind states to [] w v = refl
rows_behind states to (r ∷ rows) w v = ap (walk_rows states to rows) (row_behind states (to r) r w v) ∙ rows_behind states to rows w (row_fetched states (to r) r v)

-- a row further, and some rows further
pub rows_then : (states : List BodyState) (to : ConstraintRow → ℕ) (rows more : List ConstraintRow) (w : Walk) → walk_rows states to (rows ++ more) w ≡ walk_rows states to more (walk_rows states to rows w)
rows_then states to [] more w = refl
rows_then states to (r ∷ rows) more w = rows_then states to rows more (row_fetched states (to r) r w)

pub rows_on : (states : List BodyState) (to : ConstraintRow → ℕ) (rows more : List ConstraintRow) (w : Walk)
    → walk_rows states to (rows ++ more) w ≡ joined (walk_rows states to rows w) (walk_rows states to more (setting_out (walk_rows states to rows w).at))
rows_on states to rows more w =
    let here : Walk = walk_rows states to rows w in
    rows_then states to rows more w ∙ ap (walk_rows states to more) (sym (joined_none here)) ∙ rows_behind states to more here (setting_out here.at)

home_then : (home slots more : List ℕ) (w : Walk) → walk_home home (slots ++ more) w ≡ walk_home home more (walk_home home slots w)
home_then home [] more w = refl
home_then home (slot ∷ slots) more w = home_then home slots more (fetched (part_at home slot) slot w)

pub home_on : (home slots : List ℕ) (slot : ℕ) (w : Walk)
    → walk_home home (slots ++ slot ∷ []) w ≡ joined (walk_home home slots w) (fetched (part_at home slot) slot (setting_out (walk_home home slots w).at))
home_on home slots slot w =
    let here : Walk = walk_home home slots w in
    home_then home slots (slot ∷ []) w ∙ ap (fetched (part_at home slot) slot) (sym (joined_none here)) ∙ fetched_behind (part_at home slot) slot here (setting_out here.at)

-- ---- what a part keeps of it

pub kept_then : (k : ℕ) (moves more : List Move) → kept k (moves ++ more) ≡ kept k moves ++ kept k more
kept_then k moves more = ap (map as_body) (filter-append (touches k) moves more) ∙ map-append as_body (filter (touches k) moves) (filter (touches k) more)

pub onward_then : (k : ℕ) (w v : Walk) (mid after : List ℕ) (old between new : List BodyMove) → IsOnward k w mid old between → IsOnward k v after between new → IsOnward k (joined w v) after old new
onward_then k w v mid after old between new first next = record {
  at = next.at;
  moves = next.moves ∙ ap (λ (l : List BodyMove). l ++ kept k v.moves) first.moves ∙ append_assoc old (kept k w.moves) (kept k v.moves) ∙ ap (λ (l : List BodyMove). old ++ l) (sym (kept_then k w.moves v.moves));
}

-- some rows further
pub rows_onward : (k : ℕ) (states : List BodyState) (to : ConstraintRow → ℕ) (rows more : List ConstraintRow) (at mid after : List ℕ) (old between new : List BodyMove)
    → IsOnward k (walk_rows states to rows (setting_out at)) mid old between → IsOnward k (walk_rows states to more (setting_out mid)) after between new → IsOnward k (walk_rows states to (rows ++ more) (setting_out at)) after old new
rows_onward k states to rows more at mid after old between new first next =
    let w : Walk = walk_rows states to rows (setting_out at) in
    subst (λ (x : Walk). IsOnward k x after old new) (sym (rows_on states to rows more (setting_out at)))
    (onward_then k w (walk_rows states to more (setting_out w.at)) mid after old between new first (subst (λ (l : List ℕ). IsOnward k (walk_rows states to more (setting_out l)) after between new) first.at next))

-- a row further, whose part and whose slots are these
pub row_onward : (k : ℕ) (states : List BodyState) (to : ConstraintRow → ℕ) (rows : List ConstraintRow) (r : ConstraintRow) (part : ℕ) (s : Slots) (at mid after : List ℕ) (old between new : List BodyMove)
    → part ≡ to r → s ≡ constraint_slots r → IsOnward k (walk_rows states to rows (setting_out at)) mid old between → IsOnward k (slots_fetched states part s (setting_out mid)) after between new
    → IsOnward k (walk_rows states to (rows ++ r ∷ []) (setting_out at)) after old new
row_onward k states to rows r part s at mid after old between new is there first next =
    rows_onward k states to rows (r ∷ []) at mid after old between new first (subst (λ (p : ℕ). IsOnward k (slots_fetched states p (constraint_slots r) (setting_out mid)) after between new) is (subst (λ (x : Slots). IsOnward k (slots_fetched states part x (setting_out mid)) after between new) there next))

-- a slot further on the way home
pub home_onward : (k : ℕ) (home slots : List ℕ) (slot to : ℕ) (at mid after : List ℕ) (old between new : List BodyMove) → to ≡ part_at home slot
    → IsOnward k (walk_home home slots (setting_out at)) mid old between → IsOnward k (fetched to slot (setting_out mid)) after between new → IsOnward k (walk_home home (slots ++ slot ∷ []) (setting_out at)) after old new
home_onward k home slots slot to at mid after old between new is first next =
    let w : Walk = walk_home home slots (setting_out at) in
    subst (λ (x : Walk). IsOnward k x after old new) (sym (home_on home slots slot (setting_out at)))
    (onward_then k w (fetched (part_at home slot) slot (setting_out w.at)) mid after old between new first
    (subst (λ (l : List ℕ). IsOnward k (fetched (part_at home slot) slot (setting_out l)) after between new) first.at (subst (λ (p : ℕ). IsOnward k (fetched p slot (setting_out mid)) after between new) is next)))

-- ---- a row further in a list

pub mapped_next : {X Y : Type 0} (f : X → Y) (xs : List X) (i : ℕ) (x : X) → i < length xs → x ≡ get_or xs i x → map f (take (i + 1) xs) ≡ map f (take i xs) ++ f x ∷ []
mapped_next {X} {Y} f xs i x lt is = ap (map f) (take_more xs i x lt) ∙ map-append f (take i xs) (get_or xs i x ∷ []) ∙ ap (λ (y : X). map f (take i xs) ++ f y ∷ []) (sym is)
