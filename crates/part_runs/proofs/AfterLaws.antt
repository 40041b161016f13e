-- What passes by stages keep, and how the stages follow one another.
use Rattle.std.proofs.Common.{◌≡◌, ℕ, zero, suc, ◌+◌, ◌<◌, ◌≤◌, Bool, true, false, cond, List, [], ◌∷◌, ◌++◌, length, map, take, drop, add-one, arith, refl, sym, ap, ap₂, ◌∙◌}
use Rattle.std.specs.Prelude.{nat_eq, filter}
use Rattle.std.proofs.lemmas.List.{append-nil, append_assoc, drop_all, drop_more, take_all, take_more}
use Rattle.fixed_geom.specs.Vectors.{plus, zero_vector}
use Rattle.momenta.specs.declared.state.BodyState.{BodyState}
use Rattle.momenta.specs.declared.state.Ends.{Ends}
use Rattle.colour_solver_base.specs.RowsAfter.{RowAfter}
use Rattle.colour_solver.specs.declared.constraint_row.ConstraintRow.{ConstraintRow}
use Rattle.colour_solver.specs.declared.row_visits.Slots.{Slots}
use Rattle.colour_solver.specs.ConstraintVisits.{RowName, constraint_slots, row_name}
use Rattle.colour_solver.specs.RowVisits.{passed, rows_passed, share}
use Rattle.colour_solver.proofs.SlotLaws.{passed_same}
use Rattle.part_runs.specs.Hidden.{SameMovers, owned}
use Rattle.part_runs.specs.Walks.{Walk, first_part, home_of, own_left, setting_out}
use Rattle.part_runs.specs.Handing.{letter}
use Rattle.part_runs.specs.Passes.{IsFairVisit, given_to, letters, rows_after, states_after}
use Rattle.part_runs.specs.Runs.{Stand, Step, own_stages, pass_mail, visited, walks_of}
use Rattle.part_runs.specs.Stages.{bodies_in, given_from, own_at, rows_at, sent_in, states_at, stood, walk_at}
use Rattle.part_runs.proofs.PassApart.{passed_long, passed_moves}

-- ---- what stages keep

module _ (f : ConstraintRow → Ends → RowAfter ConstraintRow) (fair : IsFairVisit f) where
  pub after_moves : (rows : List (List ConstraintRow)) (ss : List BodyState) → SameMovers ss (states_after f ss rows)
  after_moves [] ss slot = refl
  after_moves (rs ∷ rows) ss slot = after_moves rows (passed constraint_slots f ss rs) slot ∙ passed_moves f fair rs ss slot

  pub after_long : (rows : List (List ConstraintRow)) (ss : List BodyState) → length (states_after f ss rows) ≡ length ss
  after_long [] ss = refl
  after_long (rs ∷ rows) ss = after_long rows (passed constraint_slots f ss rs) ∙ passed_long f fair rs ss

  -- rows stay where they are, each of its constraint
  pub slots_after : (rows : List (List ConstraintRow)) (ss : List BodyState) → map (map constraint_slots) (rows_after f ss rows) ≡ map (map constraint_slots) rows
  slots_after [] ss = refl
  slots_after (rs ∷ rows) ss = ap₂ (λ (x : List Slots) (l : List (List Slots)). x ∷ l) (passed_same constraint_slots f constraint_slots fair.slots ss rs) (slots_after rows (passed constraint_slots f ss rs))

  pub names_after : (rows : List (List ConstraintRow)) (ss : List BodyState) → map (map row_name) (rows_after f ss rows) ≡ map (map row_name) rows
  names_after [] ss = refl
  names_after (rs ∷ rows) ss = ap₂ (λ (x : List RowName) (l : List (List RowName)). x ∷ l) (passed_same constraint_slots f row_name fair.name ss rs) (names_after rows (passed constraint_slots f ss rs))

-- ---- stage after stage

states_on : (f : ConstraintRow → Ends → RowAfter ConstraintRow) (xs ys : List (List ConstraintRow)) (ss : List BodyState) → states_after f ss (xs ++ ys) ≡ states_after f (states_after f ss xs) ys
states_on f [] ys ss = refl
states_on f (x ∷ xs) ys ss = states_on f xs ys (passed constraint_slots f ss x)

pub next_states : (f : ConstraintRow → Ends → RowAfter ConstraintRow) (s : Stand) (i : ℕ) → i < length s.rows → states_at f s (i + 1) ≡ passed constraint_slots f (states_at f s i) (rows_at s.rows i)
next_states f s i lt = ap (states_after f s.states) (take_more s.rows i [] lt) ∙ states_on f (take i s.rows) (rows_at s.rows i ∷ []) s.states

rows_next : (f : ConstraintRow → Ends → RowAfter ConstraintRow) (rows : List (List ConstraintRow)) (ss : List BodyState) (i : ℕ) → i < length rows → rows_at (rows_after f ss rows) i ≡ rows_passed constraint_slots f (states_after f ss (take i rows)) (rows_at rows i)
rows_next f [] ss i lt = absurd (omega (arith, lt))
rows_next f (rs ∷ rows) ss zero lt = refl
rows_next f (rs ∷ rows) ss (suc i) lt = rows_next f rows (passed constraint_slots f ss rs) i (omega (arith, lt))

pub rows_after_at : (f : ConstraintRow → Ends → RowAfter ConstraintRow) (s : Stand) (i : ℕ) → i < length s.rows → rows_at (visited f s).rows i ≡ rows_passed constraint_slots f (states_at f s i) (rows_at s.rows i)
rows_after_at f s i lt = rows_next f s.rows s.states i lt

pub last_states : (f : ConstraintRow → Ends → RowAfter ConstraintRow) (s : Stand) → states_at f s (length s.rows) ≡ (visited f s).states
last_states f s = ap (states_after f s.states) (take_all (length s.rows) s.rows (omega arith))

-- who has each body after a stage
stood_next : (home : List ℕ) (walks : List Walk) (i : ℕ) → i < length walks → stood home walks (suc i) ≡ (walk_at walks i).at
stood_next home [] i lt = absurd (omega (arith, lt))
stood_next home (w ∷ walks) zero lt = refl
stood_next home (w ∷ walks) (suc i) lt = stood_next w.at walks i (omega (arith, lt))

pub stood_on : (home : List ℕ) (walks : List Walk) (i : ℕ) → i < length walks → stood home walks (i + 1) ≡ (walk_at walks i).at
stood_on home walks i lt = ap (stood home walks) (add-one i) ∙ stood_next home walks i lt

-- ---- letters

letters_next : (u v : ℕ) (f : ConstraintRow → Ends → RowAfter ConstraintRow) (walks : List Walk) (rows : List (List ConstraintRow)) (ss : List BodyState) (i : ℕ) → i < length walks → i ≤ length rows
    → letters u v f (take (suc i) walks) ss rows ≡ letters u v f (take i walks) ss rows ++ letter u v (walk_at walks i) (states_after f ss (take i rows))
letters_next u v f [] rows ss i lt le = absurd (omega (arith, lt))
letters_next u v f (w ∷ walks) [] ss zero lt le = refl
letters_next u v f (w ∷ walks) (rs ∷ rows) ss zero lt le = append-nil (letter u v w ss)
letters_next u v f (w ∷ walks) [] ss (suc i) lt le = absurd (omega (arith, le))
letters_next u v f (w ∷ walks) (rs ∷ rows) ss (suc i) lt le =
    let now : List BodyState = passed constraint_slots f ss rs in
    ap (λ (l : List BodyState). letter u v w ss ++ l) (letters_next u v f walks rows now i (omega (arith, lt)) (omega (arith, le)))
    ∙ sym (append_assoc (letter u v w ss) (letters u v f (take i walks) now rows) (letter u v (walk_at walks i) (states_after f now (take i rows))))

pub sent_next : (u v : ℕ) (t : Step) (f : ConstraintRow → Ends → RowAfter ConstraintRow) (s : Stand) (i : ℕ) → i < length (walks_of t) → i ≤ length s.rows → sent_in u v t f s (i + 1) ≡ sent_in u v t f s i ++ letter u v (walk_at (walks_of t) i) (states_at f s i)
sent_next u v t f s i lt le = ap (λ (n : ℕ). letters u v f (take n (walks_of t)) s.states s.rows) (add-one i) ∙ letters_next u v f (walks_of t) s.rows s.states i lt le

pub all_sent : (u v : ℕ) (t : Step) (f : ConstraintRow → Ends → RowAfter ConstraintRow) (s : Stand) (i : ℕ) → length (walks_of t) ≡ i + 1 → i ≤ length s.rows → pass_mail u v (walks_of t) f s ≡ sent_in u v t f s i ++ letter u v (walk_at (walks_of t) i) (states_at f s i)
all_sent u v t f s i long le =
    ap (λ (l : List Walk). letters u v f l s.states s.rows) (sym (take_all (suc i) (walks_of t) (omega (arith, long)))) ∙ letters_next u v f (walks_of t) s.rows s.states i (omega (arith, long)) le

-- ---- what immovable bodies give from a stage on

pub given_next : (t : Step) (k : ℕ) (f : ConstraintRow → Ends → RowAfter ConstraintRow) (s : Stand) (i : ℕ) → i < length (walks_of t) → i < length s.rows → i < length (own_stages t.home k t.states s.rows)
    → given_from t k f s i ≡ plus (share constraint_slots f (bodies_in t k f s i) (own_at t k s i)) (given_from t k f s (i + 1))
given_next t k f s i more lt own_lt =
    let walks : List Walk = walks_of t in
    let own : List (List ConstraintRow) = own_stages t.home k t.states s.rows in
    let w = drop_more walks i (setting_out []) more in
    let r = drop_more s.rows i [] lt in
    let o = drop_more own i [] own_lt in
    (λ j. given_to f k (w j) (states_at f s i) (r j) (o j))
    ∙ ap (λ (ss : List BodyState). plus (share constraint_slots f (bodies_in t k f s i) (own_at t k s i)) (given_to f k (drop (i + 1) walks) ss (drop (i + 1) s.rows) (drop (i + 1) own))) (sym (next_states f s i lt))

pub given_none : (f : ConstraintRow → Ends → RowAfter ConstraintRow) (k : ℕ) (walks : List Walk) (ss : List BodyState) (own : List (List ConstraintRow)) → given_to f k walks ss [] own ≡ zero_vector
given_none f k [] ss own = refl
given_none f k (w ∷ walks) ss own = refl

pub given_last : (t : Step) (k : ℕ) (f : ConstraintRow → Ends → RowAfter ConstraintRow) (s : Stand) → given_from t k f s (length s.rows) ≡ zero_vector
given_last t k f s =
    let n : ℕ = length s.rows in
    ap (λ (l : List (List ConstraintRow)). given_to f k (drop n (walks_of t)) (states_at f s n) l (drop n (own_stages t.home k t.states s.rows))) (drop_all n s.rows (omega arith))
    ∙ given_none f k (drop n (walks_of t)) (states_at f s n) (drop n (own_stages t.home k t.states s.rows))

-- ---- the rows of a part

filter_all : {X : Type 0} (t : Bool) (xs : List X) → cond t xs [] ≡ filter (λ (x : X). t) xs
filter_all true [] = refl
filter_all false [] = refl
filter_all true (x ∷ xs) = ap (λ (l : List _). x ∷ l) (filter_all true xs)
filter_all false (x ∷ xs) = filter_all false xs

pub left_is : (k : ℕ) (left : List ConstraintRow) → own_left k left ≡ owned first_part k left
left_is k left = filter_all (nat_eq 0 k) left

pub own_colour_at : (home : List ℕ) (k : ℕ) (first : List BodyState) (rows : List (List ConstraintRow)) (i m : ℕ) → length rows ≡ m + 1 → i < m → rows_at (own_stages home k first rows) i ≡ owned (home_of home first) k (rows_at rows i)
own_colour_at home k first [] i m long lt = absurd (omega (arith, long))
own_colour_at home k first (rs ∷ []) i m long lt = absurd (omega (arith, long, lt))
own_colour_at home k first (rs ∷ next ∷ rows) zero m long lt = refl
own_colour_at home k first (rs ∷ next ∷ rows) (suc i) zero long lt = absurd (omega (arith, lt))
own_colour_at home k first (rs ∷ next ∷ rows) (suc i) (suc m) long lt = own_colour_at home k first (next ∷ rows) i m (omega (arith, long)) (omega (arith, lt))

pub own_left_at : (home : List ℕ) (k : ℕ) (first : List BodyState) (rows : List (List ConstraintRow)) (m : ℕ) → length rows ≡ m + 1 → rows_at (own_stages home k first rows) m ≡ owned first_part k (rows_at rows m)
own_left_at home k first [] m long = absurd (omega (arith, long))
own_left_at home k first (rs ∷ []) zero long = left_is k rs
own_left_at home k first (rs ∷ []) (suc m) long = absurd (omega (arith, long))
own_left_at home k first (rs ∷ next ∷ rows) zero long = absurd (omega (arith, long))
own_left_at home k first (rs ∷ next ∷ rows) (suc m) long = own_left_at home k first (next ∷ rows) m (omega (arith, long))

pub count_own : (home : List ℕ) (k : ℕ) (first : List BodyState) (rows : List (List ConstraintRow)) → length (own_stages home k first rows) ≡ length rows
count_own home k first [] = refl
count_own home k first (rs ∷ []) = refl
count_own home k first (rs ∷ next ∷ rows) = ap suc (count_own home k first (next ∷ rows))
