-- The walk of a part over the stages of a pass: what its lists have in them after so many of them.
use Rattle.std.proofs.Common.{◌≡◌, ℕ, zero, suc, ◌+◌, ◌-◌, ◌<◌, ◌≤◌, Bool, true, false, cond, nat_eq, List, [], ◌∷◌, ◌++◌, drop, filter, get_or, length, map, take, All, arith, add-one, refl, sym, ap, ap₂, subst, ◌∙◌}
use Rattle.std.specs.List.{flat_map}
use Rattle.std.proofs.lemmas.List.{length-append, length-map, map-append, take_more, take_all}
use Rattle.momenta.specs.declared.state.BodyState.{BodyState}
use Rattle.colour_solver.specs.ColourRows.{AreEnds, cut, last_end}
use Rattle.colour_solver.specs.ConstraintVisits.{AreRowsBelow, IsRowBelow, constraint_slots}
use Rattle.colour_solver.specs.States.{movers_of, moves, places_from}
use Rattle.colour_solver.specs.declared.constraint_row.ConstraintRow.{ConstraintRow}
use Rattle.std.proofs.lemmas.List.Elements.{All-nil}
use Rattle.world_core_base.proofs.ColourLists.{all_joined}
use Rattle.part_runs.specs.Hidden.{owned, part_at, rows_of}
use Rattle.part_runs.specs.Laws.{AreWalksMade}
use Rattle.part_runs.specs.Runs.{Step, own_stages, stage_rows, walks_of}
use Rattle.part_runs.specs.Stages.{rows_at, stood, walk_at}
use Rattle.part_runs.specs.Walks.{Walk, own_left, setting_out, walk_home, walk_rows}
use Rattle.part_solver.specs.Benches.{HasSeen}
use Rattle.part_solver.specs.Running.{IsWalked}
use Rattle.part_solver.specs.declared.seat.Lists.{Lists}
use Rattle.part_solver.specs.Walking.{IsOnward, kept, owner_in}
use Rattle.part_solver.specs.declared.moves.BodyMove.{BodyMove}

-- ---- moves that are cut where stages end

pub ends_within : (n : ℕ) (ends : List ℕ) (last : ℕ) → AreEnds n ends last → n ≤ last
ends_within n [] last h = h
ends_within n (e ∷ ends) last h = let more : e ≤ last = ends_within e ends last h.1 in omega (arith, h.0, more)

drop-left : {X : Type 0} (k : ℕ) (xs : List X) → k ≤ length xs → k + length (drop k xs) ≡ length xs
drop-left zero xs h = omega arith
drop-left (suc k) [] h = absurd (omega (arith, h))
drop-left (suc k) (x ∷ xs) h = let rest = drop-left k xs (omega (arith, h)) in omega (arith, rest)

take-add : {X : Type 0} (k : ℕ) (xs more : List X) → k ≤ length xs → take k (xs ++ more) ≡ take k xs
take-add zero xs more h = refl
take-add (suc k) [] more h = absurd (omega (arith, h))
take-add {X} (suc k) (x ∷ xs) more h = ap (λ (l : List X). x ∷ l) (take-add k xs more (omega (arith, h)))

drop-add : {X : Type 0} (k : ℕ) (xs more : List X) → k ≤ length xs → drop k (xs ++ more) ≡ drop k xs ++ more
drop-add zero xs more h = refl
drop-add (suc k) [] more h = absurd (omega (arith, h))
drop-add (suc k) (x ∷ xs) more h = drop-add k xs more (omega (arith, h))

pub none_left : {X : Type 0} (xs : List X) → length xs ≡ 0 → xs ≡ []
none_left [] h = refl
none_left (x ∷ xs) h = absurd (omega (arith, h))

-- a stage more, whose moves are `more`
cut_on : {X : Type 0} (n e : ℕ) (ends : List ℕ) (moves more : List X) → AreEnds n ends (n + length moves) → last_end n ends ≡ n + length moves → e ≡ (n + length moves) + length more
    → cut n (ends ++ e ∷ []) (moves ++ more) ≡ cut n ends moves ++ more ∷ []
cut_on {X} n e [] moves more ascend last is =
    let none : moves ≡ [] = none_left moves (omega (arith, last)) in
    let long : length moves ≡ 0 = omega (arith, last) in
    let few : length more ≤ e - n = omega (arith, is, long) in
    ap (λ (l : List X). take (e - n) (l ++ more) ∷ []) none ∙ ap (λ (l : List X). l ∷ []) (take_all (e - n) more few)
cut_on {X} n e (d ∷ ends) moves more ascend last is =
    let high : d ≤ n + length moves = ends_within d ends (n + length moves) ascend.1 in
    let low : n ≤ d = ascend.0 in
    let inside : d - n ≤ length moves = omega (arith, low, high) in
    let long : (d - n) + length (drop (d - n) moves) ≡ length moves = drop-left (d - n) moves inside in
    let there : n + length moves ≡ d + length (drop (d - n) moves) = omega (arith, low, long, inside) in
    ap₂ (λ (a : List X) (b : List (List X)). a ∷ b) (take-add (d - n) moves more inside)
    (ap (λ (l : List X). cut d (ends ++ e ∷ []) l) (drop-add (d - n) moves more inside)
    ∙ cut_on d e ends (drop (d - n) moves) more (subst (λ (m : ℕ). AreEnds d ends m) there ascend.1) (last ∙ there) (is ∙ ap (λ (m : ℕ). m + length more) there))

last_on : (n e : ℕ) (ends : List ℕ) → last_end n (ends ++ e ∷ []) ≡ e
last_on n e [] = refl
last_on n e (d ∷ ends) = last_on d e ends

ends_on : (n e last : ℕ) (ends : List ℕ) → AreEnds n ends last → last ≤ e → AreEnds n (ends ++ e ∷ []) e
ends_on n e last [] h more = (omega (arith, h, more), omega arith)
ends_on n e last (d ∷ ends) h more = (h.0, ends_on d e last ends h.1 more)

-- ---- the moves of the first i stages

abbrev pub kept_in : ℕ → Walk → List BodyMove
kept_in k w = kept k w.moves

pub record AreMoved (t : Step) (k i : ℕ) (at ends : List ℕ) (moves : List BodyMove) : Type 0 where
  pub at_is : at ≡ stood t.home (walks_of t) i
  pub stages : cut 0 ends moves ≡ map (kept_in k) (take i (walks_of t))
  pub last : last_end 0 ends ≡ length moves
  pub ascend : AreEnds 0 ends (length moves)

pub moved_first : (t : Step) (k : ℕ) (at ends : List ℕ) (moves : List BodyMove) → at ≡ t.home → ends ≡ [] → moves ≡ [] → AreMoved t k 0 at ends moves
moved_first t k at ends moves is no_ends none = record {
  at_is = is;
  stages = (λ j. cut 0 (no_ends j) (none j));
  last = (λ j. last_end 0 (no_ends j)) ∙ sym (ap length none);
  ascend = subst (λ (l : List ℕ). AreEnds 0 l (length moves)) (sym no_ends) (omega arith);
}

pub moved_on : (t : Step) (k i : ℕ) (at after ends now : List ℕ) (moves new : List BodyMove) (w : Walk) → AreWalksMade t → i < length (walks_of t) → walk_at (walks_of t) i ≡ w → AreMoved t k i at ends moves → IsOnward k w after moves new
    → now ≡ ends ++ length new ∷ [] → AreMoved t k (i + 1) after now new
moved_on t k i at after ends now moves new w made lt is known onward ended =
    let more : List BodyMove = kept k w.moves in
    let e : ℕ = length new in
    let long : length new ≡ length moves + length more = ap length onward.moves ∙ length-append moves more in
    let plain : length moves ≡ 0 + length moves = omega arith in
    record {
      at_is = onward.at ∙ ap (λ (x : Walk). x.at) (sym is) ∙ sym (made.onward i lt);
      stages =
          (λ j. cut 0 (ended j) (onward.moves j)) ∙ cut_on 0 e ends moves more (subst (AreEnds 0 ends) plain known.ascend) (known.last ∙ plain) (omega (arith, long))
          ∙ ap₂ (λ (a : List (List BodyMove)) (x : Walk). a ++ kept_in k x ∷ []) known.stages (sym is)
          ∙ sym (map-append (kept_in k) (take i (walks_of t)) (walk_at (walks_of t) i ∷ []))
          ∙ ap (map (kept_in k)) (sym (take_more (walks_of t) i (setting_out []) lt));
      last = ap (last_end 0) ended ∙ last_on 0 e ends;
      ascend = subst (λ (l : List ℕ). AreEnds 0 l e) (sym ended) (ends_on 0 e (length moves) ends known.ascend (omega (arith, long)));
    }

-- ---- the part's rows of the first i stages

own_coloured : {X Y : Type 0} (f : X → Y) (xs : List X) (y d : Y) (e : X) (i : ℕ) → i < length xs → get_or (map f xs ++ y ∷ []) i d ≡ f (get_or xs i e)
own_coloured f [] y d e i lt = absurd (omega (arith, lt))
own_coloured f (x ∷ xs) y d e zero lt = refl
own_coloured f (x ∷ xs) y d e (suc i) lt = own_coloured f xs y d e i (omega (arith, lt))

own_last : {X Y : Type 0} (f : X → Y) (xs : List X) (y d : Y) → get_or (map f xs ++ y ∷ []) (length xs) d ≡ y
own_last f [] y d = refl
own_last f (x ∷ xs) y d = own_last f xs y d

none_or_if : (t : Bool) (left : List ConstraintRow) → filter (λ (r : ConstraintRow). t) left ≡ cond t left []
none_or_if true [] = refl
none_or_if true (r ∷ left) = ap (λ (l : List ConstraintRow). r ∷ l) (none_or_if true left)
none_or_if false [] = refl
none_or_if false (r ∷ left) = none_or_if false left

none_or_all : (k : ℕ) (left : List ConstraintRow) → filter (λ (r : ConstraintRow). nat_eq 0 k) left ≡ own_left k left
none_or_all k left = none_or_if (nat_eq 0 k) left

abbrev pub own_of : Step → ℕ → List (List ConstraintRow)
own_of t k = own_stages t.home k t.states (stage_rows t.rows)

own_count : (t : Step) (k : ℕ) → AreWalksMade t → length (own_of t k) ≡ length t.rows.colours + 1
own_count t k made =
    let f = rows_of constraint_slots (part_at t.home) k t.states in
    let long = length-append (map f t.rows.colours) (own_left k t.rows.left ∷ []) in
    let same = length-map t.rows.colours f in
    let is = ap length (made.own k) in
    omega (arith, long, same, is)

own_more : (t : Step) (k i : ℕ) (rows : List (List ConstraintRow)) (own : List ConstraintRow) (now : List (List ConstraintRow)) → i < length (own_of t k) → get_or (own_of t k) i [] ≡ own → rows ≡ take i (own_of t k) → now ≡ rows ++ own ∷ [] → now ≡ take (i + 1) (own_of t k)
own_more t k i rows own now lt is known made = made ∙ ap₂ (λ (a : List (List ConstraintRow)) (b : List ConstraintRow). a ++ b ∷ []) known (sym is) ∙ sym (take_more (own_of t k) i [] lt)

-- the rows of a colour
pub coloured_more : (t : Step) (k i : ℕ) (rows now : List (List ConstraintRow)) (whole : List ConstraintRow) → AreWalksMade t → i < length t.rows.colours → whole ≡ rows_at t.rows.colours i → rows ≡ take i (own_of t k)
    → now ≡ rows ++ owned (owner_in t.states t.home true) k whole ∷ [] → now ≡ take (i + 1) (own_of t k)
coloured_more t k i rows now whole made lt is known ended =
    let count = own_count t k made in
    let f = rows_of constraint_slots (part_at t.home) k t.states in
    own_more t k i rows (owned (owner_in t.states t.home true) k whole) now (omega (arith, lt, count))
    (ap (λ (l : List (List ConstraintRow)). get_or l i []) (made.own k) ∙ own_coloured f t.rows.colours (own_left k t.rows.left) [] [] i lt ∙ ap f (sym is)) known ended

-- those of the rows that have none
pub left_more : (t : Step) (k i : ℕ) (rows now : List (List ConstraintRow)) (whole : List ConstraintRow) → AreWalksMade t → i ≡ length t.rows.colours → whole ≡ t.rows.left → rows ≡ take i (own_of t k)
    → now ≡ rows ++ owned (owner_in t.states t.home false) k whole ∷ [] → now ≡ own_of t k
left_more t k i rows now whole made at is known ended =
    let count = own_count t k made in
    let f = rows_of constraint_slots (part_at t.home) k t.states in
    own_more t k i rows (owned (owner_in t.states t.home false) k whole) now (omega (arith, at, count))
    (ap₂ (λ (l : List (List ConstraintRow)) (j : ℕ). get_or l j []) (made.own k) at ∙ own_last f t.rows.colours (own_left k t.rows.left) [] ∙ sym (none_or_all k t.rows.left) ∙ ap (owned (owner_in t.states t.home false) k) (sym is)) known ended
    ∙ take_all (i + 1) (own_of t k) (omega (arith, at, count))

-- ---- how many rows are left

abbrev pub flat : List (List ConstraintRow) → List ConstraintRow
flat rows = flat_map (λ (rs : List ConstraintRow). rs) rows

count_left : (rows : List (List ConstraintRow)) (i : ℕ) → i < length rows → length (flat (drop i rows)) ≡ length (rows_at rows i) + length (flat (drop (suc i) rows))
count_left [] i lt = absurd (omega (arith, lt))
count_left (r ∷ rows) zero lt = length-append r (flat rows)
count_left (r ∷ rows) (suc i) lt = count_left rows i (omega (arith, lt))

-- the rows of a colour, as they are walked
pub left_room : (colours : List (List ConstraintRow)) (i n : ℕ) → i < length colours → n ≡ length (rows_at colours i) → length (flat (drop i colours)) ≡ n + length (flat (drop (i + 1) colours))
left_room colours i n lt is =
    let here = count_left colours i lt in
    let next : length (flat (drop (i + 1) colours)) ≡ length (flat (drop (suc i) colours)) = ap (λ (n : ℕ). length (flat (drop n colours))) (add-one i) in
    omega (arith, here, next, is)

few_if : {X : Type 0} (t : Bool) (x : X) (xs : List X) (n : ℕ) → length xs ≤ n → length (cond t (x ∷ xs) xs) ≤ suc n
few_if true x xs n h = omega (arith, h)
few_if false x xs n h = omega (arith, h)

few_places : (n : ℕ) (states : List BodyState) → length (places_from moves n states) ≤ length states
few_places n [] = omega arith
few_places n (s ∷ states) = few_if s.movable n (places_from moves (suc n) states) (length states) (few_places (suc n) states)

pub few_movers : (states : List BodyState) (awake : List ℕ) → awake ≡ movers_of states → length awake ≤ length states
few_movers states awake is = let few = few_places 0 states in let long = ap length is in omega (arith, few, long)

-- ---- all stages

-- the walk of a colour, and that of the rows that have none
pub coloured_is : (t : Step) (i : ℕ) (at : List ℕ) (whole : List ConstraintRow) → AreWalksMade t → i < length t.rows.colours → at ≡ stood t.home (walks_of t) i → whole ≡ rows_at t.rows.colours i
    → walk_at (walks_of t) i ≡ walk_rows t.states (owner_in t.states t.home true) whole (setting_out at)
coloured_is t i at whole made lt there is = made.coloured i lt ∙ ap₂ (λ (rows : List ConstraintRow) (l : List ℕ). walk_rows t.states (owner_in t.states t.home true) rows (setting_out l)) (sym is) (sym there)

pub left_is : (t : Step) (i : ℕ) (at : List ℕ) (whole : List ConstraintRow) → AreWalksMade t → i ≡ length t.rows.colours → at ≡ stood t.home (walks_of t) i → whole ≡ t.rows.left
    → walk_at (walks_of t) i ≡ walk_rows t.states (owner_in t.states t.home false) whole (setting_out at)
left_is t i at whole made last there is =
    ap (walk_at (walks_of t)) last ∙ made.left
    ∙ ap₂ (λ (rows : List ConstraintRow) (l : List ℕ). walk_rows t.states (owner_in t.states t.home false) rows (setting_out l)) (sym is) (ap (stood t.home (walks_of t)) (sym last) ∙ sym there)

pub home_is : (t : Step) (i : ℕ) (at awake : List ℕ) → AreWalksMade t → i ≡ length t.rows.colours + 1 → at ≡ stood t.home (walks_of t) i → awake ≡ movers_of t.states → walk_at (walks_of t) i ≡ walk_home t.home awake (setting_out at)
home_is t i at awake made last there is =
    ap (walk_at (walks_of t)) last ∙ made.home ∙ ap₂ (λ (slots l : List ℕ). walk_home t.home slots (setting_out l)) (sym is) (ap (stood t.home (walks_of t)) (sym last) ∙ sym there)

pub all_walked : (t : Step) (k i : ℕ) (at : List ℕ) (seen l : Lists) → HasSeen t k seen → AreWalksMade t → i ≡ length t.rows.colours + 2 → AreMoved t k i at l.ends.items l.moves.items → l.states.items ≡ seen.states.items → l.awake.items ≡ seen.awake.items → l.carried.items ≡ seen.carried.items
    → l.rows.colours ≡ own_of t k → l.rows.left ≡ [] → All (AreRowsBelow (length t.states)) l.rows.colours → IsWalked t k l
all_walked t k i at seen l first made last known states awake carried colours left below = record {
  walk = record {
    awake = awake ∙ first.awake;
    carried = carried ∙ first.carried;
    moves = known.stages ∙ ap (map (kept_in k)) (take_all i (walks_of t) (let many = made.count in omega (arith, last, many)));
    ends = known.ascend;
  };
  states = states ∙ first.states;
  colours = colours;
  left = left;
  rows = all_joined (IsRowBelow (length t.states)) l.rows.colours l.rows.left below (subst (AreRowsBelow (length t.states)) (sym left) (All-nil (IsRowBelow (length t.states))));
}
