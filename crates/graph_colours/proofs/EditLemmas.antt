-- Edits that ascend, made one after the other, are one pass.
use Rattle.std.proofs.Common.{◌≡◌, ℕ, zero, suc, ◌+◌, ◌<◌, ◌≤◌, ◌-◌, ◌==◌, ◌++◌, Bool, true, false, not, cond, List, [], ◌∷◌, length, get_or, drop, take, nat_lt, subst, refl, sym, ap, ◌∙◌, arith}
use Rattle.std.specs.List.{All, AllWithin, AllPairs}
use Rattle.std.proofs.lemmas.List.{append_assoc, drop-drop, drop_more, length-drop}
use Rattle.std.proofs.lemmas.List.Elements.{All-nil, All-cons, All-head, All-tail}
use Rattle.graph_colours.specs.declared.member.Member.{Member}
use Rattle.graph_colours.specs.declared.edits.Edit.{Edit}
use Rattle.graph_colours.specs.Members.{AreRising, inserted, without_member}
use Rattle.graph_colours.specs.FoundMembers.{is_at}
use Rattle.graph_colours.specs.Edits.{edit_number, put, added, edited, all_edited, AreInOrder, IsEdited}
use Rattle.graph_colours.proofs.Cases.{by_test, true_or_false}
use Rattle.graph_colours.proofs.PlaceLemmas.{is_lower, not_lower, is_same, not_same, same_from, without_none}
use Rattle.graph_colours.proofs.ListLemmas.{pairs_head, pairs_tail, rising_inserted, rising_without}
use Rattle.graph_colours.proofs.SearchLemmas.{has_without}

-- by which way an edit goes
pub by_way : {C : Type 0} (number : C → ℕ) (P : List (Member C) → Type 0) (e : Edit C) (ms : List (Member C)) → (e.adds ≡ true → P (put number e.member ms)) → (e.adds ≡ false → P (without_member number e.member.id ms)) → P (edited number e ms)
by_way number P e ms adds takes = by_test P e.adds (put number e.member ms) (without_member number e.member.id ms) adds takes

-- ---- a pass

-- a member below an edit stays where it is
inserted_after : {C : Type 0} (number : C → ℕ) (m x : Member C) (ms : List (Member C)) → number x.id < number m.id → inserted number m (x ∷ ms) ≡ x ∷ inserted number m ms
inserted_after number m x ms lt = rw (is_lower (number x.id) (number m.id) lt) refl

without_after : {C : Type 0} (number : C → ℕ) (id : C) (x : Member C) (ms : List (Member C)) → number x.id < number id → without_member number id (x ∷ ms) ≡ x ∷ without_member number id ms
unfolding without_member
without_after number id x ms lt = rw (not_same (number x.id) (number id) (λ e. omega (arith, lt, e))) refl

after_by : {C : Type 0} (number : C → ℕ) (t : Bool) (m x : Member C) (ms : List (Member C)) → number x.id < number m.id → cond t (put number m (x ∷ ms)) (without_member number m.id (x ∷ ms)) ≡ x ∷ cond t (put number m ms) (without_member number m.id ms)
after_by {C} number true m x ms lt = ap (λ (l : List (Member C)). inserted number m l) (without_after number m.id x ms lt) ∙ inserted_after number m x (without_member number m.id ms) lt
after_by number false m x ms lt = without_after number m.id x ms lt

pub edited_after : {C : Type 0} (number : C → ℕ) (e : Edit C) (x : Member C) (ms : List (Member C)) → number x.id < edit_number number e → edited number e (x ∷ ms) ≡ x ∷ edited number e ms
edited_after number e x ms lt = after_by number e.adds e.member x ms lt

-- members below all edits are final
pub head_stays : {C : Type 0} (number : C → ℕ) (es : List (Edit C)) (x : Member C) (ms : List (Member C)) → All (λ e. number x.id < edit_number number e) es → all_edited number es (x ∷ ms) ≡ x ∷ all_edited number es ms
head_stays number [] x ms below = refl
head_stays {C} number (e ∷ es) x ms below =
    let Below : Edit C → Type 0 = λ d. number x.id < edit_number number d in
    ap (λ (l : List (Member C)). all_edited number es l) (edited_after number e x ms (All-head Below e es below)) ∙ head_stays number es x (edited number e ms) (All-tail Below e es below)

abbrev pub AreBelowAll : {C : Type 0} → (C → ℕ) → List (Edit C) → Member C → Type 0
AreBelowAll number es m = All (λ e. number m.id < edit_number number e) es

pub front_stays : {C : Type 0} (number : C → ℕ) (es : List (Edit C)) (xs ms : List (Member C)) → All (AreBelowAll number es) xs → all_edited number es (xs ++ ms) ≡ xs ++ all_edited number es ms
front_stays number es [] ms below = refl
front_stays {C} number es (x ∷ xs) ms below =
    let P : Member C → Type 0 = AreBelowAll number es in
    head_stays number es x (xs ++ ms) (All-head P x xs below) ∙ ap (λ (l : List (Member C)). x ∷ l) (front_stays number es xs ms (All-tail P x xs below))

-- the first members of a list, up to a place
pub front_all : {X : Type 0} (P : X → Type 0) (xs : List X) (n : ℕ) → AllWithin P xs 0 n → All P (take n xs)
front_all P [] zero h = All-nil P
front_all P [] (suc n) h = All-nil P
front_all P (x ∷ xs) zero h = All-nil P
front_all P (x ∷ xs) (suc n) h = All-cons P x (take n xs) (h 0 x (omega arith) (omega arith)) (front_all P xs n (λ k d low high. h (suc k) d (omega arith) (omega arith)))

pub take_drop : {X : Type 0} (xs : List X) (n : ℕ) → take n xs ++ drop n xs ≡ xs
take_drop [] zero = refl
take_drop [] (suc n) = refl
take_drop (x ∷ xs) zero = refl
take_drop (x ∷ xs) (suc n) = ap (λ l. x ∷ l) (take_drop xs n)

pub take_whole : {X : Type 0} (xs : List X) (n : ℕ) → length xs ≤ n → take n xs ≡ xs
take_whole [] zero le = refl
take_whole [] (suc n) le = refl
take_whole (x ∷ xs) zero le = absurd (omega arith)
take_whole (x ∷ xs) (suc n) le = ap (λ l. x ∷ l) (take_whole xs n (omega arith))

-- ---- one edit of a pass

pub rising_drop : {C : Type 0} (number : C → ℕ) (n : ℕ) (ms : List (Member C)) → AreRising number ms → AreRising number (drop n ms)
rising_drop number zero ms rising = rising
rising_drop number (suc n) [] rising = rising
rising_drop number (suc n) (x ∷ xs) rising = rising_drop number n xs (pairs_tail (λ a b. number a.id < number b.id) x xs rising)

-- what holds from a place on
pub rest_all : {X : Type 0} (P : X → Type 0) (xs : List X) (n : ℕ) → AllWithin P xs n (length xs) → All P (drop n xs)
rest_all P [] zero h = All-nil P
rest_all P [] (suc n) h = All-nil P
rest_all P (x ∷ xs) zero h = λ k d lt. h k d (omega arith) lt
rest_all P (x ∷ xs) (suc n) h = rest_all P xs n (λ k d low high. h (suc k) d (omega arith) (omega arith))

added_front : {C : Type 0} (number : C → ℕ) (m : Member C) (ys : List (Member C)) → All (λ y. number m.id ≤ number y.id) ys → inserted number m ys ≡ m ∷ ys
added_front number m [] after = refl
added_front {C} number m (y ∷ ys) after = rw (not_lower (number y.id) (number m.id) (All-head (λ (z : Member C). number m.id ≤ number z.id) y ys after)) refl

taken_front : {C : Type 0} (number : C → ℕ) (id : C) (ys : List (Member C)) → AreRising number ys → is_at number (number id) ys ≡ true → without_member number id ys ≡ drop 1 ys
unfolding without_member
taken_front number id [] rising at = absurd (true_or_false false at refl)
taken_front {C} number id (y ∷ ys) rising at =
    let up : All (λ z. number y.id < number z.id) ys = pairs_head (λ (a b : Member C). number a.id < number b.id) y ys rising in
    let same : number y.id ≡ number id = same_from (number y.id) (number id) at in
    rw at (sym (without_none number id ys (λ k d lt e. let u : number y.id < number (get_or ys k d).id = up k d lt in omega (arith, u, same, e))))

kept_front : {C : Type 0} (number : C → ℕ) (id : C) (ys : List (Member C)) → AreRising number ys → All (λ y. number id ≤ number y.id) ys → is_at number (number id) ys ≡ false → without_member number id ys ≡ ys
unfolding without_member
kept_front number id [] rising after at = refl
kept_front {C} number id (y ∷ ys) rising after at =
    let le : number id ≤ number y.id = All-head (λ (z : Member C). number id ≤ number z.id) y ys after in
    let other : number y.id ≡ number id → ⊥ = λ e. true_or_false (number y.id == number id) (is_same (number y.id) (number id) e) at in
    let up : All (λ z. number y.id < number z.id) ys = pairs_head (λ (a b : Member C). number a.id < number b.id) y ys rising in
    sym (without_none number id (y ∷ ys) (apart y ys le other up))
  where
    apart : (y : Member C) (ys : List (Member C)) → number id ≤ number y.id → (number y.id ≡ number id → ⊥) → All (λ z. number y.id < number z.id) ys → (k : ℕ) (d : Member C) → k < length (y ∷ ys) → number (get_or (y ∷ ys) k d).id ≡ number id → ⊥
    apart y ys le other up zero d lt e = other e
    apart y ys le other up (suc k) d lt e = let u : number y.id < number (get_or ys k d).id = up k d (omega arith) in omega (arith, u, le, e)

-- the edit among the members from its place on
made_by : {C : Type 0} (number : C → ℕ) (t : Bool) (m : Member C) (ms left : List (Member C)) → without_member number m.id ms ≡ left → All (λ y. number m.id ≤ number y.id) left → cond t (put number m ms) (without_member number m.id ms) ≡ cond t (m ∷ []) [] ++ left
made_by {C} number true m ms left gone after = ap (λ (l : List (Member C)). inserted number m l) gone ∙ added_front number m left after
made_by number false m ms left gone after = gone

added_below : {C : Type 0} (number : C → ℕ) (t : Bool) (m : Member C) (later : List (Edit C)) → All (λ d. number m.id < edit_number number d) later → All (AreBelowAll number later) (cond t (m ∷ []) [])
added_below number true m later up = All-cons (AreBelowAll number later) m [] up (All-nil (AreBelowAll number later))
added_below number false m later up = All-nil (AreBelowAll number later)

takes_by : {C : Type 0} (number : C → ℕ) (e : Edit C) (ms : List (Member C)) → e.adds ≡ false → edited number e ms ≡ without_member number e.member.id ms
takes_by number e ms h = rw h refl

-- members below an edit are below all later ones
below_later : {C : Type 0} (number : C → ℕ) (e : Edit C) (later : List (Edit C)) (xs : List (Member C)) → All (λ m. number m.id < edit_number number e) xs → All (λ d. edit_number number e < edit_number number d) later → All (AreBelowAll number (e ∷ later)) xs
below_later {C} number e later xs below up = λ k d lt.
    let here : number (get_or xs k d).id < edit_number number e = below k d lt in
    All-cons (λ (f : Edit C). number (get_or xs k d).id < edit_number number f) e later here (λ j f less. let u : edit_number number e < edit_number number (get_or later j f) = up j f less in omega (arith, here, u))

-- a pass comes to an edit: those before it are final
pub comes_to : {C : Type 0} (number : C → ℕ) (e : Edit C) (later : List (Edit C)) (ms : List (Member C)) (i : ℕ) → AllWithin (λ m. number m.id < edit_number number e) ms 0 i → All (λ d. edit_number number e < edit_number number d) later → all_edited number (e ∷ later) ms ≡ take i ms ++ all_edited number later (edited number e (drop i ms))
comes_to {C} number e later ms i before up =
    ap (λ (l : List (Member C)). all_edited number (e ∷ later) l) (sym (take_drop ms i))
    ∙ front_stays number (e ∷ later) (take i ms) (drop i ms) (below_later number e later (take i ms) (front_all (λ (m : Member C). number m.id < edit_number number e) ms i before) up)

pub edit_step : {C : Type 0} (number : C → ℕ) (e : Edit C) (later : List (Edit C)) (old now ms : List (Member C)) (i j : ℕ) → without_member number e.member.id (drop i ms) ≡ drop j ms → All (λ m. edit_number number e ≤ number m.id) (drop j ms) → AllWithin (λ m. number m.id < edit_number number e) ms 0 i → All (λ d. edit_number number e < edit_number number d) later
    → now ≡ (old ++ take i ms) ++ added e → now ++ all_edited number later (drop j ms) ≡ old ++ all_edited number (e ∷ later) ms
edit_step {C} number e later old now ms i j gone after before up is =
    let rest : List (Member C) = all_edited number later (drop j ms) in
    let here : edited number e (drop i ms) ≡ added e ++ drop j ms = made_by number e.adds e.member (drop i ms) (drop j ms) gone after in
    let final : all_edited number later (added e ++ drop j ms) ≡ added e ++ rest = front_stays number later (added e) (drop j ms) (added_below number e.adds e.member later up) in
    let whole : all_edited number (e ∷ later) ms ≡ take i ms ++ (added e ++ rest) = comes_to number e later ms i before up ∙ ap (λ (l : List (Member C)). take i ms ++ all_edited number later l) here ∙ ap (λ (l : List (Member C)). take i ms ++ l) final in
    ap (λ (l : List (Member C)). l ++ rest) is ∙ append_assoc (old ++ take i ms) (added e) rest ∙ append_assoc old (take i ms) (added e ++ rest) ∙ ap (λ (l : List (Member C)). old ++ l) (sym whole)

-- what is left of the members at a place where one of the number stands, and where none does
pub left_behind : {C : Type 0} (number : C → ℕ) (id : C) (ms : List (Member C)) (i : ℕ) → AreRising number ms → is_at number (number id) (drop i ms) ≡ true → without_member number id (drop i ms) ≡ drop (i + 1) ms
left_behind number id ms i rising at = taken_front number id (drop i ms) (rising_drop number i ms rising) at ∙ drop-drop 1 i ms

pub left_there : {C : Type 0} (number : C → ℕ) (id : C) (ms : List (Member C)) (i : ℕ) → AreRising number ms → AllWithin (λ m. number id ≤ number m.id) ms i (length ms) → is_at number (number id) (drop i ms) ≡ false → without_member number id (drop i ms) ≡ drop i ms
left_there {C} number id ms i rising after at = kept_front number id (drop i ms) (rising_drop number i ms rising) (rest_all (λ (m : Member C). number id ≤ number m.id) ms i after) at

pub rest_beyond : {X : Type 0} (P : X → Type 0) (xs : List X) (n : ℕ) → AllWithin P xs n (length xs) → All P (drop (n + 1) xs)
rest_beyond P xs n h = rest_all P xs (n + 1) (λ k d low high. h k d (omega (arith, low)) high)

pub taken_step : {C : Type 0} (number : C → ℕ) (e : Edit C) (later : List (Edit C)) (old now ms : List (Member C)) (i : ℕ) → AreRising number ms → e.adds ≡ false → AllWithin (λ m. number m.id < edit_number number e) ms 0 i → All (λ d. edit_number number e < edit_number number d) later
    → is_at number (edit_number number e) (drop i ms) ≡ true → now ≡ old ++ take i ms → now ++ all_edited number later (drop (i + 1) ms) ≡ old ++ all_edited number (e ∷ later) ms
taken_step {C} number e later old now ms i rising takes before up at is =
    let rest : List (Member C) = all_edited number later (drop (i + 1) ms) in
    let here : edited number e (drop i ms) ≡ drop (i + 1) ms = takes_by number e (drop i ms) takes ∙ taken_front number e.member.id (drop i ms) (rising_drop number i ms rising) at ∙ drop-drop 1 i ms in
    let whole : all_edited number (e ∷ later) ms ≡ take i ms ++ rest = comes_to number e later ms i before up ∙ ap (λ (l : List (Member C)). take i ms ++ all_edited number later l) here in
    ap (λ (l : List (Member C)). l ++ rest) is ∙ append_assoc old (take i ms) rest ∙ ap (λ (l : List (Member C)). old ++ l) (sym whole)

pub passed_step : {C : Type 0} (number : C → ℕ) (e : Edit C) (later : List (Edit C)) (old now ms : List (Member C)) (i : ℕ) → AreRising number ms → e.adds ≡ false → AllWithin (λ m. number m.id < edit_number number e) ms 0 i → AllWithin (λ m. edit_number number e ≤ number m.id) ms i (length ms) → All (λ d. edit_number number e < edit_number number d) later
    → is_at number (edit_number number e) (drop i ms) ≡ false → now ≡ old ++ take i ms → now ++ all_edited number later (drop i ms) ≡ old ++ all_edited number (e ∷ later) ms
passed_step {C} number e later old now ms i rising takes before after up at is =
    let rest : List (Member C) = all_edited number later (drop i ms) in
    let here : edited number e (drop i ms) ≡ drop i ms = takes_by number e (drop i ms) takes ∙ kept_front number e.member.id (drop i ms) (rising_drop number i ms rising) (rest_all (λ (m : Member C). edit_number number e ≤ number m.id) ms i after) at in
    let whole : all_edited number (e ∷ later) ms ≡ take i ms ++ rest = comes_to number e later ms i before up ∙ ap (λ (l : List (Member C)). take i ms ++ all_edited number later l) here in
    ap (λ (l : List (Member C)). l ++ rest) is ∙ append_assoc old (take i ms) rest ∙ ap (λ (l : List (Member C)). old ++ l) (sym whole)

-- ---- one after the other

pub inserted_long : {C : Type 0} (number : C → ℕ) (m : Member C) (ms : List (Member C)) → length (inserted number m ms) ≤ length ms + 1
inserted_long number m [] = omega arith
inserted_long {C} number m (x ∷ xs) = by_test (λ (l : List (Member C)). length l ≤ length (x ∷ xs) + 1) (nat_lt (number x.id) (number m.id)) (x ∷ inserted number m xs) (m ∷ x ∷ xs)
    (λ q. let r : length (inserted number m xs) ≤ length xs + 1 = inserted_long number m xs in omega (arith, r))
    (λ q. omega arith)

pub without_short : {C : Type 0} (number : C → ℕ) (id : C) (ms : List (Member C)) → length (without_member number id ms) ≤ length ms
unfolding without_member
without_short number id [] = omega arith
without_short {C} number id (x ∷ xs) =
    let r : length (without_member number id xs) ≤ length xs = without_short number id xs in
    by_test (λ (l : List (Member C)). length l ≤ length (x ∷ xs)) (not (number x.id == number id)) (x ∷ without_member number id xs) (without_member number id xs) (λ q. omega (arith, r)) (λ q. omega (arith, r))

pub edited_long : {C : Type 0} (number : C → ℕ) (e : Edit C) (ms : List (Member C)) → length (edited number e ms) ≤ length ms + 1
edited_long {C} number e ms = by_way number (λ (l : List (Member C)). length l ≤ length ms + 1) e ms
    (λ q. let a : length (put number e.member ms) ≤ length (without_member number e.member.id ms) + 1 = inserted_long number e.member (without_member number e.member.id ms) in let b : length (without_member number e.member.id ms) ≤ length ms = without_short number e.member.id ms in omega (arith, a, b))
    (λ q. let r : length (without_member number e.member.id ms) ≤ length ms = without_short number e.member.id ms in omega (arith, r))

pub edited_rising : {C : Type 0} (number : C → ℕ) (e : Edit C) (ms : List (Member C)) → AreRising number ms → AreRising number (edited number e ms)
edited_rising {C} number e ms rising =
    let less : AreRising number (without_member number e.member.id ms) = rising_without number e.member.id ms rising in
    by_way number (λ (l : List (Member C)). AreRising number l) e ms (λ q. rising_inserted number e.member (without_member number e.member.id ms) less (has_without number e.member.id ms)) (λ q. less)

-- one edit made
pub edit_made : {C : Type 0} (number : C → ℕ) (e : Edit C) (es : List (Edit C)) (ms : List (Member C)) (capacity more : ℕ) → IsEdited number ms (e ∷ es) capacity → capacity ≤ more → IsEdited number (edited number e ms) es more
edit_made {C} number e es ms capacity more is le = record {
  rising = edited_rising number e ms is.rising;
  in_order = pairs_tail (λ (a b : Edit C). edit_number number a < edit_number number b) e es is.in_order;
  room = let r : length (edited number e ms) ≤ length ms + 1 = edited_long number e ms in let h : length ms + suc (length es) ≤ capacity = is.room in omega (arith, r, h, le);
}

-- all of them made
pub all_made : {C : Type 0} (number : C → ℕ) (es : List (Edit C)) (ms : List (Member C)) (capacity : ℕ) → IsEdited number ms es capacity → AreRising number (all_edited number es ms)
all_made number [] ms capacity is = is.rising
all_made number (e ∷ es) ms capacity is = all_made number es (edited number e ms) capacity (edit_made number e es ms capacity capacity is (omega arith))

-- ---- no edit is put off

pub none_there : {X : Type 0} (xs : List X) → length xs ≡ 0 → xs ≡ []
none_there [] h = refl
none_there (x ∷ xs) h = absurd (omega (arith, h))

-- ---- a pass goes on

pub pairs_drop : {X : Type 0} (R : X → X → Type 0) (n : ℕ) (xs : List X) → AllPairs R xs → AllPairs R (drop n xs)
pairs_drop R zero xs pairs = pairs
pairs_drop R (suc n) [] pairs = pairs
pairs_drop R (suc n) (x ∷ xs) pairs = pairs_drop R n xs (pairs_tail R x xs pairs)

-- the item in a place, and those after it
pub item_is : {X : Type 0} (xs : List X) (i : ℕ) (x : X) → i < length xs → x ≡ get_or xs i x → drop i xs ≡ x ∷ drop (i + 1) xs
item_is {X} xs i x lt e = drop_more xs i x lt ∙ ap (λ (y : X). y ∷ drop (i + 1) xs) (sym e)

-- the edits after one have higher numbers
pub later_above : {C : Type 0} (number : C → ℕ) (es : List (Edit C)) (i : ℕ) (e : Edit C) → i < length es → e ≡ get_or es i e → AreInOrder number es → All (λ d. edit_number number e < edit_number number d) (drop (i + 1) es)
later_above {C} number es i e lt is order =
    let R : Edit C → Edit C → Type 0 = λ a b. edit_number number a < edit_number number b in
    let P : List (Edit C) → Type 0 = λ l. AllPairs R l in
    pairs_head R e (drop (i + 1) es) (subst P (item_is es i e lt is) (pairs_drop R i es order))

pub pass_goes : {C : Type 0} (number : C → ℕ) (es : List (Edit C)) (i : ℕ) (e : Edit C) (now next total members : List (Member C)) (done r : ℕ) → i < length es → e ≡ get_or es i e → AreInOrder number es
    → ((later : List (Edit C)) → All (λ d. edit_number number e < edit_number number d) later → next ++ all_edited number later (drop r (drop done members)) ≡ now ++ all_edited number (e ∷ later) (drop done members))
    → now ++ all_edited number (drop i es) (drop done members) ≡ total → next ++ all_edited number (drop (i + 1) es) (drop (done + r) members) ≡ total
pass_goes {C} number es i e now next total members done r lt is order step was =
    let later : List (Edit C) = drop (i + 1) es in
    ap (λ (l : List (Member C)). next ++ all_edited number later l) (sym (drop-drop r done members))
    ∙ step later (later_above number es i e lt is order)
    ∙ ap (λ (l : List (Edit C)). now ++ all_edited number l (drop done members)) (sym (item_is es i e lt is))
    ∙ was

pub long_drop : {X : Type 0} (xs : List X) (i : ℕ) → i < length xs → length (drop i xs) ≡ length (drop (i + 1) xs) + 1
long_drop {X} xs i lt =
    let a : length (drop i xs) ≡ length xs - i = length-drop i xs in
    let b : length (drop (i + 1) xs) ≡ length xs - (i + 1) = length-drop (i + 1) xs in
    omega (arith, a, b, lt)

-- the pass from the place of the first edit on
pub from_start : {C : Type 0} (number : C → ℕ) (es : List (Edit C)) (ms : List (Member C)) (start : ℕ) → AllWithin (λ m. All (λ e. number m.id < edit_number number e) es) ms 0 start → take start ms ++ all_edited number es (drop start ms) ≡ all_edited number es ms
from_start {C} number es ms start below =
    sym (front_stays number es (take start ms) (drop start ms) (front_all (AreBelowAll number es) ms start below))
    ∙ ap (λ (l : List (Member C)). all_edited number es l) (take_drop ms start)

-- members below the first edit are below all
pub below_first : {C : Type 0} (number : C → ℕ) (es : List (Edit C)) (e : Edit C) (ms : List (Member C)) (start : ℕ) → 0 < length es → e ≡ get_or es 0 e → AreInOrder number es → AllWithin (λ m. number m.id < edit_number number e) ms 0 start → AllWithin (λ m. All (λ d. number m.id < edit_number number d) es) ms 0 start
below_first number [] e ms start lt is order below = absurd (omega arith)
below_first {C} number (x ∷ es) e ms start lt is order below = λ k d low high.
    let here : number (get_or ms k d).id < edit_number number e = below k d low high in
    let same : edit_number number e ≡ edit_number number x = ap (λ (f : Edit C). edit_number number f) is in
    let first : number (get_or ms k d).id < edit_number number x = omega (arith, here, same) in
    let up : All (λ f. edit_number number x < edit_number number f) es = pairs_head (λ (a b : Edit C). edit_number number a < edit_number number b) x es order in
    All-cons (λ (f : Edit C). number (get_or ms k d).id < edit_number number f) x es first (λ j f less. let u : edit_number number x < edit_number number (get_or es j f) = up j f less in omega (arith, first, u))

-- the edits were made
pub flushed_is : {C : Type 0} (number : C → ℕ) (es left : List (Edit C)) (ms now : List (Member C)) (capacity more : ℕ) → IsEdited number ms es capacity → capacity ≤ more → now ≡ all_edited number es ms → left ≡ [] → length now ≤ more → IsEdited number now left more
flushed_is {C} number es left ms now capacity more is le made none fits =
    let P : List (Member C) → Type 0 = λ l. AreRising number l in
    let short : length left ≡ 0 = ap (λ (l : List (Edit C)). length l) none in
    record {
      rising = subst P (sym made) (all_made number es ms capacity is);
      in_order = λ i j d lt l. absurd (omega (arith, lt, l, short));
      room = omega (arith, short, fits);
    }
