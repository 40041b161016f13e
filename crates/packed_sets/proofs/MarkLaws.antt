-- Marks that are put and taken away, and the list of the marked slots.
use Rattle.std.proofs.Common.{◌≡◌, ◌≢◌, ◌⊎◌, ℕ, zero, suc, ◌+◌, ◌<◌, ◌≤◌, Bool, true, false, List, [], ◌∷◌, ◌++◌, length, get_or, slice_set, drop, replicate, refl, ap, sym, subst, ◌∙◌, arith, true≢false, inl, inr}
use Rattle.std.specs.Prelude.{slice_index_or}
use Rattle.std.specs.List.{All, Contains}
use Rattle.std.proofs.Math.Seq.{drop-cons}
use Rattle.std.proofs.lemmas.List.{drop_all, length-append, length-replicate, length-set, get_or-replicate}
use Rattle.std.proofs.lemmas.List.Elements.{All-append, All-nil, Contains-append_cases, Contains-append_left, Contains-append_right}
use Rattle.packed_sets.specs.Marks.{AreListed, IsMarks, marked_count}

-- ---- one flag changed

stays_marked : (ms : List Bool) (i s : ℕ) → get_or ms s true ≡ true → get_or (slice_set ms i true) s true ≡ true
stays_marked [] i s e = e
stays_marked (m ∷ ms) zero zero e = refl
stays_marked (m ∷ ms) zero (suc s) e = e
stays_marked (m ∷ ms) (suc i) zero e = e
stays_marked (m ∷ ms) (suc i) (suc s) e = stays_marked ms i s e

now_marked : (ms : List Bool) (i : ℕ) → get_or (slice_set ms i true) i true ≡ true
now_marked [] i = refl
now_marked (m ∷ ms) zero = refl
now_marked (m ∷ ms) (suc i) = now_marked ms i

next_slot : (s i : ℕ) (ms : List Bool) → (s ≡ i) ⊎ (get_or ms s true ≡ true) → (suc s ≡ suc i) ⊎ (get_or ms s true ≡ true)
next_slot s i ms (inl e) = inl (ap suc e)
next_slot s i ms (inr e) = inr e

was_marked : (ms : List Bool) (i s : ℕ) → get_or (slice_set ms i true) s true ≡ true → (s ≡ i) ⊎ (get_or ms s true ≡ true)
was_marked [] i s e = inr e
was_marked (m ∷ ms) zero zero e = inl refl
was_marked (m ∷ ms) zero (suc s) e = inr e
was_marked (m ∷ ms) (suc i) zero e = inr e
was_marked (m ∷ ms) (suc i) (suc s) e = next_slot s i ms (was_marked ms i s e)

record StaysFrom (ms : List Bool) (i s : ℕ) : Type 0 where
  other : s ≢ i
  marked : get_or ms s true ≡ true

still_marked : (ms : List Bool) (i s : ℕ) → s < length ms → get_or (slice_set ms i false) s true ≡ true → StaysFrom ms i s
still_marked [] i s lt e = absurd (omega (arith, lt))
still_marked (m ∷ ms) zero zero lt e = absurd (true≢false (sym e))
still_marked (m ∷ ms) zero (suc s) lt e = record { other = λ f. absurd (omega (arith, f)); marked = e }
still_marked (m ∷ ms) (suc i) zero lt e = record { other = λ f. absurd (omega (arith, f)); marked = e }
still_marked (m ∷ ms) (suc i) (suc s) lt e =
    let rest : StaysFrom ms i s = still_marked ms i s (omega (arith, lt)) e in
    record { other = λ f. rest.other (omega (arith, f)); marked = rest.marked }

pub within_marks : (ms : List Bool) (i : ℕ) → get_or ms i true ≡ false → i < length ms
within_marks [] i e = absurd (true≢false e)
within_marks (m ∷ ms) zero e = omega arith
within_marks (m ∷ ms) (suc i) e = let rest : i < length ms = within_marks ms i e in omega (arith, rest)

-- ---- how many are marked

few_marked : (ms : List Bool) → marked_count ms ≤ length ms
few_marked [] = omega arith
few_marked (true ∷ ms) = let rest = few_marked ms in omega (arith, rest)
few_marked (false ∷ ms) = let rest = few_marked ms in omega (arith, rest)

one_more : (ms : List Bool) (i : ℕ) → get_or ms i true ≡ false → marked_count (slice_set ms i true) ≡ suc (marked_count ms)
one_more [] i e = absurd (true≢false e)
one_more (true ∷ ms) zero e = absurd (true≢false e)
one_more (false ∷ ms) zero e = refl
one_more (true ∷ ms) (suc i) e = ap suc (one_more ms i e)
one_more (false ∷ ms) (suc i) e = one_more ms i e

one_left : (ms : List Bool) (i : ℕ) → get_or ms i true ≡ false → suc (marked_count ms) ≤ length ms
one_left [] i e = absurd (true≢false e)
one_left (true ∷ ms) zero e = absurd (true≢false e)
one_left (false ∷ ms) zero e = let rest = few_marked ms in omega (arith, rest)
one_left (true ∷ ms) (suc i) e = let rest = one_left ms i e in omega (arith, rest)
one_left (false ∷ ms) (suc i) e = let rest = one_left ms i e in omega (arith, rest)

one_grown : (ms : List Bool) → marked_count (ms ++ true ∷ []) ≡ suc (marked_count ms)
one_grown [] = refl
one_grown (true ∷ ms) = ap suc (one_grown ms)
one_grown (false ∷ ms) = one_grown ms

none_marked : (n : ℕ) → marked_count (replicate n false) ≡ zero
none_marked zero = refl
none_marked (suc n) = none_marked n

pub room_left : (ms : List Bool) (slots : List ℕ) (capacity i : ℕ) → IsMarks ms slots capacity → get_or ms i true ≡ false → suc (length slots) ≤ capacity
room_left ms slots capacity i is e =
    let left = one_left ms i e in
    omega (arith, left, is.once, is.room)

-- ---- lists of slots

last_contained : (slots : List ℕ) (s : ℕ) → Contains (slots ++ s ∷ []) s
last_contained slots s = Contains-append_right slots (s ∷ []) s (zero, omega arith, refl)

not_in_none : (s : ℕ) → Contains [] s → ⊥
not_in_none s h = omega (arith, h.1)

one_contained : (x s : ℕ) → Contains (x ∷ []) s → s ≡ x
one_contained x s h = by h.0 h.1 h.2
  where
    by : (k : ℕ) → k < 1 → slice_index_or (x ∷ []) k s ≡ s → s ≡ x
    by zero lt e = sym e
    by (suc k) lt e = absurd (omega (arith, lt))

all_map : (P Q : ℕ → Type 0) (slots : List ℕ) → ((s : ℕ) → P s → Q s) → All P slots → All Q slots
all_map P Q slots f h = λ k d lt. f (slice_index_or slots k d) (h k d lt)

all_one : (P : ℕ → Type 0) (s : ℕ) → P s → All P (s ∷ [])
all_one P s p = by
  where
    by : (k : ℕ) (d : ℕ) → k < 1 → P (slice_index_or (s ∷ []) k d)
    by zero d lt = p
    by (suc k) d lt = absurd (omega (arith, lt))

-- ---- what is kept

marked_listed : (ms : List Bool) (slots : List ℕ) (i s : ℕ) → AreListed ms slots → s < length ms → (s ≡ i) ⊎ (get_or ms s true ≡ true) → Contains (slots ++ i ∷ []) s
marked_listed ms slots i s is lt (inl e) = subst (λ (x : ℕ). Contains (slots ++ i ∷ []) x) (sym e) (last_contained slots i)
marked_listed ms slots i s is lt (inr e) = Contains-append_left slots (i ∷ []) s (is.all s lt e)

marks_one : (ms : List Bool) (slots : List ℕ) (capacity i : ℕ) → IsMarks ms slots capacity → get_or ms i true ≡ false → IsMarks (slice_set ms i true) (slots ++ i ∷ []) capacity
marks_one ms slots capacity i is e =
    let long : length (slice_set ms i true) ≡ length ms = length-set ms i true in
    let slots_long : length (slots ++ i ∷ []) ≡ length slots + 1 = length-append slots (i ∷ []) in
    let left = one_left ms i e in
    let there : i < length ms = within_marks ms i e in
    record {
      listed = record {
        all = λ s lt f. marked_listed ms slots i s is.listed (omega (arith, lt, long)) (was_marked ms i s f);
        only = All-append (λ s. get_or (slice_set ms i true) s true ≡ true) slots (i ∷ []) (all_map _ _ slots (λ s f. stays_marked ms i s f) is.listed.only) (all_one (λ s. get_or (slice_set ms i true) s true ≡ true) i (now_marked ms i));
        within = All-append (λ s. s < length (slice_set ms i true)) slots (i ∷ []) (all_map (λ s. s < length ms) (λ s. s < length (slice_set ms i true)) slots (λ s lt. omega (arith, lt, long)) is.listed.within) (all_one (λ s. s < length (slice_set ms i true)) i (omega (arith, there, long)));
        few = omega (arith, slots_long, left, is.once, long);
      };
      once = let more = one_more ms i e in omega (arith, more, slots_long, is.once);
      room = omega (arith, long, is.room);
    }

pub marks_put : (ms : List Bool) (slots others : List ℕ) (capacity now i : ℕ) → IsMarks ms slots capacity → get_or ms i true ≡ false → others ≡ slots ++ i ∷ [] → capacity ≤ now → IsMarks (slice_set ms i true) others now
marks_put ms slots others capacity now i is e f room =
    let one : IsMarks (slice_set ms i true) (slots ++ i ∷ []) capacity = marks_one ms slots capacity i is e in
    subst (λ (l : List ℕ). IsMarks (slice_set ms i true) l now) (sym f) (record { listed = one.listed; once = one.once; room = omega (arith, one.room, room) })

grown_was : (ms : List Bool) (s : ℕ) → s < length (ms ++ true ∷ []) → get_or (ms ++ true ∷ []) s true ≡ true → (s ≡ length ms) ⊎ ((s < length ms) × (get_or ms s true ≡ true))
grown_was [] zero lt e = inl refl
grown_was [] (suc s) lt e = absurd (omega (arith, lt))
grown_was (m ∷ ms) zero lt e = inr (omega arith, e)
grown_was (m ∷ ms) (suc s) lt e = step (grown_was ms s (omega (arith, lt)) e)
  where
    step : (s ≡ length ms) ⊎ ((s < length ms) × (get_or ms s true ≡ true)) → (suc s ≡ suc (length ms)) ⊎ ((suc s < suc (length ms)) × (get_or ms s true ≡ true))
    step (inl f) = inl (ap suc f)
    step (inr f) = let lt : s < length ms = f.0 in inr (omega (arith, lt), f.1)

grown_stays : (ms : List Bool) (s : ℕ) → get_or ms s true ≡ true → get_or (ms ++ true ∷ []) s true ≡ true
grown_stays [] zero e = refl
grown_stays [] (suc s) e = refl
grown_stays (m ∷ ms) zero e = e
grown_stays (m ∷ ms) (suc s) e = grown_stays ms s e

grown_last : (ms : List Bool) → get_or (ms ++ true ∷ []) (length ms) true ≡ true
grown_last [] = refl
grown_last (m ∷ ms) = grown_last ms

grown_listed : (ms : List Bool) (slots : List ℕ) (s : ℕ) → AreListed ms slots → (s ≡ length ms) ⊎ ((s < length ms) × (get_or ms s true ≡ true)) → Contains (slots ++ length ms ∷ []) s
grown_listed ms slots s is (inl e) = subst (λ (x : ℕ). Contains (slots ++ length ms ∷ []) x) (sym e) (last_contained slots (length ms))
grown_listed ms slots s is (inr h) = Contains-append_left slots (length ms ∷ []) s (is.all s h.0 h.1)

marks_more : (ms : List Bool) (slots : List ℕ) (capacity now : ℕ) → IsMarks ms slots capacity → suc (length ms) ≤ now → IsMarks (ms ++ true ∷ []) (slots ++ length ms ∷ []) now
marks_more ms slots capacity now is room =
    let long : length (ms ++ true ∷ []) ≡ length ms + 1 = length-append ms (true ∷ []) in
    let slots_long : length (slots ++ length ms ∷ []) ≡ length slots + 1 = length-append slots (length ms ∷ []) in
    record {
      listed = record {
        all = λ s lt f. grown_listed ms slots s is.listed (grown_was ms s lt f);
        only = All-append (λ s. get_or (ms ++ true ∷ []) s true ≡ true) slots (length ms ∷ []) (all_map _ _ slots (λ s f. grown_stays ms s f) is.listed.only) (all_one (λ s. get_or (ms ++ true ∷ []) s true ≡ true) (length ms) (grown_last ms));
        within = All-append (λ s. s < length (ms ++ true ∷ [])) slots (length ms ∷ []) (all_map (λ s. s < length ms) (λ s. s < length (ms ++ true ∷ [])) slots (λ s lt. omega (arith, lt, long)) is.listed.within) (all_one (λ s. s < length (ms ++ true ∷ [])) (length ms) (omega (arith, long)));
        few = omega (arith, slots_long, is.listed.few, long);
      };
      once = let more = one_grown ms in omega (arith, more, slots_long, is.once);
      room = omega (arith, long, room);
    }

pub marks_grown : (ms : List Bool) (slots : List ℕ) (more : List Bool) (others : List ℕ) (capacity now : ℕ) → IsMarks ms slots capacity → more ≡ ms ++ true ∷ [] → others ≡ slots ++ length ms ∷ [] → suc (length ms) ≤ now → IsMarks more others now
marks_grown ms slots more others capacity now is e f room = subst (λ (l : List Bool). IsMarks l others now) (sym e) (subst (λ (l : List ℕ). IsMarks (ms ++ true ∷ []) l now) (sym f) (marks_more ms slots capacity now is room))

-- no slot is marked
none_kept : (n capacity : ℕ) → n ≤ capacity → IsMarks (replicate n false) [] capacity
none_kept n capacity room =
    let long : length (replicate n false) ≡ n = length-replicate n false in
    record {
      listed = record {
        all = λ s lt f. let e : get_or (replicate n false) s true ≡ false = get_or-replicate n s false true (omega (arith, lt, long)) in absurd (true≢false (sym f ∙ e));
        only = All-nil _;
        within = All-nil _;
        few = omega arith;
      };
      once = sym (none_marked n);
      room = omega (arith, long, room);
    }

pub marks_cleared : (n : ℕ) (ms : List Bool) (slots : List ℕ) (capacity : ℕ) → ms ≡ replicate n false → slots ≡ [] → n ≤ capacity → IsMarks ms slots capacity
marks_cleared n ms slots capacity e f room = subst (λ (l : List Bool). IsMarks l slots capacity) (sym e) (subst (λ (l : List ℕ). IsMarks (replicate n false) l capacity) (sym f) (none_kept n capacity room))

-- ---- the loop that takes marks away

-- each slot that is still marked is among those that are left
pub record AreLeft (before ms : List Bool) (slots : List ℕ) : Type 0 where
  pub long : length ms ≡ length before
  pub left : (s : ℕ) → s < length ms → get_or ms s true ≡ true → Contains slots s

later_slot : (x : ℕ) (slots : List ℕ) (s : ℕ) → s ≢ x → Contains (x ∷ slots) s → Contains slots s
later_slot x slots s other h = by (Contains-append_cases (x ∷ []) slots s h)
  where
    by : Contains (x ∷ []) s ⊎ Contains slots s → Contains slots s
    by (inl f) = absurd (other (one_contained x s f))
    by (inr f) = f

left_more : (before ms : List Bool) (slots : List ℕ) (i d : ℕ) → i < length slots → AreLeft before ms (drop i slots) → AreLeft before (slice_set ms (get_or slots i d) false) (drop (suc i) slots)
left_more before ms slots i d lt is =
    let x = get_or slots i d in
    let long : length (slice_set ms x false) ≡ length ms = length-set ms x false in
    let front : drop i slots ≡ x ∷ drop (suc i) slots = drop-cons slots i d lt in
    record {
      long = long ∙ is.long;
      left = λ s there e.
          let was : StaysFrom ms x s = still_marked ms x s (omega (arith, there, long)) e in
          later_slot x (drop (suc i) slots) s was.other (subst (λ (l : List ℕ). Contains l s) front (is.left s (omega (arith, there, long)) was.marked));
    }

pub left_next : (before ms : List Bool) (slots : List ℕ) (i j d : ℕ) → i < length slots → j ≡ suc i → AreLeft before ms (drop i slots) → AreLeft before (slice_set ms (get_or slots i d) false) (drop j slots)
left_next before ms slots i j d lt e is = subst (λ (n : ℕ). AreLeft before (slice_set ms (get_or slots i d) false) (drop n slots)) (sym e) (left_more before ms slots i d lt is)

all_unmarked : (ms : List Bool) → ((s : ℕ) → s < length ms → get_or ms s true ≡ true → ⊥) → ms ≡ replicate (length ms) false
all_unmarked [] h = refl
all_unmarked (true ∷ ms) h = absurd (h zero (omega arith) refl)
all_unmarked (false ∷ ms) h = ap (λ (l : List Bool). false ∷ l) (all_unmarked ms (λ s lt e. h (suc s) (omega (arith, lt)) e))

pub left_none : (before ms : List Bool) (slots : List ℕ) (i : ℕ) → length slots ≤ i → AreLeft before ms (drop i slots) → ms ≡ replicate (length before) false
left_none before ms slots i past is =
    let none : drop i slots ≡ [] = drop_all i slots past in
    all_unmarked ms (λ s lt e. not_in_none s (subst (λ (l : List ℕ). Contains l s) none (is.left s lt e))) ∙ ap (λ (n : ℕ). replicate n false) is.long
