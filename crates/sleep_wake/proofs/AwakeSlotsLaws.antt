-- What is found over the slots of the awake movers is what a scan of all slots finds.
use Rattle.std.proofs.Common.{◌≡◌, ◌≢◌, ℕ, zero, suc, ◌+◌, ◌<◌, ◌≤◌, ◌==◌, ◌&&◌, ◌⊎◌, Bool, true, false, not, cond, List, [], ◌∷◌, ◌++◌, get_or, length, map, drop, Option, None, Some, refl, sym, ap, ◌∙◌, inl, inr, subst, arith}
use Rattle.std.specs.Prelude.{Contains}
use Rattle.std.specs.List.{All, AllPairs}
use Rattle.std.proofs.lemmas.Bool.{false≢true, lt-ltb, le-ltb}
use Rattle.std.proofs.lemmas.List.{append-nil, drop_all}
use Rattle.std.proofs.lemmas.List.Elements.{All-contains, Contains-get_or}
use Rattle.std.proofs.lemmas.List.Kept.{AllPairs-cons}
use Rattle.graph_colours.proofs.ListLemmas.{pairs_head, pairs_tail, pairs_none}
use Rattle.islands.specs.declared.label.IslandState.{IslandState}
use Rattle.islands.specs.declared.label.IslandState.TheVariants.{Whole, Loose, Asleep}
use Rattle.islands.specs.declared.label.Label.{Label}
use Rattle.islands.specs.Labels.{Labels, label_at, is_in, is_loose, is_asleep, rested}
use Rattle.islands.specs.Partition.{IsPartition}
use Rattle.islands.proofs.JoinLemmas.{contains_cases, contains_head, contains_tail}
use Rattle.islands.proofs.LabelLemmas.{relabel_at, some_short}
use Rattle.sleep_wake.specs.Acting.{awake_label, is_mover_awake}
use Rattle.sleep_wake.specs.SleepPhase.{lesser, least_timer, is_time_to_sleep, is_island}
use Rattle.sleep_wake.specs.AwakeSlots.{AreAwakeSlots}
use Rattle.sleep_wake.specs.Resting.{least_at, noted, forgotten, AreLeast, is_ready_island, ready_after, ready_names, longer_at_rest, longest_at_rest, weighed_by, longest_ready, all_rested}
use Rattle.sleep_wake.proofs.ListLemmas.{none_in}
use Rattle.sleep_wake.proofs.AwakeLemmas.{awake_as}
use Rattle.sleep_wake.proofs.LeastLemmas.{with_timer, noted_at, forgotten_at}
use Rattle.sleep_wake.proofs.RestLemmas.{asleep_in, island_rested}

-- ---- the slots of the awake movers, by a scan

-- where the list begins with this slot
abbrev pub awake_from : ℕ → Labels → List ℕ
awake_from slot [] = []
awake_from slot (o ∷ rest) = cond (awake_label o) (slot ∷ awake_from (suc slot) rest) (awake_from (suc slot) rest)

in_if : (t : Bool) (x y : ℕ) (xs : List ℕ) → Contains (cond t (x ∷ xs) xs) y → ((t ≡ true) × (x ≡ y)) ⊎ Contains xs y
in_if true x y xs h = elim (contains_cases x xs y h) [ inl k ↦ inl (refl, k) | inr k ↦ inr k ]
in_if false x y xs h = inr h

if_in : (t : Bool) (x y : ℕ) (xs : List ℕ) → Contains xs y → Contains (cond t (x ∷ xs) xs) y
if_in true x y xs h = contains_tail x xs y h
if_in false x y xs h = h

-- each is that of an awake mover
scanned_is : (slot : ℕ) (rest : Labels) (x : ℕ) → Contains (awake_from slot rest) x → (k : ℕ) × (x ≡ slot + k) × (awake_label (label_at rest k) ≡ true)
scanned_is slot [] x h = absurd (none_in x h)
scanned_is slot (o ∷ rest) x h = elim (in_if (awake_label o) slot x (awake_from (suc slot) rest) h) [
  | inl k ↦ (0, omega (arith, k.1), k.0)
  | inr k ↦ let q = scanned_is (suc slot) rest x k in let at : x ≡ suc slot + q.0 = q.1 in (suc q.0, omega (arith, at), q.2)
]

here_first : (t : Bool) (x : ℕ) (xs : List ℕ) → t ≡ true → Contains (cond t (x ∷ xs) xs) x
here_first true x xs h = contains_head x xs
here_first false x xs h = absurd (false≢true h)

-- each awake mover's is there
is_scanned : (slot : ℕ) (rest : Labels) (k : ℕ) → awake_label (label_at rest k) ≡ true → Contains (awake_from slot rest) (slot + k)
is_scanned slot [] k h = absurd (false≢true h)
is_scanned slot (o ∷ rest) zero h =
    let P : ℕ → Type 0 = λ v. Contains (cond (awake_label o) (slot ∷ awake_from (suc slot) rest) (awake_from (suc slot) rest)) v in
    let at : slot ≡ slot + 0 = omega arith in
    subst P at (here_first (awake_label o) slot (awake_from (suc slot) rest) h)
is_scanned slot (o ∷ rest) (suc k) h =
    let P : ℕ → Type 0 = λ v. Contains (awake_from (suc slot) rest) v in
    let at : suc slot + k ≡ slot + suc k = omega arith in
    if_in (awake_label o) slot (slot + suc k) (awake_from (suc slot) rest) (subst P at (is_scanned (suc slot) rest k h))

scanned_above : (slot : ℕ) (rest : Labels) (x : ℕ) → Contains (awake_from slot rest) x → slot ≤ x
scanned_above slot rest x h = let q = scanned_is slot rest x h in let at : x ≡ slot + q.0 = q.1 in omega (arith, at)

abbrev Below : ℕ → ℕ → Type 0
Below slot later = slot < later

pairs_if : (t : Bool) (x : ℕ) (xs : List ℕ) → All (Below x) xs → AllPairs Below xs → AllPairs Below (cond t (x ∷ xs) xs)
pairs_if true x xs a r = AllPairs-cons Below x xs a r
pairs_if false x xs a r = r

scanned_rise : (slot : ℕ) (rest : Labels) → AllPairs Below (awake_from slot rest)
scanned_rise slot [] = pairs_none Below
scanned_rise slot (o ∷ rest) =
    let more : List ℕ = awake_from (suc slot) rest in
    pairs_if (awake_label o) slot more
    (λ k d lt. let above : suc slot ≤ get_or more k d = scanned_above (suc slot) rest (get_or more k d) (Contains-get_or more k d lt) in omega (arith, above))
    (scanned_rise (suc slot) rest)

-- ---- two lists that ascend and have the same members are one

above_first : (x : ℕ) (xs : List ℕ) (y : ℕ) → AllPairs Below (x ∷ xs) → Contains xs y → x < y
above_first x xs y r h = All-contains (Below x) xs y (pairs_head Below x xs r) h

least_first : (x : ℕ) (xs : List ℕ) (y : ℕ) → AllPairs Below (x ∷ xs) → Contains (x ∷ xs) y → x ≤ y
least_first x xs y r h = elim (contains_cases x xs y h) [
  | inl k ↦ omega (arith, k)
  | inr k ↦ let lt : x < y = above_first x xs y r k in omega (arith, lt)
]

not_first : (x y : ℕ) (xs ys : List ℕ) (k : ℕ) → x ≡ y → AllPairs Below (x ∷ xs) → Contains xs k → Contains (y ∷ ys) k → Contains ys k
not_first x y xs ys k e r h i = elim (contains_cases y ys k i) [
  | inl q ↦ let lt : x < k = above_first x xs k r h in absurd (omega (arith, lt, q, e))
  | inr q ↦ q
]

pub same_rising : (xs ys : List ℕ) → AllPairs Below xs → AllPairs Below ys → ((k : ℕ) → Contains xs k → Contains ys k) → ((k : ℕ) → Contains ys k → Contains xs k) → xs ≡ ys
same_rising [] [] a b f g = refl
same_rising [] (y ∷ ys) a b f g = absurd (none_in y (g y (contains_head y ys)))
same_rising (x ∷ xs) [] a b f g = absurd (none_in x (f x (contains_head x xs)))
same_rising (x ∷ xs) (y ∷ ys) a b f g =
    let low : y ≤ x = least_first y ys x b (f x (contains_head x xs)) in
    let high : x ≤ y = least_first x xs y a (g y (contains_head y ys)) in
    let e : x ≡ y = omega (arith, low, high) in
    let u : (k : ℕ) → Contains xs k → Contains ys k = λ k h. not_first x y xs ys k e a h (f k (contains_tail x xs k h)) in
    let v : (k : ℕ) → Contains ys k → Contains xs k = λ k h. not_first y x ys xs k (sym e) b h (g k (contains_tail y ys k h)) in
    ap (λ (n : ℕ). n ∷ xs) e ∙ ap (λ (ns : List ℕ). y ∷ ns) (same_rising xs ys (pairs_tail Below x xs a) (pairs_tail Below y ys b) u v)

pub awake_are : (labels : Labels) (slots : List ℕ) → AreAwakeSlots labels slots → slots ≡ awake_from 0 labels
awake_are labels slots w = same_rising slots (awake_from 0 labels) w.rising (scanned_rise 0 labels)
    (λ k h. let P : ℕ → Type 0 = λ v. Contains (awake_from 0 labels) v in let at : 0 + k ≡ k = omega arith in subst P at (is_scanned 0 labels k ((w.each k).0 h)))
    (λ k h. let q = scanned_is 0 labels k h in let at : q.0 ≡ k = let e : k ≡ 0 + q.0 = q.1 in omega (arith, e) in (w.each k).1 (ap (is_mover_awake labels) (sym at) ∙ q.2))

-- ---- the labels from a slot on

abbrev Lies : Labels → ℕ → Labels → Type 0
Lies labels slot rest = (k : ℕ) → label_at labels (slot + k) ≡ label_at rest k

lies_all : (labels : Labels) → Lies labels 0 labels
lies_all labels k = let at : 0 + k ≡ k = omega arith in ap (label_at labels) at

lies_here : (labels : Labels) (slot : ℕ) (o : Option Label) (rest : Labels) → Lies labels slot (o ∷ rest) → label_at labels slot ≡ o
lies_here labels slot o rest at = let same : slot ≡ slot + 0 = omega arith in ap (label_at labels) same ∙ at 0

lies_on : (labels : Labels) (slot : ℕ) (o : Option Label) (rest : Labels) → Lies labels slot (o ∷ rest) → Lies labels (suc slot) rest
lies_on labels slot o rest at k = let same : suc slot + k ≡ slot + suc k = omega arith in ap (label_at labels) same ∙ at (suc k)

-- ---- who sleeps names no island that is loose or awake

sleeping_not_loose : (state : IslandState) (t : Bool) → not (is_asleep state) ≡ false → (t && is_loose state) ≡ false
sleeping_not_loose Whole t h = absurd (false≢true (sym h))
sleeping_not_loose Loose t h = absurd (false≢true (sym h))
sleeping_not_loose Asleep true h = refl
sleeping_not_loose Asleep false h = refl

sleeping_not_whole : (state : IslandState) (t : Bool) → not (is_asleep state) ≡ false → (t && (not (is_loose state) && not (is_asleep state))) ≡ false
sleeping_not_whole Whole t h = absurd (false≢true (sym h))
sleeping_not_whole Loose t h = absurd (false≢true (sym h))
sleeping_not_whole Asleep true h = refl
sleeping_not_whole Asleep false h = refl

no_island : (loose : Bool) (slot : ℕ) (o : Option Label) → awake_label o ≡ false → is_island loose slot o ≡ false
no_island true slot None h = refl
no_island false slot None h = refl
no_island true slot (Some l) h = sleeping_not_loose l.state (l.name == slot) h
no_island false slot (Some l) h = sleeping_not_whole l.state (l.name == slot) h

not_ready : (loose : Bool) (timer : ℕ → Option ℕ) (slot : ℕ) (o : Option Label) → awake_label o ≡ false → is_ready_island loose timer slot o ≡ false
not_ready loose timer slot o h = rw (no_island loose slot o h) refl

-- ---- the whole islands that are ready

abbrev pub ready_among : (ℕ → Option ℕ) → Labels → List ℕ → List ℕ
ready_among timer labels [] = []
ready_among timer labels (slot ∷ slots) = cond (is_ready_island false timer slot (label_at labels slot)) (slot ∷ ready_among timer labels slots) (ready_among timer labels slots)

ready_step : (timer : ℕ → Option ℕ) (labels : Labels) (slot : ℕ) (o : Option Label) (more : List ℕ) (t : Bool) → awake_label o ≡ t → label_at labels slot ≡ o
    → ready_among timer labels (cond t (slot ∷ more) more) ≡ cond (is_ready_island false timer slot o) (slot ∷ ready_among timer labels more) (ready_among timer labels more)
ready_step timer labels slot o more true a e = ap (λ (v : Option Label). cond (is_ready_island false timer slot v) (slot ∷ ready_among timer labels more) (ready_among timer labels more)) e
ready_step timer labels slot o more false a e = rw (not_ready false timer slot o a) refl

ready_scanned : (timer : ℕ → Option ℕ) (labels : Labels) (slot : ℕ) (rest : Labels) → Lies labels slot rest → ready_among timer labels (awake_from slot rest) ≡ ready_after false timer slot rest
ready_scanned timer labels slot [] at = refl
ready_scanned timer labels slot (o ∷ rest) at =
    ready_step timer labels slot o (awake_from (suc slot) rest) (awake_label o) refl (lies_here labels slot o rest at)
    ∙ ap (λ (ns : List ℕ). cond (is_ready_island false timer slot o) (slot ∷ ns) ns) (ready_scanned timer labels (suc slot) rest (lies_on labels slot o rest at))

pub ready_among_is : (timer : ℕ → Option ℕ) (labels : Labels) (slots : List ℕ) → AreAwakeSlots labels slots → ready_among timer labels slots ≡ ready_names false timer labels
ready_among_is timer labels slots w = ap (ready_among timer labels) (awake_are labels slots w) ∙ ready_scanned timer labels 0 labels (lies_all labels)

-- one that rests makes none of the others more ready, or less
abbrev Others : ℕ → List ℕ → Type 0
Others slot slots = (x : ℕ) → Contains slots x → x ≢ slot

ready_rested : (timer : ℕ → Option ℕ) (labels : Labels) (slot : ℕ) (slots : List ℕ) → Others slot slots → ready_among timer (map (asleep_in slot) labels) slots ≡ ready_among timer labels slots
ready_rested timer labels slot [] far = refl
ready_rested timer labels slot (x ∷ slots) far =
    let here : is_island false x (label_at (map (asleep_in slot) labels) x) ≡ is_island false x (label_at labels x) =
    ap (is_island false x) (relabel_at slot slot (record { name = slot; state = Asleep }) labels x) ∙ island_rested slot x (label_at labels x) (far x (contains_head x slots)) in
    ap (λ (t : Bool). cond (t && is_time_to_sleep (timer x)) (x ∷ ready_among timer (map (asleep_in slot) labels) slots) (ready_among timer (map (asleep_in slot) labels) slots)) here
    ∙ ap (λ (ns : List ℕ). cond (is_ready_island false timer x (label_at labels x)) (x ∷ ns) ns) (ready_rested timer labels slot slots (λ y h. far y (contains_tail x slots y h)))

-- one that is ready falls asleep, and then those after it
pub rests_next : (timer : ℕ → Option ℕ) (labels : Labels) (slot : ℕ) (slots : List ℕ) → AllPairs Below (slot ∷ slots) → is_ready_island false timer slot (label_at labels slot) ≡ true
    → all_rested (ready_among timer (rested labels slot) slots) (rested labels slot) ≡ all_rested (ready_among timer labels (slot ∷ slots)) labels
unfolding rested
rests_next timer labels slot slots r h =
    let new : Labels = map (asleep_in slot) labels in
    let front : slot ∷ ready_among timer labels slots ≡ ready_among timer labels (slot ∷ slots) = rw h refl in
    ap (λ (names : List ℕ). all_rested names new) (ready_rested timer labels slot slots (λ x k e. let lt : slot < x = above_first slot slots x r k in omega (arith, lt, e)))
    ∙ ap (λ (names : List ℕ). all_rested names labels) front

-- one that isn't ready stays as it is
pub stays_next : (timer : ℕ → Option ℕ) (labels : Labels) (slot : ℕ) (slots : List ℕ) → is_ready_island false timer slot (label_at labels slot) ≡ false
    → all_rested (ready_among timer labels slots) labels ≡ all_rested (ready_among timer labels (slot ∷ slots)) labels
stays_next timer labels slot slots h = let front : ready_among timer labels slots ≡ ready_among timer labels (slot ∷ slots) = rw h refl in ap (λ (names : List ℕ). all_rested names labels) front

-- ---- the island to split

-- the best of what is left
abbrev pub longest_among : (ℕ → Option ℕ) → Labels → Option ℕ → List ℕ → Option ℕ
longest_among timer labels best [] = best
longest_among timer labels best (slot ∷ slots) = longest_among timer labels (weighed_by timer best slot (label_at labels slot)) slots

longest_step : (timer : ℕ → Option ℕ) (labels : Labels) (best : Option ℕ) (slot : ℕ) (o : Option Label) (more : List ℕ) (t : Bool) → awake_label o ≡ t → label_at labels slot ≡ o
    → longest_among timer labels best (cond t (slot ∷ more) more) ≡ longest_among timer labels (weighed_by timer best slot o) more
longest_step timer labels best slot o more true a e = ap (λ (v : Option Label). longest_among timer labels (weighed_by timer best slot v) more) e
longest_step timer labels best slot o more false a e = rw (not_ready true timer slot o a) refl

longest_by : (timer : ℕ → Option ℕ) (best : Option ℕ) (slot : ℕ) (names : List ℕ) (t : Bool) → longest_at_rest timer (cond t (longer_at_rest timer best slot) best) names ≡ longest_at_rest timer best (cond t (slot ∷ names) names)
longest_by timer best slot names true = refl
longest_by timer best slot names false = refl

longest_scanned : (timer : ℕ → Option ℕ) (labels : Labels) (best : Option ℕ) (slot : ℕ) (rest : Labels) → Lies labels slot rest → longest_among timer labels best (awake_from slot rest) ≡ longest_at_rest timer best (ready_after true timer slot rest)
longest_scanned timer labels best slot [] at = refl
longest_scanned timer labels best slot (o ∷ rest) at =
    longest_step timer labels best slot o (awake_from (suc slot) rest) (awake_label o) refl (lies_here labels slot o rest at)
    ∙ longest_scanned timer labels (weighed_by timer best slot o) (suc slot) rest (lies_on labels slot o rest at)
    ∙ longest_by timer best slot (ready_after true timer (suc slot) rest) (is_ready_island true timer slot o)

pub longest_is : (timer : ℕ → Option ℕ) (labels : Labels) (slots : List ℕ) → AreAwakeSlots labels slots → longest_among timer labels None slots ≡ longest_ready timer labels
longest_is timer labels slots w = ap (longest_among timer labels None) (awake_are labels slots w) ∙ longest_scanned timer labels None 0 labels (lies_all labels)

-- ---- the least timers

-- the least timer of an island over some slots
abbrev pub least_among : ℕ → Labels → List ℕ → List ℕ → Option ℕ
least_among name labels timers [] = None
least_among name labels timers (slot ∷ slots) = with_timer (is_in (label_at labels slot) name) timers slot (least_among name labels timers slots)

no_timer : (mine : Bool) (timers : List ℕ) (slot : ℕ) (least : Option ℕ) → length timers ≤ slot → with_timer mine timers slot least ≡ least
no_timer true timers slot least h = rw (le-ltb slot (length timers) h) refl
no_timer false timers slot least h = refl

its_timer : (mine : Bool) (timers : List ℕ) (slot t : ℕ) (least : Option ℕ) → slot < length timers → get_or timers slot 0 ≡ t → with_timer mine timers slot least ≡ cond mine (Some (lesser t least)) least
its_timer true timers slot t least h e = rw (lt-ltb slot (length timers) h) (ap (λ (v : ℕ). Some (lesser v least)) e)
its_timer false timers slot t least h e = refl

past_timers : (name : ℕ) (labels : Labels) (timers slots : List ℕ) → ((x : ℕ) → Contains slots x → length timers ≤ x) → least_among name labels timers slots ≡ None
past_timers name labels timers [] far = refl
past_timers name labels timers (slot ∷ slots) far =
    no_timer (is_in (label_at labels slot) name) timers slot (least_among name labels timers slots) (far slot (contains_head slot slots))
    ∙ past_timers name labels timers slots (λ x h. far x (contains_tail slot slots x h))

not_mine : (mine : Bool) (a b : Option ℕ) → (mine ≡ true → false ≡ true) → b ≡ cond mine a b
not_mine true a b h = absurd (false≢true (h refl))
not_mine false a b h = refl

least_step : (name : ℕ) (labels : Labels) (timers : List ℕ) (slot : ℕ) (o : Option Label) (more : List ℕ) (t : ℕ) (a : Bool) → label_at labels slot ≡ o → slot < length timers → get_or timers slot 0 ≡ t → (is_in o name ≡ true → a ≡ true)
    → least_among name labels timers (cond a (slot ∷ more) more) ≡ cond (is_in o name) (Some (lesser t (least_among name labels timers more))) (least_among name labels timers more)
least_step name labels timers slot o more t true e lt at up =
    ap (λ (v : Option Label). with_timer (is_in v name) timers slot (least_among name labels timers more)) e
    ∙ its_timer (is_in o name) timers slot t (least_among name labels timers more) lt at
least_step name labels timers slot o more t false e lt at up = not_mine (is_in o name) (Some (lesser t (least_among name labels timers more))) (least_among name labels timers more) up

-- all movers of the island are awake
abbrev AreUp : ℕ → Labels → Type 0
AreUp name rest = (k : ℕ) → is_in (label_at rest k) name ≡ true → awake_label (label_at rest k) ≡ true

least_scanned : (name : ℕ) (labels : Labels) (timers : List ℕ) (slot : ℕ) (rest : Labels) (ts : List ℕ) → Lies labels slot rest → length timers ≡ slot + length ts → ((k : ℕ) → get_or timers (slot + k) 0 ≡ get_or ts k 0) → AreUp name rest
    → least_among name labels timers (awake_from slot rest) ≡ least_timer name rest ts
least_scanned name labels timers slot [] ts at long same up = refl
least_scanned name labels timers slot (o ∷ rest) [] at long same up =
    let end : length timers ≡ slot + 0 = long in
    past_timers name labels timers (awake_from slot (o ∷ rest)) (λ x h. let above : slot ≤ x = scanned_above slot (o ∷ rest) x h in omega (arith, above, end))
least_scanned name labels timers slot (o ∷ rest) (t ∷ ts) at long same up =
    let more : length timers ≡ slot + suc (length ts) = long in
    let first : slot ≡ slot + 0 = omega arith in
    least_step name labels timers slot o (awake_from (suc slot) rest) t (awake_label o) (lies_here labels slot o rest at) (omega (arith, more)) (ap (λ (n : ℕ). get_or timers n 0) first ∙ same 0) (up 0)
    ∙ ap (λ (least : Option ℕ). cond (is_in o name) (Some (lesser t least)) least)
    (least_scanned name labels timers (suc slot) rest ts (lies_on labels slot o rest at) (omega (arith, more))
    (λ k. let next : suc slot + k ≡ slot + suc k = omega arith in ap (λ (n : ℕ). get_or timers n 0) next ∙ same (suc k))
    (λ k. up (suc k)))

least_is : (name : ℕ) (labels : Labels) (timers slots : List ℕ) → AreAwakeSlots labels slots → AreUp name labels → least_among name labels timers slots ≡ least_timer name labels timers
least_is name labels timers slots w up =
    ap (least_among name labels timers) (awake_are labels slots w)
    ∙ least_scanned name labels timers 0 labels timers (lies_all labels) (omega arith) (λ k. let at : 0 + k ≡ k = omega arith in ap (λ (n : ℕ). get_or timers n 0) at) up

-- the list has the least timers over some slots, for the islands of these names
pub record AreLeastOver (labels : Labels) (timers names slots : List ℕ) (leasts : List (Option ℕ)) : Type 0 where
  pub each : (name : ℕ) → Contains names name → least_at leasts name ≡ least_among name labels timers slots

-- nothing is known at first
pub over_none : (labels : Labels) (timers names : List ℕ) (slots : List ℕ) (old : List (Option ℕ)) → slots ≡ [] → AreLeastOver labels timers names slots (forgotten names old)
over_none labels timers names slots old none = record { each = λ name h. forgotten_at names old name (inl h) ∙ ap (least_among name labels timers) (sym none) }

-- a slot more
pub over_more : (labels : Labels) (timers names : List ℕ) (slot : ℕ) (slots all : List ℕ) (leasts : List (Option ℕ)) → all ≡ slot ∷ slots → IsPartition labels → length labels ≤ length leasts
    → AreLeastOver labels timers names slots leasts → AreLeastOver labels timers names all (noted (label_at labels slot) timers slot leasts)
over_more labels timers names slot slots all leasts front p long w = record {
  each = λ name h.
      noted_at (label_at labels slot) timers slot leasts name (λ l e. let low : l.name ≤ slot = p.low slot l e in let lt : slot < length labels = some_short labels slot l e in omega (arith, low, lt, long))
      ∙ ap (with_timer (is_in (label_at labels slot) name) timers slot) (w.each name h)
      ∙ ap (least_among name labels timers) (sym front);
}

-- all slots of the awake movers
pub over_all : (labels : Labels) (timers awake slots : List ℕ) (leasts : List (Option ℕ)) → slots ≡ awake → IsPartition labels → AreAwakeSlots labels awake → AreLeastOver labels timers awake slots leasts → AreLeast labels timers leasts
over_all labels timers awake slots leasts same p w o = record {
  each = λ slot l e up.
      let home : label_at labels l.name ≡ Some l = p.named slot l e in
      let here : is_mover_awake labels l.name ≡ true = ap awake_label home ∙ ap not up in
      o.each l.name ((w.each l.name).1 here)
      ∙ ap (least_among l.name labels timers) same
      ∙ least_is l.name labels timers awake w (λ k h. awake_as labels l.name k l p home refl h ∙ ap not up);
}

-- each of these slots has a label
pub awake_short : (labels : Labels) (slots : List ℕ) (slot : ℕ) → AreAwakeSlots labels slots → Contains slots slot → slot < length labels
awake_short labels slots slot w h = short (label_at labels slot) refl ((w.each slot).0 h)
  where
    short : (o : Option Label) → label_at labels slot ≡ o → awake_label o ≡ true → slot < length labels
    short None e k = absurd (false≢true k)
    short (Some l) e k = some_short labels slot l e

-- ---- they are listed slot by slot

-- all slots
pub all_awake_listed : (labels : Labels) (slot : ℕ) (found : List ℕ) → length labels ≤ slot → found ++ awake_from slot (drop slot labels) ≡ awake_from 0 labels → AreAwakeSlots labels found
all_awake_listed labels slot found end h =
    let none : drop slot labels ≡ [] = drop_all slot labels end in
    let is : found ≡ awake_from 0 labels = sym (append-nil found) ∙ ap (λ (v : Labels). found ++ awake_from slot v) (sym none) ∙ h in
    let P : List ℕ → Type 0 = λ v. AreAwakeSlots labels v in
    subst P (sym is) (record {
      rising = scanned_rise 0 labels;
      each = λ k. (
        (λ i. let q = scanned_is 0 labels k i in let at : k ≡ q.0 = let e : k ≡ 0 + q.0 = q.1 in omega (arith, e) in ap (is_mover_awake labels) at ∙ q.2),
        (λ i. let Q : ℕ → Type 0 = λ v. Contains (awake_from 0 labels) v in let at : 0 + k ≡ k = omega arith in subst Q at (is_scanned 0 labels k i)),
      );
    })
