-- A sleep phase reads the timers of the awake movers alone.
use Rattle.std.proofs.Common.{◌≡◌, ℕ, suc, ◌+◌, ◌&&◌, ◌||◌, Bool, true, false, not, cond, List, [], ◌∷◌, get_or, length, Option, None, Some, inl, inr, refl, sym, ap, ◌∙◌, subst, arith}
use Rattle.std.proofs.lemmas.Bool.{false≢true}
use Rattle.std.proofs.lemmas.Bool.Decides.{nat_tests}
use Rattle.std.specs.Prelude.{fold}
use Rattle.fixed_geom.specs.Options.{unbeaten}
use Rattle.fixed_geom.proofs.UnbeatenLemmas.{best_of, IsStrict, unbeaten_is_best}
use Rattle.islands.specs.declared.label.Label.{Label}
use Rattle.islands.specs.Labels.{Labels, label_at, is_in, is_loose, is_asleep}
use Rattle.islands.specs.Partition.{IsPartition}
use Rattle.islands.proofs.LabelLemmas.{in_case}
use Rattle.islands.proofs.SplitLemmas.{split_is}
use Rattle.sleep_wake.specs.Acting.{Acting, IsConsistent, awake_label, is_mover_awake}
use Rattle.sleep_wake.specs.SleepPhase.{lesser, least_timer, is_time_to_sleep, is_island, is_less, ready, picked_to_split, split_at, split_picked, ready_put_to_rest, sleep_phase, edges_in}
use Rattle.sleep_wake.specs.AwakeSlots.{AreAwakeSlots, AgreeAwake}
use Rattle.sleep_wake.specs.Resting.{least_at, AreLeast, is_ready_island, ready_after, ready_names, longer_at_rest, longest_at_rest, longest_ready, rests_by, second_rests, is_to_rest}
use Rattle.sleep_wake.proofs.AwakeLemmas.{awake_as}
use Rattle.sleep_wake.proofs.EdgeLemmas.{edges_inside}
use Rattle.sleep_wake.proofs.PhaseLemmas.{AreAll, IsNamedIsland, names, all_if, all_on, as_all, and_is, picked_is, split_keeps}
use Rattle.sleep_wake.proofs.LeastLemmas.{timer_in, ready_names_are}
use Rattle.sleep_wake.specs.Waking.{put_to_rest}

-- ---- two that tell the least timers of the awake islands

abbrev pub AgreeOn : Labels → (ℕ → Option ℕ) → (ℕ → Option ℕ) → Type 0
AgreeOn labels f g = (slot : ℕ) (l : Label) → label_at labels slot ≡ Some l → is_asleep l.state ≡ false → f l.name ≡ g l.name

agree_there : (loose : Bool) (labels : Labels) (f g : ℕ → Option ℕ) (name : ℕ) → AgreeOn labels f g → IsNamedIsland loose labels name → f name ≡ g name
agree_there loose labels f g name w h = let o = names labels name loose h in ap f (sym o.named) ∙ w name o.l o.at o.awake ∙ ap g o.named

-- ---- the same islands are ready by both

ready_by : (loose : Bool) (f g : ℕ → Option ℕ) (slot : ℕ) (o : Option Label) (t : Bool) → (t ≡ true → f slot ≡ g slot) → (t && is_time_to_sleep (f slot)) ≡ (t && is_time_to_sleep (g slot))
ready_by loose f g slot o true h = ap is_time_to_sleep (h refl)
ready_by loose f g slot o false h = refl

ready_alike : (loose : Bool) (labels : Labels) (f g : ℕ → Option ℕ) (slot : ℕ) (rest : Labels) → AgreeOn labels f g → ((k : ℕ) → label_at labels (slot + k) ≡ label_at rest k) → ready_after loose f slot rest ≡ ready_after loose g slot rest
ready_alike loose labels f g slot [] w at = refl
ready_alike loose labels f g slot (o ∷ rest) w at =
    let first : slot ≡ slot + 0 = omega arith in
    let here : label_at labels slot ≡ o = ap (label_at labels) first ∙ at 0 in
    let test : is_ready_island loose f slot o ≡ is_ready_island loose g slot o = ready_by loose f g slot o (is_island loose slot o) (λ h. agree_there loose labels f g slot w (ap (is_island loose slot) here ∙ h)) in
    ap (λ (t : Bool). cond t (slot ∷ ready_after loose f (suc slot) rest) (ready_after loose f (suc slot) rest)) test
    ∙ ap (λ (ns : List ℕ). cond (is_ready_island loose g slot o) (slot ∷ ns) ns)
    (ready_alike loose labels f g (suc slot) rest w (λ k. let next : suc slot + k ≡ slot + suc k = omega arith in ap (label_at labels) next ∙ at (suc k)))

starts : (labels : Labels) (k : ℕ) → label_at labels (0 + k) ≡ label_at labels k
starts labels k = let at : 0 + k ≡ k = omega arith in ap (label_at labels) at

pub alike_ready : (loose : Bool) (labels : Labels) (f g : ℕ → Option ℕ) → AgreeOn labels f g → ready_names loose f labels ≡ ready_names loose g labels
alike_ready loose labels f g w = ready_alike loose labels f g 0 labels w (starts labels)

-- each of them is an island
all_ready : (loose : Bool) (labels : Labels) (f : ℕ → Option ℕ) (slot : ℕ) (rest : Labels) → ((k : ℕ) → label_at labels (slot + k) ≡ label_at rest k) → AreAll (IsNamedIsland loose labels) (ready_after loose f slot rest)
all_ready loose labels f slot [] at = tt
all_ready loose labels f slot (o ∷ rest) at =
    let first : slot ≡ slot + 0 = omega arith in
    let here : label_at labels slot ≡ o = ap (label_at labels) first ∙ at 0 in
    all_if (IsNamedIsland loose labels) (is_ready_island loose f slot o) slot (ready_after loose f (suc slot) rest)
    (λ h. ap (is_island loose slot) here ∙ (and_is (is_island loose slot o) (is_time_to_sleep (f slot)) h).0)
    (all_ready loose labels f (suc slot) rest (λ k. let next : suc slot + k ≡ slot + suc k = omega arith in ap (label_at labels) next ∙ at (suc k)))

-- ---- the same one is split

next_best : (P : ℕ → Type 0) (t : Bool) (b m : ℕ) → P b → P m → (k : ℕ) → cond t (Some m) (Some b) ≡ Some k → P k
next_best P true b m h i k q = let same : m ≡ k = cc in subst P same i
next_best P false b m h i k q = let same : b ≡ k = cc in subst P same h

longer_is : (P : ℕ → Type 0) (timer : ℕ → Option ℕ) (best : Option ℕ) (m : ℕ) → ((n : ℕ) → best ≡ Some n → P n) → P m → (k : ℕ) → longer_at_rest timer best m ≡ Some k → P k
longer_is P timer None m f h k q = let same : m ≡ k = cc in subst P same h
longer_is P timer (Some b) m f h k q = next_best P (is_less (timer b) (timer m)) b m (f b refl) h k q

longer_by : (f g : ℕ → Option ℕ) (best : Option ℕ) (name : ℕ) → ((k : ℕ) → best ≡ Some k → f k ≡ g k) → f name ≡ g name → longer_at_rest f best name ≡ longer_at_rest g best name
longer_by f g None name h e = refl
longer_by f g (Some best) name h e = rw (h best refl, e) refl

longest_same : (f g : ℕ → Option ℕ) (best : Option ℕ) (ns : List ℕ) → ((k : ℕ) → best ≡ Some k → f k ≡ g k) → AreAll (λ k. f k ≡ g k) ns → longest_at_rest f best ns ≡ longest_at_rest g best ns
longest_same f g best [] h a = refl
longest_same f g best (name ∷ ns) h a =
    longest_same f g (longer_at_rest f best name) ns (longer_is (λ k. f k ≡ g k) f best name h a.0) a.1
    ∙ ap (λ (b : Option ℕ). longest_at_rest g b ns) (longer_by f g best name h a.0)

pub same_longest : (labels : Labels) (f g : ℕ → Option ℕ) → AgreeOn labels f g → longest_ready f labels ≡ longest_ready g labels
same_longest labels f g w =
    longest_same f g None (ready_names true f labels) (λ k e. absurd (let no : None ≡ Some k = e in cc))
    (all_on (IsNamedIsland true labels) (λ k. f k ≡ g k) (ready_names true f labels) (λ k h. agree_there true labels f g k w h) (all_ready true labels f 0 labels (starts labels)))
    ∙ ap (λ (ns : List ℕ). longest_at_rest g None ns) (alike_ready true labels f g w)

-- ---- the best of those looked at one after another is the one that none beats

abbrev IsDue : (ℕ → Option ℕ) → ℕ → Type 0
IsDue timer name = is_time_to_sleep (timer name) ≡ true

abbrev is_longer : (ℕ → Option ℕ) → ℕ → ℕ → Bool
is_longer timer a b = is_less (timer b) (timer a)

less_one_way : (a b : Option ℕ) → is_less a b ≡ true → is_less b a ≡ false
less_one_way None b h = absurd (false≢true h)
less_one_way (Some a) None h = absurd (false≢true h)
less_one_way (Some a) (Some b) h = grind (arith, nat_tests)

less_through : (a b c : Option ℕ) → is_time_to_sleep b ≡ true → is_less b a ≡ false → is_less c b ≡ false → is_less c a ≡ false
less_through a None c due h k = absurd (false≢true due)
less_through a (Some b) None due h k = refl
less_through None (Some b) (Some c) due h k = refl
less_through (Some a) (Some b) (Some c) due h k = grind (arith, nat_tests)

longer_is_strict : (timer : ℕ → Option ℕ) → IsStrict (IsDue timer) (is_longer timer)
longer_is_strict timer = record {
  one_way = λ x y hx hy h. less_one_way (timer y) (timer x) h;
  through = λ x y z hx hy hz h k. less_through (timer x) (timer y) (timer z) hy h k;
}

some_of_either : (t : Bool) (a b : ℕ) → cond t (Some a) (Some b) ≡ Some (cond t a b)
some_of_either true a b = refl
some_of_either false a b = refl

longest_is_best : (timer : ℕ → Option ℕ) (best : ℕ) (names : List ℕ) → longest_at_rest timer (Some best) names ≡ Some (best_of (is_longer timer) best names)
longest_is_best timer best [] = refl
longest_is_best timer best (name ∷ names) =
    ap (λ (o : Option ℕ). longest_at_rest timer o names) (some_of_either (is_longer timer name best) name best)
    ∙ longest_is_best timer (cond (is_longer timer name best) name best) names

longest_is_unbeaten : (timer : ℕ → Option ℕ) (names : List ℕ) → AreAll (IsDue timer) names → longest_at_rest timer None names ≡ unbeaten (is_longer timer) names
longest_is_unbeaten timer [] h = refl
longest_is_unbeaten timer (name ∷ names) h =
    longest_is_best timer name names ∙ sym (unbeaten_is_best (IsDue timer) (is_longer timer) name names (longer_is_strict timer) h.0 (as_all (IsDue timer) names h.1))

all_due : (timer : ℕ → Option ℕ) (slot : ℕ) (rest : Labels) → AreAll (IsDue timer) (ready_after true timer slot rest)
all_due timer slot [] = tt
all_due timer slot (o ∷ rest) =
    all_if (IsDue timer) (is_ready_island true timer slot o) slot (ready_after true timer (suc slot) rest)
    (λ h. (and_is (is_island true slot o) (is_time_to_sleep (timer slot)) h).1) (all_due timer (suc slot) rest)

-- by the least timers of the definition it is the definition's
longest_picked : (labels : Labels) (timers : List ℕ) → longest_ready (timer_in labels timers) labels ≡ picked_to_split labels timers
longest_picked labels timers =
    longest_is_unbeaten (timer_in labels timers) (ready_names true (timer_in labels timers) labels) (all_due (timer_in labels timers) 0 labels)
    ∙ ap (unbeaten (is_longer (timer_in labels timers))) (ready_names_are true labels timers)

pub picked_by_least : (labels : Labels) (timers : List ℕ) (leasts : List (Option ℕ)) → AreLeast labels timers leasts → longest_ready (least_at leasts) labels ≡ picked_to_split labels timers
picked_by_least labels timers leasts w = same_longest labels (least_at leasts) (timer_in labels timers) w.each ∙ longest_picked labels timers

-- ---- the same movers rest

label_rests : (labels : Labels) (f g : ℕ → Option ℕ) (slot : ℕ) (o : Option Label) → label_at labels slot ≡ o → AgreeOn labels f g → rests_by f o ≡ rests_by g o
label_rests labels f g slot None e w = refl
label_rests labels f g slot (Some l) e w = by_state (is_asleep l.state) refl
  where
    no_rest : (t a b : Bool) → ((t && false) && a) ≡ ((t && false) && b)
    no_rest true a b = refl
    no_rest false a b = refl

    by_state : (t : Bool) → is_asleep l.state ≡ t → ((not (is_loose l.state) && not (is_asleep l.state)) && is_time_to_sleep (f l.name)) ≡ ((not (is_loose l.state) && not (is_asleep l.state)) && is_time_to_sleep (g l.name))
    by_state true k = rw k (no_rest (not (is_loose l.state)) (is_time_to_sleep (f l.name)) (is_time_to_sleep (g l.name)))
    by_state false k = ap (λ (v : Option ℕ). (not (is_loose l.state) && not (is_asleep l.state)) && is_time_to_sleep v) (w slot l e k)

second_same : (labels : Labels) (f g : ℕ → Option ℕ) (o : Option ℕ) → AgreeOn labels f g → second_rests f labels o ≡ second_rests g labels o
second_same labels f g None w = refl
second_same labels f g (Some slot) w = label_rests labels f g slot (label_at labels slot) refl w

pub same_rests : {C : Type 0} (labels : Labels) (f g : ℕ → Option ℕ) → AgreeOn labels f g → is_to_rest {C = C} f labels ≡ is_to_rest {C = C} g labels
same_rests {C} labels f g w = λ i m. (ap (λ (t : Bool). t || second_rests f labels m.movers.second) (label_rests labels f g m.movers.first (label_at labels m.movers.first) refl w) ∙ ap (λ (t : Bool). rests_by g (label_at labels m.movers.first) || t) (second_same labels f g m.movers.second w)) i

-- ---- timers that are the same for the awake movers

timer_by : (t : Bool) (a b : ℕ) (least : Option ℕ) → (t ≡ true → a ≡ b) → cond t (Some (lesser a least)) least ≡ cond t (Some (lesser b least)) least
timer_by true a b least h = ap (λ (v : ℕ). Some (lesser v least)) (h refl)
timer_by false a b least h = refl

least_same : (name : ℕ) (rest : Labels) (a b : List ℕ) → length a ≡ length b → ((k : ℕ) → is_in (label_at rest k) name ≡ true → get_or a k 0 ≡ get_or b k 0) → least_timer name rest a ≡ least_timer name rest b
least_same name [] a b long same = refl
least_same name (o ∷ rest) [] [] long same = refl
least_same name (o ∷ rest) [] (u ∷ b) long same = absurd (omega (arith, long))
least_same name (o ∷ rest) (t ∷ a) [] long same = absurd (omega (arith, long))
least_same name (o ∷ rest) (t ∷ a) (u ∷ b) long same =
    let more : suc (length a) ≡ suc (length b) = long in
    ap (λ (least : Option ℕ). cond (is_in o name) (Some (lesser t least)) least) (least_same name rest a b (omega (arith, more)) (λ k. same (suc k)))
    ∙ timer_by (is_in o name) t u (least_timer name rest b) (same 0)

pub timers_agree : (labels : Labels) (a b : List ℕ) → IsPartition labels → AgreeAwake labels a b → AgreeOn labels (timer_in labels a) (timer_in labels b)
timers_agree labels a b p w slot l e up =
    least_same l.name labels a b w.size (λ k h. w.same k (awake_as labels l.name k l p (p.named slot l e) refl h ∙ ap not up))

same_ready : (loose : Bool) (labels : Labels) (a b : List ℕ) → IsPartition labels → AgreeAwake labels a b → ready loose labels a ≡ ready loose labels b
same_ready loose labels a b p w = sym (ready_names_are loose labels a) ∙ alike_ready loose labels (timer_in labels a) (timer_in labels b) (timers_agree labels a b p w) ∙ ready_names_are loose labels b

same_picked : (labels : Labels) (a b : List ℕ) → IsPartition labels → AgreeAwake labels a b → picked_to_split labels a ≡ picked_to_split labels b
same_picked labels a b p w = sym (longest_picked labels a) ∙ same_longest labels (timer_in labels a) (timer_in labels b) (timers_agree labels a b p w) ∙ longest_picked labels b

-- ---- a split leaves who is awake

split_awake : {C : Type 0} (number : C → ℕ) (s : Acting C) (name : ℕ) (slot : ℕ) → IsConsistent number s → IsNamedIsland true s.labels name → is_mover_awake (split_at name s).labels slot ≡ is_mover_awake s.labels slot
unfolding split_at
split_awake number s name slot w h =
    let o = names s.labels name true h in
    let parts = split_is s.labels name (edges_in s.labels name s.ties) w.islands.partition (edges_inside s.labels name s.ties w.islands) in
    elim (in_case (label_at s.labels slot) name) [
      | inl k ↦ ap awake_label (parts.members slot k).label ∙ sym (awake_as s.labels name slot o.l w.islands.partition o.at o.named k ∙ ap not o.awake)
      | inr k ↦ ap awake_label (parts.others slot k)
    ]

picked_awake : {C : Type 0} (number : C → ℕ) (s : Acting C) (picked : Option ℕ) (slot : ℕ) → IsConsistent number s → ((name : ℕ) → picked ≡ Some name → IsNamedIsland true s.labels name) → is_mover_awake (split_picked picked s).labels slot ≡ is_mover_awake s.labels slot
picked_awake number s None slot w h = refl
picked_awake number s (Some name) slot w h = split_awake number s name slot w (h name refl)

after_split : {C : Type 0} (number : C → ℕ) (s : Acting C) (timers : List ℕ) (slot : ℕ) → IsConsistent number s → is_mover_awake (split_picked (picked_to_split s.labels timers) s).labels slot ≡ is_mover_awake s.labels slot
after_split number s timers slot w = picked_awake number s (picked_to_split s.labels timers) slot w (λ name e. picked_is s.labels timers name e)

pub awake_after : {C : Type 0} (number : C → ℕ) (s now : Acting C) (timers awake : List ℕ) → IsConsistent number s → now ≡ split_picked (picked_to_split s.labels timers) s → AreAwakeSlots s.labels awake → AreAwakeSlots now.labels awake
awake_after {C} number s now timers awake w is a =
    let P : Acting C → Type 0 = λ v. AreAwakeSlots v.labels awake in
    subst P (sym is) (record {
      rising = a.rising;
      each = λ slot. ((λ h. after_split number s timers slot w ∙ (a.each slot).0 h), (λ h. (a.each slot).1 (sym (after_split number s timers slot w) ∙ h)));
    })

-- ---- the phase

pub phase_agrees : {C : Type 0} (number : C → ℕ) (s : Acting C) (a b : List ℕ) → IsConsistent number s → AgreeAwake s.labels a b → sleep_phase number a s ≡ sleep_phase number b s
phase_agrees {C} number s a b w same =
    let now : Acting C = split_picked (picked_to_split s.labels a) s in
    let consistent : IsConsistent number now = split_keeps number s (picked_to_split s.labels a) w (λ name e. picked_is s.labels a name e) in
    let still : AgreeAwake now.labels a b = record { size = same.size; same = λ slot h. same.same slot (sym (after_split number s a slot w) ∙ h) } in
    ap (λ (ns : List ℕ). fold (λ now name. put_to_rest number name now) now ns) (same_ready false now.labels a b consistent.islands.partition still)
    ∙ ap (λ (picked : Option ℕ). ready_put_to_rest number b (split_picked picked s)) (same_picked s.labels a b w.islands.partition same)
