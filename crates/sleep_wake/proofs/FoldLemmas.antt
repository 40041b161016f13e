-- Constraints that begin and end one after the other, seen from each of them.
use Rattle.std.proofs.Common.{◌≡◌, ℕ, suc, ◌+◌, ◌<◌, ◌≤◌, ◌==◌, Bool, true, false, cond, List, [], ◌∷◌, Option, Some, None, length, drop, get_or, refl, sym, ap, ◌∙◌, arith, subst}
use Rattle.std.proofs.lemmas.Bool.{false≢true}
use Rattle.std.proofs.lemmas.List.{drop_more}
use Rattle.std.specs.Option.{option_map_or}
use Rattle.graph_colours.specs.declared.member.Movers.{Movers}
use Rattle.graph_colours.specs.declared.member.Member.{Member}
use Rattle.graph_colours.specs.Members.{inserted, without_member}
use Rattle.graph_colours.proofs.ListLemmas.{pairs_tail}
use Rattle.graph_colours.proofs.PlaceLemmas.{not_same}
use Rattle.graph_colours.proofs.SearchLemmas.{has_inserted}
use Rattle.islands.specs.declared.label.Label.{Label}
use Rattle.islands.specs.Labels.{Labels, label_at, is_asleep, woken}
use Rattle.islands.specs.declared.label.IslandState.TheVariants.{Whole}
use Rattle.islands.proofs.JoinLemmas.{contains_head, contains_tail}
use Rattle.islands.proofs.SplitLemmas.{IsLabelled}
use Rattle.sleep_wake.specs.declared.change.Change.{Change}
use Rattle.sleep_wake.specs.declared.change.Change.TheVariants.{Begin, End}
use Rattle.sleep_wake.specs.Acting.{Acting, AreMovers, IsConsistent, awake_label, is_mover_awake, are_awake}
use Rattle.sleep_wake.specs.Changes.{begun, ended, united, parted, after_change}
use Rattle.sleep_wake.specs.ChangeLists.{CanBegin, CanEnd, AreChanges, IsChange, begin_count}
use Rattle.sleep_wake.specs.Waking.{set_woken, woken_at, movers_woken}
use Rattle.sleep_wake.proofs.ListLemmas.{above_head, in_without}
use Rattle.sleep_wake.proofs.AwakeLemmas.{and_is, all_awake, same_awake, united_awake, united_labelled, parted_awake, parted_labelled, stated_labelled}
use Rattle.sleep_wake.proofs.KeptLemmas.{wakes_both}
use Rattle.sleep_wake.proofs.SizeLemmas.{both_ties, inserted_size, without_fewer}

-- the item in a place, and those after it
pub first_is : {X : Type 0} (xs : List X) (i : ℕ) (x : X) → i < length xs → x ≡ get_or xs i x → drop i xs ≡ x ∷ drop (i + 1) xs
first_is {X} xs i x lt e = drop_more xs i x lt ∙ ap (λ (y : X). y ∷ drop (i + 1) xs) (sym e)

-- ---- what is awake has a label

labelled_if : (o : Option Label) → awake_label o ≡ true → (l : Label) × (o ≡ Some l)
labelled_if None h = absurd (false≢true h)
labelled_if (Some l) h = (l, refl)

second_of : (labels : Labels) (o : Option ℕ) (b : ℕ) → option_map_or (is_mover_awake labels) o true ≡ true → o ≡ Some b → is_mover_awake labels b ≡ true
second_of labels None b h e = absurd (let none : None ≡ Some b = e in cc)
second_of labels (Some c) b h e = let same : c ≡ b = cc in let P : ℕ → Type 0 = λ v. is_mover_awake labels v ≡ true in subst P same h

pub record AreUp (labels : Labels) (m : Movers) : Type 0 where
  pub first : is_mover_awake labels m.first ≡ true
  pub second : (b : ℕ) → m.second ≡ Some b → is_mover_awake labels b ≡ true
  pub movers : AreMovers labels m

pub are_up : (labels : Labels) (m : Movers) → are_awake labels m ≡ true → AreUp labels m
are_up labels m a =
    let both = and_is (is_mover_awake labels m.first) (option_map_or (is_mover_awake labels) m.second true) a in
    let two : (b : ℕ) → m.second ≡ Some b → is_mover_awake labels b ≡ true = λ b e. second_of labels m.second b both.1 e in
    record { first = both.0; second = two; movers = record { first = labelled_if (label_at labels m.first) both.0; second = λ b e. labelled_if (label_at labels b) (two b e) } }

-- ---- several begin

pub begin_next : {C : Type 0} (number : C → ℕ) (m : Member C) (ms : List (Member C)) (s : Acting C) → IsConsistent number s → CanBegin number (m ∷ ms) s → CanBegin number ms (begun number m s)
unfolding begun
begin_next {C} number m ms s w can =
    let up = are_up s.labels m.movers (can.awake m (contains_head m ms)) in
    let same : (t : ℕ) → is_mover_awake (united m.movers.second m.movers.first s.labels) t ≡ is_mover_awake s.labels t = λ t. united_awake s.labels m.movers.first t m.movers.second w.islands.partition up.movers.first up.movers.second up.first up.second in
    record {
      rising = pairs_tail (λ a b. number a.id < number b.id) m ms can.rising;
      fresh = λ x h.
          let lt : number m.id < number x.id = above_head number m ms x can.rising h in
          let off : (number m.id == number x.id) ≡ false = not_same (number m.id) (number x.id) (λ e. omega (arith, e, lt)) in
          has_inserted number x.id m s.ties ∙ rw (off, can.fresh x (contains_tail m ms x h)) refl;
      awake = λ x h. same_awake s.labels (united m.movers.second m.movers.first s.labels) x.movers.first x.movers.second (same x.movers.first) (λ b e. same b) ∙ can.awake x (contains_tail m ms x h);
    }

pub begun_more : {C : Type 0} (number : C → ℕ) (m : Member C) (s : Acting C) → length (begun number m s).ties ≡ length s.ties + 1
unfolding begun
begun_more number m s = inserted_size number m s.ties

-- ---- several end

pub end_next : {C : Type 0} (number : C → ℕ) (m : Member C) (ms : List (Member C)) (s : Acting C) → IsConsistent number s → CanEnd number (m ∷ ms) s → CanEnd number ms (ended number m s)
unfolding ended
end_next {C} number m ms s w can =
    let up = are_up s.labels m.movers (can.awake m (contains_head m ms)) in
    let same : (t : ℕ) → is_mover_awake (parted m.movers.second m.movers.first s.labels) t ≡ is_mover_awake s.labels t = λ t. parted_awake s.labels m.movers.first t m.movers.second w.islands.partition up.first in
    record {
      rising = pairs_tail (λ a b. number a.id < number b.id) m ms can.rising;
      there = λ x h.
          let lt : number m.id < number x.id = above_head number m ms x can.rising h in
          in_without number m.id s.ties x (can.there x (contains_tail m ms x h)) (λ e. omega (arith, e, lt));
      awake = λ x h. same_awake s.labels (parted m.movers.second m.movers.first s.labels) x.movers.first x.movers.second (same x.movers.first) (λ b e. same b) ∙ can.awake x (contains_tail m ms x h);
    }

-- ---- changes

-- the movers of a constraint are awake once they were woken
pub woken_ready : {C : Type 0} (number : C → ℕ) (m : Movers) (s : Acting C) → IsConsistent number s → AreMovers s.labels m → are_awake (movers_woken number m s).labels m ≡ true
woken_ready number m s w h =
    let a = wakes_both number m.first m.second s w in
    all_awake (movers_woken number m s).labels m.first m.second (a.one h.first) (λ b e. a.two b e (h.second b e))

abbrev pub Labelled : Labels → Labels → Type 0
Labelled old new = (t : ℕ) → IsLabelled old t → IsLabelled new t

pub movers_on : (old new : Labels) (m : Movers) → Labelled old new → AreMovers old m → AreMovers new m
movers_on old new m f h = record { first = f m.first h.first; second = λ b e. f b (h.second b e) }

set_labelled : {C : Type 0} (number : C → ℕ) (name : ℕ) (t : Bool) (s : Acting C) → Labelled s.labels (cond t (set_woken number name s) s).labels
unfolding set_woken woken
set_labelled number name true s = λ t h. stated_labelled s.labels name Whole t h
set_labelled number name false s = λ t h. h

by_labelled : {C : Type 0} (number : C → ℕ) (o : Option Label) (s : Acting C) → Labelled s.labels (option_map_or (λ (l : Label). cond (is_asleep l.state) (set_woken number l.name s) s) o s).labels
by_labelled number None s = λ t h. h
by_labelled number (Some l) s = set_labelled number l.name (is_asleep l.state) s

pub woken_labelled : {C : Type 0} (number : C → ℕ) (slot : ℕ) (s : Acting C) → Labelled s.labels (woken_at number slot s).labels
unfolding woken_at
woken_labelled number slot s = by_labelled number (label_at s.labels slot) s

second_labelled : {C : Type 0} (number : C → ℕ) (o : Option ℕ) (s : Acting C) → Labelled s.labels (option_map_or (λ slot. woken_at number slot s) o s).labels
second_labelled number None s = λ t h. h
second_labelled number (Some slot) s = woken_labelled number slot s

pub both_labelled : {C : Type 0} (number : C → ℕ) (m : Movers) (s : Acting C) → Labelled s.labels (movers_woken number m s).labels
both_labelled number m s = λ t h. second_labelled number m.second (woken_at number m.first s) t (woken_labelled number m.first s t h)

pub changed_labelled : {C : Type 0} (number : C → ℕ) (c : Change C) (s : Acting C) → Labelled s.labels (after_change number c s).labels
unfolding begun ended
changed_labelled number (Begin m) s = λ t h. united_labelled (movers_woken number m.movers s).labels m.movers.first t m.movers.second (both_labelled number m.movers s t h)
changed_labelled number (End m) s = λ t h. parted_labelled (movers_woken number m.movers s).labels m.movers.first t m.movers.second (both_labelled number m.movers s t h)

pub change_now : {C : Type 0} (number : C → ℕ) (old now : Labels) (ties : List (Member C)) (c : Change C) (cs : List (Change C)) → Labelled old now → AreChanges number old ties (c ∷ cs) → IsChange number now ties c
change_now number old now ties (Begin m) cs on h = (h.0, movers_on old now m.movers on h.1)
change_now number old now ties (End m) cs on h = h.0

pub change_next : {C : Type 0} (number : C → ℕ) (old : Labels) (s : Acting C) (c : Change C) (cs : List (Change C)) → AreChanges number old s.ties (c ∷ cs) → AreChanges number old (after_change number c s).ties cs
unfolding begun ended
change_next {C} number old s (Begin m) cs h = let P : List (Member C) → Type 0 = λ v. AreChanges number old (inserted number m v) cs in subst P (sym (both_ties number m.movers s)) h.2
change_next {C} number old s (End m) cs h = let P : List (Member C) → Type 0 = λ v. AreChanges number old (without_member number m.id v) cs in subst P (sym (both_ties number m.movers s)) h.1

pub one_count : {C : Type 0} (n room : ℕ) (c : Change C) (cs : List (Change C)) → n + begin_count (c ∷ cs) ≤ room → n + begin_count (c ∷ []) ≤ room
one_count n room (Begin m) cs h = let k : n + suc (begin_count cs) ≤ room = h in omega (arith, k)
one_count n room (End m) cs h = omega (arith, h)

pub count_next : {C : Type 0} (number : C → ℕ) (s : Acting C) (room : ℕ) (c : Change C) (cs : List (Change C)) → length s.ties + begin_count (c ∷ cs) ≤ room → length (after_change number c s).ties + begin_count cs ≤ room
unfolding begun ended
count_next {C} number s room (Begin m) cs h =
    let k : length s.ties + suc (begin_count cs) ≤ room = h in
    let same : length (movers_woken number m.movers s).ties ≡ length s.ties = ap (λ (l : List (Member C)). length l) (both_ties number m.movers s) in
    let more : length (inserted number m (movers_woken number m.movers s).ties) ≡ length (movers_woken number m.movers s).ties + 1 = inserted_size number m (movers_woken number m.movers s).ties in
    omega (arith, k, same, more)
count_next {C} number s room (End m) cs h =
    let same : length (movers_woken number m.movers s).ties ≡ length s.ties = ap (λ (l : List (Member C)). length l) (both_ties number m.movers s) in
    let less : length (without_member number m.id (movers_woken number m.movers s).ties) ≤ length (movers_woken number m.movers s).ties = without_fewer number m.id (movers_woken number m.movers s).ties in
    omega (arith, h, same, less)
