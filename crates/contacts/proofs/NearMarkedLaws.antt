-- Asking for what is near each shape of a marked slot finds all fresh pairs.
use Rattle.std.proofs.Common.{◌≡◌, ℕ, zero, suc, ◌+◌, ◌*◌, ◌^◌, ◌<◌, ◌≤◌, ◌==◌, ◌&&◌, ◌||◌, List, [], ◌∷◌, ◌++◌, length, map, drop, get_or, Bool, true, false, cond, not, nat_lt, ltb-true, is_some, Option, Some, None, ◌⊎◌, inl, inr, refl, sym, ap, ◌∙◌, subst, arith, add-one, eqb}
use Rattle.std.specs.Prelude.{◌/◌, ◌%◌, All, int_le}
use Rattle.std.specs.List.{Contains, dedup, filter_map, cons_option}
use Rattle.std.specs.Option.{option_to_list}
use Rattle.std.specs.List.Sorted.{IsPermutation, IsSorted, IsStrictlyIncreasing}
use Rattle.std.specs.Ordering.{nat_cmp}
use Rattle.std.proofs.lemmas.Bool.Decides.{nat_tests}
use Rattle.std.proofs.lemmas.List.Kept.{Contains-dedup_nat}
use Rattle.std.proofs.lemmas.List.Sorted.{Contains-permutation}
use Rattle.std.proofs.lemmas.Map.Keys.{IsStrictlyIncreasing-dedup}
use Rattle.fixed_geom.specs.declared.boxes.Box2.{Box2}
use Rattle.fixed_geom.specs.Boxes.{spans_meet, overlaps}
use Rattle.contacts_base.specs.declared.near.Proxy.{Proxy}
use Rattle.contacts_base.specs.declared.contact.ContactEntry.{ContactEntry}
use Rattle.shapes.specs.declared.limits.TheConstants.{MAX_SHAPES}
use Rattle.contacts_base.specs.Keys.{key_number}
use Rattle.contacts_base.specs.Near.{is_near}
use Rattle.contacts_base.specs.Proxies.{IsProxy, IsProxyList, number_of}
use Rattle.contacts_base.specs.Contacts.{lookup, number_of as entry_number}
use Rattle.contacts_base.specs.declared.body_pair.BodyPair.{BodyPair}
use Rattle.contacts.specs.Pairs.{proxy_at, pair_key, first_place, second_place}
use Rattle.contacts_base.specs.Changes.{entry_of, entry_with, key_of}
use Rattle.contacts.specs.ByCodes.{entry_at, contacts_of, allowed_codes}
use Rattle.contacts.specs.Known.{either_moved, found, fresh, has_key, IsPairKey, is_fresh, may_touch, near_key}
use Rattle.contacts.specs.NearMarked.{HasNumbers, HasNumbersIn, IsExtended, fresh_by, fresh_of_both, near_number, number_if, number_of_both, number_with, numbers_up, numbers_with}
use Rattle.contacts.specs.Fates.{AreWithin, moved_by}
use Rattle.contacts_base.proofs.Members.{Each, IsIn, contains_from_in, in_from_contains, in_left, in_right}
use Rattle.contacts_base.proofs.Rising.{IsRising, rising_from_increasing}
use Rattle.contacts_base.proofs.MergeLaws.{drop_next}
use Rattle.contacts.proofs.KnownLemmas.{IsAllowedFrom, IsCodeOf, IsImage, IsPlace, filter_in, found_at, in_codes, in_filter, in_map, map_in, near_code, place_of}
use Rattle.contacts.proofs.MergedMembers.{same_members}
use Rattle.contacts.proofs.ProxyLemmas.{numbers_later}
use Rattle.contacts.proofs.UpdateLemmas.{new_rise}
use Rattle.packed_sets.specs.Marks.{AreListed}

-- ---- boxes that overlap, in either order

swaps : (s t : Bool) → (s && t) ≡ (t && s)
swaps true true = refl
swaps true false = refl
swaps false true = refl
swaps false false = refl

meets_swaps : (a b c d : _) → spans_meet a b c d ≡ spans_meet c d a b
unfolding spans_meet
meets_swaps a b c d = swaps (int_le a d) (int_le c b)

overlaps_swaps : (a b : Box2) → overlaps a b ≡ true → overlaps b a ≡ true
overlaps_swaps a b h = rw (meets_swaps b.lo.x b.hi.x a.lo.x a.hi.x, meets_swaps b.lo.y b.hi.y a.lo.y a.hi.y) h

third_of : (s t u v : Bool) → cond s false (cond t (cond u v false) false) ≡ true → v ≡ true
third_of true t u v h = cc
third_of false true true v h = h
third_of false true false v h = cc
third_of false false u v h = cc

near_overlaps : (p q : Proxy) → is_near p q ≡ true → overlaps p.fat q.fat ≡ true
unfolding is_near
near_overlaps p q h = third_of (p.id.slot == q.id.slot) (p.dynamic || q.dynamic) _ (overlaps p.fat q.fat) h

if_true : {X : Type 0} (t : Bool) (x y : X) → cond t (Some x) None ≡ Some y → t ≡ true
if_true true x y h = refl
if_true false x y h = cc

overlaps_by : (t : Bool) (p q : Proxy) (n : ℕ) → cond t (number_if p q) (number_if q p) ≡ Some n → overlaps q.fat p.fat ≡ true
overlaps_by true p q n h = overlaps_swaps p.fat q.fat (near_overlaps p q (if_true (is_near p q) _ n h))
overlaps_by false p q n h = near_overlaps q p (if_true (is_near q p) _ n h)

-- ---- the numbers of one shape

up_step : (ps : List Proxy) (p : Proxy) (slot j k n : ℕ) (t : Bool) → (k == j) ≡ t → k < suc j → number_with p (found ps (slot * 256 + k)) ≡ Some n → (k < j → IsIn n (numbers_up ps p slot j)) → IsIn n (numbers_up ps p slot j ++ option_to_list (number_with p (found ps (slot * 256 + j))))
up_step ps p slot j k n true e lt h f =
    let same : k ≡ j = grind (arith, nat_tests) in
    in_right n (numbers_up ps p slot j) _ (subst (λ (o : Option ℕ). IsIn n (option_to_list o)) (sym h ∙ ap (λ (i : ℕ). number_with p (found ps (slot * 256 + i))) same) (inl refl))
up_step ps p slot j k n false e lt h f =
    let other : k ≡ j → ⊥ = λ q. let yes_same : (k == j) ≡ true = grind (arith, nat_tests) in cc in
    in_left n (numbers_up ps p slot j) _ (f (omega (arith, other)))

up_has : (ps : List Proxy) (p : Proxy) (slot j k n : ℕ) → k < j → number_with p (found ps (slot * 256 + k)) ≡ Some n → IsIn n (numbers_up ps p slot j)
up_has ps p slot zero k n lt h = absurd (omega arith)
up_has ps p slot (suc j) k n lt h = up_step ps p slot j k n (k == j) refl lt h (λ less. up_has ps p slot j k n less h)

append_assoc : (xs ys zs : List ℕ) → (xs ++ ys) ++ zs ≡ xs ++ (ys ++ zs)
append_assoc [] ys zs = refl
append_assoc (x ∷ xs) ys zs = ap (λ (l : List ℕ). x ∷ l) (append_assoc xs ys zs)

pub numbers_pushed : (ps : List Proxy) (p : Proxy) (slot k i : ℕ) (o : Option ℕ) (old now more : List ℕ) → now ≡ old ++ numbers_up ps p slot k → i ≡ slot * 256 + k → o ≡ number_with p (found ps i) → more ≡ now ++ option_to_list o → more ≡ old ++ numbers_up ps p slot (k + 1)
numbers_pushed ps p slot k i o old now more is at so added =
    rw add-one (added ∙ ap (λ (l : List ℕ). l ++ option_to_list o) is ∙ append_assoc old (numbers_up ps p slot k) (option_to_list o) ∙ ap (λ (x : Option ℕ). old ++ (numbers_up ps p slot k ++ option_to_list x)) (so ∙ ap (λ (j : ℕ). number_with p (found ps j)) at))

pub slot_pushed : (ps : List Proxy) (p : Proxy) (slots : List ℕ) (k slot d : ℕ) (now more whole : List ℕ) → k < length slots → slot ≡ get_or slots k d → more ≡ now ++ numbers_up ps p slot MAX_SHAPES → (now ++ numbers_with ps p (drop k slots)) ≡ whole → (more ++ numbers_with ps p (drop (k + 1) slots)) ≡ whole
slot_pushed ps p slots k slot d now more whole lt is added so =
    let head : drop k slots ≡ slot ∷ drop (suc k) slots = drop_next slots k d lt ∙ ap (λ (x : ℕ). x ∷ drop (suc k) slots) (sym is) in
    rw add-one (ap (λ (l : List ℕ). l ++ numbers_with ps p (drop (suc k) slots)) added ∙ append_assoc now (numbers_up ps p slot MAX_SHAPES) (numbers_with ps p (drop (suc k) slots)) ∙ ap (λ (l : List ℕ). now ++ numbers_with ps p l) (sym head) ∙ so)

with_has : (ps : List Proxy) (p : Proxy) (slots : List ℕ) (slot n : ℕ) → IsIn slot slots → IsIn n (numbers_up ps p slot MAX_SHAPES) → IsIn n (numbers_with ps p slots)
with_has ps p [] slot n i h = absurd i
with_has ps p (s ∷ slots) slot n i h =
    elim i [
      | inl e ↦ in_left n (numbers_up ps p s MAX_SHAPES) (numbers_with ps p slots) (subst (λ (m : ℕ). IsIn n (numbers_up ps p m MAX_SHAPES)) e h)
      | inr l ↦ in_right n (numbers_up ps p s MAX_SHAPES) (numbers_with ps p slots) (with_has ps p slots slot n l h)
    ]

has_by : (ps : List Proxy) (p : Proxy) (m n : ℕ) (r : Option Proxy) (slots : List ℕ) → IsProxyList ps → All (λ q. overlaps q.fat p.fat ≡ true → Contains slots q.id.slot) ps → found ps m ≡ r → number_with p r ≡ Some n → IsIn n (numbers_with ps p slots)
has_by ps p m n None slots list complete f h = cc
has_by ps p m n (Some q) slots list complete f h =
    let at : IsPlace ps m q = place_of ps m q f in
    let proxy : IsProxy q = subst IsProxy at.is (list.each at.i _ at.within) in
    let near : overlaps q.fat p.fat ≡ true = overlaps_by (nat_lt (number_of p) (number_of q)) p q n h in
    let slot : Contains slots q.id.slot = subst (λ (r : Proxy). overlaps r.fat p.fat ≡ true → Contains slots r.id.slot) at.is (complete at.i _ at.within) near in
    let index : q.id.index < MAX_SHAPES = proxy.index in
    let named : q.id.slot * 256 + q.id.index ≡ m = at.number in
    with_has ps p slots q.id.slot n (in_from_contains slots q.id.slot slot) (up_has ps p q.id.slot MAX_SHAPES q.id.index n index (ap (λ (i : ℕ). number_with p (found ps i)) named ∙ ap (number_with p) f ∙ h))

pub has_numbers : (ps : List Proxy) (i : ℕ) (p : Proxy) (slots old more : List ℕ) → IsProxyList ps → found ps i ≡ Some p → All (λ q. overlaps q.fat p.fat ≡ true → Contains slots q.id.slot) ps → more ≡ old ++ numbers_with ps p slots → HasNumbers ps i more
has_numbers ps i p slots old more list f complete is = λ m n h.
    let with_p : number_with p (found ps m) ≡ Some n = ap (λ (o : Option Proxy). number_of_both o (found ps m)) (sym f) ∙ h in
    rw is (contains_from_in (old ++ numbers_with ps p slots) n (in_right n old (numbers_with ps p slots) (has_by ps p m n (found ps m) slots list complete refl with_p)))

pub numbers_more : (ps : List Proxy) (i : ℕ) (numbers more : List ℕ) → IsExtended numbers more → HasNumbers ps i numbers → HasNumbers ps i more
numbers_more ps i numbers more f has = λ m n h. f n (has m n h)

pub numbers_in_more : (ps : List Proxy) (slot : ℕ) (numbers more : List ℕ) → IsExtended numbers more → HasNumbersIn ps slot numbers → HasNumbersIn ps slot more
numbers_in_more ps slot numbers more f has = λ index lt. numbers_more ps (slot * 256 + index) numbers more f (has index lt)

pub all_more : (ps : List Proxy) (slots numbers more : List ℕ) → IsExtended numbers more → All (λ slot. HasNumbersIn ps slot numbers) slots → All (λ slot. HasNumbersIn ps slot more) slots
all_more ps slots numbers more f has = λ k d lt. numbers_in_more ps (get_or slots k d) numbers more f (has k d lt)

index_by : (ps : List Proxy) (slot k i : ℕ) (numbers more : List ℕ) (t : Bool) (index : ℕ) → IsExtended numbers more → ((index : ℕ) → index < k → HasNumbers ps (slot * 256 + index) numbers) → i ≡ slot * 256 + k → HasNumbers ps i more → index < k + 1 → (index == k) ≡ t → HasNumbers ps (slot * 256 + index) more
index_by ps slot k i numbers more true index f has at now lt e =
    let same : index ≡ k = grind (arith, nat_tests) in
    subst (λ (j : ℕ). HasNumbers ps j more) (at ∙ ap (λ (j : ℕ). slot * 256 + j) (sym same)) now
index_by ps slot k i numbers more false index f has at now lt e =
    let other : index ≡ k → ⊥ = λ q. let yes_same : (index == k) ≡ true = grind (arith, nat_tests) in cc in
    numbers_more ps (slot * 256 + index) numbers more f (has index (omega (arith, other)))

pub index_step : (ps : List Proxy) (slot k i : ℕ) (numbers more : List ℕ) → IsExtended numbers more → ((index : ℕ) → index < k → HasNumbers ps (slot * 256 + index) numbers) → i ≡ slot * 256 + k → HasNumbers ps i more → (index : ℕ) → index < k + 1 → HasNumbers ps (slot * 256 + index) more
index_step ps slot k i numbers more f has at now = λ index lt. index_by ps slot k i numbers more (index == k) index f has at now lt refl

-- ---- sorted, and each once

pub sorted_extends : (numbers sorted kept : List ℕ) → IsPermutation numbers sorted → kept ≡ dedup eqb sorted → IsExtended numbers kept
sorted_extends numbers sorted kept moved is = λ n h. rw is (Contains-dedup_nat sorted n (Contains-permutation numbers sorted n moved h))

pub sorted_rises : (sorted kept : List ℕ) → IsSorted nat_cmp sorted → kept ≡ dedup eqb sorted → IsStrictlyIncreasing kept
sorted_rises sorted kept line is = rw is (IsStrictlyIncreasing-dedup sorted line)

-- ---- contacts are picked

option_step : (o : Option ContactEntry) (es rest : List ContactEntry) → (es ++ option_to_list o) ++ rest ≡ es ++ cons_option o rest
option_step None [] rest = refl
option_step (Some e) [] rest = refl
option_step None (f ∷ es) rest = ap (λ (l : List ContactEntry). f ∷ l) (option_step None es rest)
option_step (Some e) (f ∷ es) rest = ap (λ (l : List ContactEntry). f ∷ l) (option_step (Some e) es rest)

pub picked_step : (pick : ℕ → Option ContactEntry) (ns : List ℕ) (k n d : ℕ) (o : Option ContactEntry) (es more whole : List ContactEntry) → k < length ns → n ≡ get_or ns k d → o ≡ pick n → more ≡ es ++ option_to_list o → (es ++ filter_map pick (drop k ns)) ≡ whole → (more ++ filter_map pick (drop (k + 1) ns)) ≡ whole
picked_step pick ns k n d o es more whole lt is picks added so =
    let head : drop k ns ≡ n ∷ drop (suc k) ns = drop_next ns k d lt ∙ ap (λ (x : ℕ). x ∷ drop (suc k) ns) (sym is) in
    rw add-one (ap (λ (l : List ContactEntry). l ++ filter_map pick (drop (suc k) ns)) added ∙ option_step o es (filter_map pick (drop (suc k) ns)) ∙ ap (λ (x : Option ContactEntry). es ++ cons_option x (filter_map pick (drop (suc k) ns))) picks ∙ ap (λ (l : List ℕ). es ++ filter_map pick l) (sym head) ∙ so)

nothing_left : (ns : List ℕ) (k : ℕ) → length ns ≤ k → drop k ns ≡ []
nothing_left [] zero h = refl
nothing_left [] (suc k) h = refl
nothing_left (n ∷ ns) zero h = absurd (omega arith)
nothing_left (n ∷ ns) (suc k) h = nothing_left ns k (omega arith)

nothing_more : (es : List ContactEntry) → es ≡ es ++ []
nothing_more [] = refl
nothing_more (e ∷ es) = ap (λ (l : List ContactEntry). e ∷ l) (nothing_more es)

pub all_picked : (pick : ℕ → Option ContactEntry) (ns : List ℕ) (k : ℕ) (es : List ContactEntry) → length ns ≤ k → (es ++ filter_map pick (drop k ns)) ≡ filter_map pick ns → es ≡ filter_map pick ns
all_picked pick ns k es h so = nothing_more es ∙ ap (λ (l : List ℕ). es ++ filter_map pick l) (sym (nothing_left ns k h)) ∙ so

in_rest : (o : Option ContactEntry) (e : ContactEntry) (es : List ContactEntry) → IsIn e es → IsIn e (cons_option o es)
in_rest None e es i = i
in_rest (Some f) e es i = inr i

in_picked : (pick : ℕ → Option ContactEntry) (n : ℕ) (e : ContactEntry) (ns : List ℕ) → IsIn n ns → pick n ≡ Some e → IsIn e (filter_map pick ns)
in_picked pick n e [] i h = absurd i
in_picked pick n e (m ∷ ns) i h =
    elim i [
      | inl q ↦ let first : pick m ≡ Some e = ap pick (sym q) ∙ h in rw first (inl refl)
      | inr r ↦ in_rest (pick m) e (filter_map pick ns) (in_picked pick n e ns r h)
    ]

pub record IsPicked (pick : ℕ → Option ContactEntry) (e : ContactEntry) (ns : List ℕ) : Type 0 where
  pub from : ℕ
  pub among : IsIn from ns
  pub is : pick from ≡ Some e

picked_by : (pick : ℕ → Option ContactEntry) (e : ContactEntry) (n : ℕ) (ns : List ℕ) (o : Option ContactEntry) → pick n ≡ o → IsIn e (cons_option o (filter_map pick ns)) → (IsIn e (filter_map pick ns) → IsPicked pick e ns) → IsPicked pick e (n ∷ ns)
picked_by pick e n ns None q i f = let r : IsPicked pick e ns = f i in record { from = r.from; among = inr r.among; is = r.is }
picked_by pick e n ns (Some g) q i f =
    elim i [
      | inl same ↦ record { from = n; among = inl refl; is = q ∙ ap Some (sym same) }
      | inr l ↦ let r : IsPicked pick e ns = f l in record { from = r.from; among = inr r.among; is = r.is }
    ]

picked_in : (pick : ℕ → Option ContactEntry) (e : ContactEntry) (ns : List ℕ) → IsIn e (filter_map pick ns) → IsPicked pick e ns
picked_in pick e [] i = absurd i
picked_in pick e (n ∷ ns) i = picked_by pick e n ns (pick n) refl i (picked_in pick e ns)

-- what the test picks by a number has that number
abbrev PicksByNumber : (ℕ → Option ContactEntry) → Type 0
PicksByNumber pick = (n : ℕ) (e : ContactEntry) → pick n ≡ Some e → entry_number e ≡ n

above_option : (b : ℕ) (o : Option ContactEntry) (es : List ContactEntry) → ((e : ContactEntry) → o ≡ Some e → b < entry_number e) → Each (λ n. b < n) (map entry_number es) → Each (λ n. b < n) (map entry_number (cons_option o es))
above_option b None es h a = a
above_option b (Some e) es h a = (h e refl, a)

picked_above : (pick : ℕ → Option ContactEntry) → PicksByNumber pick → (b : ℕ) (ns : List ℕ) → Each (λ n. b < n) ns → Each (λ n. b < n) (map entry_number (filter_map pick ns))
picked_above pick f b [] a = tt
picked_above pick f b (n ∷ ns) a = above_option b (pick n) (filter_map pick ns) (λ e h. let same : entry_number e ≡ n = f n e h in let low : b < n = a.0 in omega arith) (picked_above pick f b ns a.1)

rises_option : (o : Option ContactEntry) (es : List ContactEntry) → ((e : ContactEntry) → o ≡ Some e → Each (λ n. entry_number e < n) (map entry_number es)) → IsRising (map entry_number es) → IsRising (map entry_number (cons_option o es))
rises_option None es h r = r
rises_option (Some e) es h r = (h e refl, r)

picked_rises : (pick : ℕ → Option ContactEntry) → PicksByNumber pick → (ns : List ℕ) → IsRising ns → IsRising (map entry_number (filter_map pick ns))
picked_rises pick f [] r = tt
picked_rises pick f (n ∷ ns) r = rises_option (pick n) (filter_map pick ns) (λ e h. let same : entry_number e ≡ n = f n e h in rw same (picked_above pick f n ns r.0)) (picked_rises pick f ns r.1)

-- ---- the fresh pairs

-- the contact is that of two shapes of the list that are fresh
pub record IsFreshOf (moved : ℕ → Bool) (pairs : List BodyPair) (ps : List Proxy) (old : List ContactEntry) (n : ℕ) (e : ContactEntry) : Type 0 where
  pub p : Proxy
  pub q : Proxy
  pub first : found ps (n / 2 ^ 40) ≡ Some p
  pub second : found ps (n % 2 ^ 40) ≡ Some q
  pub before : number_of p < number_of q
  pub touch : may_touch pairs p q ≡ true
  pub moves : either_moved moved (key_of p q) ≡ true
  pub none : has_key old (key_of p q) ≡ false
  pub is : e ≡ entry_with None p q

four_tests : (s t u v : Bool) (x y : ContactEntry) → cond s (cond t (cond u (cond v None (Some x)) None) None) None ≡ Some y → (((s ≡ true) × (t ≡ true)) × ((u ≡ true) × (v ≡ false))) × (y ≡ x)
four_tests true true true true x y h = cc
four_tests true true true false x y h = (((refl, refl), (refl, refl)), cc)
four_tests true true false v x y h = cc
four_tests true false u v x y h = cc
four_tests false t u v x y h = cc

fresh_from : (moved : ℕ → Bool) (pairs : List BodyPair) (ps : List Proxy) (old : List ContactEntry) (n : ℕ) (e : ContactEntry) (o r : Option Proxy) → found ps (n / 2 ^ 40) ≡ o → found ps (n % 2 ^ 40) ≡ r → fresh_of_both moved pairs old o r ≡ Some e → IsFreshOf moved pairs ps old n e
fresh_from moved pairs ps old n e None r a b h = cc
fresh_from moved pairs ps old n e (Some p) None a b h = cc
fresh_from moved pairs ps old n e (Some p) (Some q) a b h =
    let all = four_tests (nat_lt (number_of p) (number_of q)) (may_touch pairs p q) (either_moved moved (key_of p q)) (has_key old (key_of p q)) (entry_with None p q) e h in
    record { p = p; q = q; first = a; second = b; before = ltb-true _ _ all.0.0.0; touch = all.0.0.1; moves = all.0.1.0; none = all.0.1.1; is = all.1 }

small_only : (t : Bool) (o : Option ContactEntry) (e : ContactEntry) → cond t o None ≡ Some e → o ≡ Some e
small_only true o e h = h
small_only false o e h = cc

fresh_is : (moved : ℕ → Bool) (pairs : List BodyPair) (ps : List Proxy) (old : List ContactEntry) (n : ℕ) (e : ContactEntry) → fresh_by moved pairs ps old n ≡ Some e → IsFreshOf moved pairs ps old n e
fresh_is moved pairs ps old n e h = fresh_from moved pairs ps old n e (found ps (n / 2 ^ 40)) (found ps (n % 2 ^ 40)) refl refl (small_only (nat_lt n (2 ^ 80)) _ e h)

key_of_with : (o : Option ContactEntry) (p q : Proxy) → (entry_with o p q).key ≡ key_of p q
unfolding entry_with
key_of_with o p q = refl

number_from : (n a b : ℕ) → a ≡ n / 2 ^ 40 → b ≡ n % 2 ^ 40 → a * 2 ^ 40 + b ≡ n
number_from n a b x y = omega arith

fresh_number : (moved : ℕ → Bool) (pairs : List BodyPair) (ps : List Proxy) (old : List ContactEntry) → PicksByNumber (fresh_by moved pairs ps old)
fresh_number moved pairs ps old n e h =
    let f : IsFreshOf moved pairs ps old n e = fresh_is moved pairs ps old n e h in
    let a : IsPlace ps (n / 2 ^ 40) f.p = place_of ps (n / 2 ^ 40) f.p f.first in
    let b : IsPlace ps (n % 2 ^ 40) f.q = place_of ps (n % 2 ^ 40) f.q f.second in
    ap (λ (x : ContactEntry). key_number x.key) f.is ∙ ap key_number (key_of_with None f.p f.q) ∙ number_from n (number_of f.p) (number_of f.q) a.number b.number

one_shape : (p q : Proxy) → Some p ≡ Some q → p ≡ q
one_shape p q h = cc

-- a place whose shape has a number is where that shape stands
shape_is : (ps : List Proxy) (i n : ℕ) (p : Proxy) → IsProxyList ps → i < length ps → number_of (proxy_at ps i) ≡ n → found ps n ≡ Some p → proxy_at ps i ≡ p
shape_is ps i n p list lt same f =
    one_shape (proxy_at ps i) p (sym (found_at ps i (rising_from_increasing _ list.rising) lt) ∙ ap (found ps) same ∙ f)

none_if : (o : Option ContactEntry) → is_some o ≡ false → o ≡ None
none_if None h = refl
none_if (Some e) h = cc

entry_fresh : (old : List ContactEntry) (p q : Proxy) → has_key old (key_of p q) ≡ false → entry_of old p q ≡ entry_with None p q
unfolding entry_of
entry_fresh old p q h = ap (λ (o : Option ContactEntry). entry_with o p q) (none_if (lookup old (key_of p q)) h)

fresh_so : (m h : Bool) → m ≡ true → h ≡ false → cond m (not h) false ≡ true
fresh_so m h a b = rw (a, b) refl

proxy_small : (p : Proxy) → IsProxy p → number_of p < 2 ^ 40
proxy_small p h = omega (arith, h.slot, h.index)

pair_of : (p q : Proxy) → IsProxy p → IsProxy q → number_of p < number_of q → IsPairKey (key_of p q)
pair_of p q a b lt = record { before = lt; small = proxy_small q b; first_index = omega (arith, a.index); second_index = omega (arith, b.index) }

-- what is picked is the contact of a fresh pair
picked_is_fresh : (moved : ℕ → Bool) (pairs : List BodyPair) (ps : List Proxy) (old : List ContactEntry) (n : ℕ) (e : ContactEntry) → IsProxyList ps → IsFreshOf moved pairs ps old n e → IsIn e (contacts_of old ps (fresh moved pairs ps old))
picked_is_fresh moved pairs ps old n e list f =
    let a : IsPlace ps (n / 2 ^ 40) f.p = place_of ps (n / 2 ^ 40) f.p f.first in
    let b : IsPlace ps (n % 2 ^ 40) f.q = place_of ps (n % 2 ^ 40) f.q f.second in
    let first : IsProxy f.p = subst IsProxy a.is (list.each a.i _ a.within) in
    let second : IsProxy f.q = subst IsProxy b.is (list.each b.i _ b.within) in
    let key : IsPairKey (key_of f.p f.q) = pair_of f.p f.q first second f.before in
    let there : found ps (number_of f.p) ≡ Some f.p = ap (found ps) a.number ∙ f.first in
    let other : found ps (number_of f.q) ≡ Some f.q = ap (found ps) b.number ∙ f.second in
    let near : near_key pairs ps (key_of f.p f.q) ≡ true = rw (there, other) f.touch in
    let c : IsCodeOf pairs ps (key_of f.p f.q) = near_code pairs ps (key_of f.p f.q) list key near in
    let at : IsAllowedFrom pairs ps c.code = in_codes pairs ps c.code list c.among in
    let within : first_place c.code < length ps = let x : first_place c.code ≡ at.i = at.first in omega (arith, at.before, at.within) in
    let beyond : second_place c.code < length ps = let x : second_place c.code ≡ at.j = at.second in omega (arith, at.within) in
    let p_is : proxy_at ps (first_place c.code) ≡ f.p = shape_is ps (first_place c.code) (number_of f.p) f.p list within c.first there in
    let q_is : proxy_at ps (second_place c.code) ≡ f.q = shape_is ps (second_place c.code) (number_of f.q) f.q list beyond c.second other in
    let entry : entry_at old ps c.code ≡ e = ap (λ (x : Proxy). entry_of old x (proxy_at ps (second_place c.code))) p_is ∙ ap (λ (x : Proxy). entry_of old f.p x) q_is ∙ entry_fresh old f.p f.q f.none ∙ sym f.is in
    let same_key : pair_key ps c.code ≡ key_of f.p f.q = ap (λ (x : Proxy). key_of x (proxy_at ps (second_place c.code))) p_is ∙ ap (λ (x : Proxy). key_of f.p x) q_is in
    let is_new : is_fresh moved ps old c.code ≡ true = fresh_so _ _ (ap (either_moved moved) same_key ∙ f.moves) (ap (has_key old) same_key ∙ f.none) in
    subst (λ (x : ContactEntry). IsIn x (contacts_of old ps (fresh moved pairs ps old))) entry (in_map (entry_at old ps) c.code (fresh moved pairs ps old) (in_filter (is_fresh moved ps old) c.code (allowed_codes pairs ps) c.among is_new))

-- the list has the numbers of all fresh pairs
abbrev pub HasAllFresh : (ℕ → Bool) → List BodyPair → List Proxy → List ℕ → Type 0
HasAllFresh moved pairs ps numbers = (i j : ℕ) → i < j → j < length ps → may_touch pairs (proxy_at ps i) (proxy_at ps j) ≡ true → either_moved moved (key_of (proxy_at ps i) (proxy_at ps j)) ≡ true → IsIn (key_number (key_of (proxy_at ps i) (proxy_at ps j))) numbers

picks_it : (moved : ℕ → Bool) (pairs : List BodyPair) (ps : List Proxy) (old : List ContactEntry) (p q : Proxy) (n : ℕ) → n < 2 ^ 80 → found ps (n / 2 ^ 40) ≡ Some p → found ps (n % 2 ^ 40) ≡ Some q → number_of p < number_of q → may_touch pairs p q ≡ true → either_moved moved (key_of p q) ≡ true → has_key old (key_of p q) ≡ false → fresh_by moved pairs ps old n ≡ Some (entry_with None p q)
picks_it moved pairs ps old p q n small a b lt touch moves none =
    let low : nat_lt n (2 ^ 80) ≡ true = grind (arith, nat_tests) in
    let less : nat_lt (number_of p) (number_of q) ≡ true = grind (arith, nat_tests) in
    rw (low, a, b, less, touch, moves, none) refl

fresh_tests : (m h : Bool) → cond m (not h) false ≡ true → (m ≡ true) × (h ≡ false)
fresh_tests true true h = cc
fresh_tests true false h = (refl, refl)
fresh_tests false t h = cc

number_parts : (a b n : ℕ) → a < 2 ^ 40 → b < 2 ^ 40 → n ≡ a * 2 ^ 40 + b → ((n / 2 ^ 40 ≡ a) × (n % 2 ^ 40 ≡ b)) × (n < 2 ^ 80)
number_parts a b n x y e = ((omega arith, omega arith), omega arith)

-- the contact of a fresh pair is picked
fresh_is_picked : (moved : ℕ → Bool) (pairs : List BodyPair) (ps : List Proxy) (old : List ContactEntry) (numbers : List ℕ) (e : ContactEntry) → IsProxyList ps → HasAllFresh moved pairs ps numbers → IsIn e (contacts_of old ps (fresh moved pairs ps old)) → IsIn e (filter_map (fresh_by moved pairs ps old) numbers)
fresh_is_picked moved pairs ps old numbers e list has h =
    let m : IsImage (entry_at old ps) e (fresh moved pairs ps old) = map_in (entry_at old ps) e (fresh moved pairs ps old) h in
    let f : IsIn m.from (allowed_codes pairs ps) × (is_fresh moved ps old m.from ≡ true) = filter_in (is_fresh moved ps old) m.from (allowed_codes pairs ps) m.among in
    let at : IsAllowedFrom pairs ps m.from = in_codes pairs ps m.from list f.0 in
    let tests = fresh_tests (either_moved moved (pair_key ps m.from)) (has_key old (pair_key ps m.from)) f.1 in
    let key : pair_key ps m.from ≡ key_of (proxy_at ps at.i) (proxy_at ps at.j) = ap (λ (x : ℕ). key_of (proxy_at ps x) (proxy_at ps (second_place m.from))) at.first ∙ ap (λ (x : ℕ). key_of (proxy_at ps at.i) (proxy_at ps x)) at.second in
    let entry : entry_at old ps m.from ≡ entry_of old (proxy_at ps at.i) (proxy_at ps at.j) = ap (λ (x : ℕ). entry_of old (proxy_at ps x) (proxy_at ps (second_place m.from))) at.first ∙ ap (λ (x : ℕ). entry_of old (proxy_at ps at.i) (proxy_at ps x)) at.second in
    let moves : either_moved moved (key_of (proxy_at ps at.i) (proxy_at ps at.j)) ≡ true = ap (either_moved moved) (sym key) ∙ tests.0 in
    let none : has_key old (key_of (proxy_at ps at.i) (proxy_at ps at.j)) ≡ false = ap (has_key old) (sym key) ∙ tests.1 in
    let p_is : IsProxy (proxy_at ps at.i) = list.each at.i _ (omega (arith, at.before, at.within)) in
    let q_is : IsProxy (proxy_at ps at.j) = list.each at.j _ at.within in
    let parts = number_parts (number_of (proxy_at ps at.i)) (number_of (proxy_at ps at.j)) (key_number (key_of (proxy_at ps at.i) (proxy_at ps at.j))) (proxy_small _ p_is) (proxy_small _ q_is) refl in
    let rising : IsRising (map number_of ps) = rising_from_increasing (map number_of ps) list.rising in
    let picks : fresh_by moved pairs ps old (key_number (key_of (proxy_at ps at.i) (proxy_at ps at.j))) ≡ Some (entry_with None (proxy_at ps at.i) (proxy_at ps at.j)) =
    picks_it moved pairs ps old (proxy_at ps at.i) (proxy_at ps at.j) (key_number (key_of (proxy_at ps at.i) (proxy_at ps at.j))) parts.1 (ap (found ps) parts.0.0 ∙ found_at ps at.i rising (omega (arith, at.before, at.within))) (ap (found ps) parts.0.1 ∙ found_at ps at.j rising at.within) (numbers_later ps list.rising at.i at.j _ at.before at.within) at.touch moves none in
    let same : e ≡ entry_with None (proxy_at ps at.i) (proxy_at ps at.j) = m.is ∙ entry ∙ entry_fresh old (proxy_at ps at.i) (proxy_at ps at.j) none in
    rw same (in_picked (fresh_by moved pairs ps old) _ _ numbers (has at.i at.j at.before at.within at.touch moves) picks)

pub picked_are_fresh : (moved : ℕ → Bool) (pairs : List BodyPair) (ps : List Proxy) (old : List ContactEntry) (numbers : List ℕ) → IsProxyList ps → IsStrictlyIncreasing numbers → HasAllFresh moved pairs ps numbers → filter_map (fresh_by moved pairs ps old) numbers ≡ contacts_of old ps (fresh moved pairs ps old)
picked_are_fresh moved pairs ps old numbers list rising has =
    same_members entry_number (filter_map (fresh_by moved pairs ps old) numbers) (contacts_of old ps (fresh moved pairs ps old)) (picked_rises (fresh_by moved pairs ps old) (fresh_number moved pairs ps old) numbers (rising_from_increasing numbers rising)) (new_rise moved pairs ps old list)
    (λ e i. let r : IsPicked (fresh_by moved pairs ps old) e numbers = picked_in (fresh_by moved pairs ps old) e numbers i in picked_is_fresh moved pairs ps old r.from e list (fresh_is moved pairs ps old r.from e r.is)) (λ e i. fresh_is_picked moved pairs ps old numbers e list has i)

-- ---- the marked slots have all fresh pairs

either_is : (s t : Bool) → cond s true t ≡ true → (s ≡ true) ⊎ (t ≡ true)
either_is true t h = inl refl
either_is false t h = inr h

touching_near : (s t : Bool) → cond s t false ≡ true → s ≡ true
touching_near true t h = refl
touching_near false t h = cc

-- the slot of a shape that has moved is listed
moved_listed : (marks : List Bool) (marked : List ℕ) (ps : List Proxy) (i : ℕ) → IsProxyList ps → AreWithin marks ps → AreListed marks marked → i < length ps → moved_by marks (number_of (proxy_at ps i)) ≡ true → Contains marked (proxy_at ps i).id.slot
moved_listed marks marked ps i list within listed lt moves =
    let proxy : IsProxy (proxy_at ps i) = list.each i _ lt in
    let at : number_of (proxy_at ps i) / 256 ≡ (proxy_at ps i).id.slot = omega (arith, proxy.index) in
    let inside : number_of (proxy_at ps i) / 256 < length marks = within (number_of (proxy_at ps i)) (ap is_some (found_at ps i (rising_from_increasing _ list.rising) lt)) in
    subst (λ (n : ℕ). Contains marked n) at (listed.all (number_of (proxy_at ps i) / 256) inside moves)

all_at : (P : ℕ → Type 0) (xs : List ℕ) (x : ℕ) → All P xs → Contains xs x → P x
all_at P xs x all has = subst P has.2 (all has.0 _ has.1)

asked_for : (ps : List Proxy) (marked numbers : List ℕ) (i m n : ℕ) → IsProxyList ps → All (λ slot. HasNumbersIn ps slot numbers) marked → i < length ps → Contains marked (proxy_at ps i).id.slot → number_of_both (found ps (number_of (proxy_at ps i))) (found ps m) ≡ Some n → IsIn n numbers
asked_for ps marked numbers i m n list all lt has h =
    let proxy : IsProxy (proxy_at ps i) = list.each i _ lt in
    let there : HasNumbersIn ps (proxy_at ps i).id.slot numbers = all_at (λ slot. HasNumbersIn ps slot numbers) marked (proxy_at ps i).id.slot all has in
    in_from_contains numbers n (there (proxy_at ps i).id.index proxy.index m n h)

lesser_first : (p q : Proxy) → number_of p < number_of q → is_near p q ≡ true → near_number p q ≡ Some (key_number (key_of p q))
lesser_first p q lt near = let less : nat_lt (number_of p) (number_of q) ≡ true = grind (arith, nat_tests) in rw (less, near) refl

greater_first : (p q : Proxy) → number_of p < number_of q → is_near p q ≡ true → near_number q p ≡ Some (key_number (key_of p q))
greater_first p q lt near = let more : nat_lt (number_of q) (number_of p) ≡ false = grind (arith, nat_tests) in rw (more, near) refl

pub marked_have_all : (marks : List Bool) (marked : List ℕ) (pairs : List BodyPair) (ps : List Proxy) (numbers : List ℕ) → IsProxyList ps → AreWithin marks ps → AreListed marks marked → All (λ slot. HasNumbersIn ps slot numbers) marked → HasAllFresh (moved_by marks) pairs ps numbers
marked_have_all marks marked pairs ps numbers list within listed all = λ i j b w touch moves.
    let rising : IsRising (map number_of ps) = rising_from_increasing (map number_of ps) list.rising in
    let first : found ps (number_of (proxy_at ps i)) ≡ Some (proxy_at ps i) = found_at ps i rising (omega arith) in
    let second : found ps (number_of (proxy_at ps j)) ≡ Some (proxy_at ps j) = found_at ps j rising w in
    let lt : number_of (proxy_at ps i) < number_of (proxy_at ps j) = numbers_later ps list.rising i j _ b w in
    let near : is_near (proxy_at ps i) (proxy_at ps j) ≡ true = touching_near (is_near (proxy_at ps i) (proxy_at ps j)) _ touch in
    elim (either_is _ _ moves) [
      | inl s ↦ asked_for ps marked numbers i (number_of (proxy_at ps j)) _ list all (omega arith) (moved_listed marks marked ps i list within listed (omega arith) s) (rw (first, second) (lesser_first (proxy_at ps i) (proxy_at ps j) lt near))
      | inr t ↦ asked_for ps marked numbers j (number_of (proxy_at ps i)) _ list all w (moved_listed marks marked ps j list within listed w t) (rw (first, second) (greater_first (proxy_at ps i) (proxy_at ps j) lt near))
    ]
