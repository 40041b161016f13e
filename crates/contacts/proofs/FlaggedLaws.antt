-- The flagged slots are listed, and the places of the contacts of their bodies, found one body at a time, are those
-- that a pass over all finds.
use Rattle.std.proofs.Common.{Result, Ok, Err, ◌≡◌, ℕ, zero, suc, ◌+◌, ◌-◌, ◌<◌, ◌≤◌, ◌==◌, ◌||◌, ◌&&◌, ◌↔◌, List, [], ◌∷◌, ◌++◌, length, take, replicate, slice_set, Bool, true, false, true≢false, cond, Option, Some, None, ◌⊎◌, inl, inr, refl, sym, ap, ◌∙◌, subst, arith, eqb}
use Rattle.std.specs.List.{Contains, dedup}
use Rattle.std.specs.Prelude.{OnOk, option_map, slice_get}
use Rattle.std.specs.List.Sorted.{IsPermutation, IsSorted, IsStrictlyIncreasing}
use Rattle.std.proofs.lemmas.Option.{none-some, same_Some}
use Rattle.std.specs.Ordering.{nat_cmp}
use Rattle.std.proofs.lemmas.List.{length-replicate, length-set}
use Rattle.std.proofs.lemmas.List.Elements.{All-contains}
use Rattle.std.proofs.lemmas.List.Kept.{Contains-dedup_nat, Contains-from_dedup}
use Rattle.std.proofs.lemmas.List.Sorted.{Contains-permutation, IsPermutation-sym}
use Rattle.std.proofs.lemmas.Map.Keys.{IsStrictlyIncreasing-dedup}
use Rattle.contacts_base.specs.declared.contact.ContactEntry.{ContactEntry}
use Rattle.contacts_base.specs.Split.{Split, contacts_in, counting, counting_at, is_over, places_from, unless_over}
use Rattle.contacts_base.specs.declared.key.ContactKey.{ContactKey}
use Rattle.contacts_base.specs.declared.key.ShapeId.{ShapeId}
use Rattle.contacts_base.specs.Contacts.{number_of}
use Rattle.contacts_base.specs.ContactLists.{keys_of}
use Rattle.contacts.specs.declared.ends.Side.{Side}
use Rattle.contacts.specs.declared.ends.Side.TheVariants.{First, Second}
use Rattle.contacts.specs.declared.number_book.NumberBook.{NumberBook}
use Rattle.contacts.specs.declared.number_book.NumberedContact.{NumberedContact}
use Rattle.contacts.specs.Ends.{ends_on, slot_on}
use Rattle.contacts.specs.NumberBooks.{IsBook}
use Rattle.contacts.specs.Numbered.{AreNumbered, contact_at, key_of, number_key_at, numbered_of, slot_at}
use Rattle.contacts.specs.Stirring.{AreFlagsListed, AreStirring, is_flagged, one_flagged, stirring_places}
use Rattle.contacts.specs.StirringPlaces.{IsPlaceOf, IsPlaceOfOne}
use Rattle.contacts.proofs.EndLaws.{list_within}
use Rattle.contacts.proofs.PlaceLaws.{IsEntryAt, entry_with_key, key_there}
use Rattle.packed_sets.specs.Packs.{list_at}
use Rattle.packed_sets.proofs.ItemLaws.{equal_same, equal_sizes}
use Rattle.contacts_base.proofs.Members.{Each, IsIn, contains_from_in, in_from_contains, in_new, in_passed}
use Rattle.contacts.proofs.MergedMembers.{merged_has}
use Rattle.contacts.proofs.PartLemmas.{id_by, key_by}
use Rattle.contacts_base.proofs.Rising.{IsRising, rising_from_increasing, rising_passed, same_rising}
use Rattle.packed_sets.proofs.MarkLaws.{marks_cleared, marks_put}

-- ---- flags are set and taken away

pub flag_more : (flags : List Bool) (slots others : List ℕ) (slot : ℕ) → AreFlagsListed flags slots → is_flagged flags slot ≡ false → others ≡ slots ++ slot ∷ [] → AreFlagsListed (slice_set flags slot true) others
flag_more flags slots others slot listed off is =
    let long : length (slice_set flags slot true) ≡ length flags = length-set flags slot true in
    marks_put flags slots others (length flags) (length (slice_set flags slot true)) slot listed off is (omega (arith, long))

-- none of so many is set
pub none_flagged : (n : ℕ) (flags : List Bool) (slots : List ℕ) → flags ≡ replicate n false → slots ≡ [] → AreFlagsListed flags slots
none_flagged n flags slots is none =
    let long : length flags ≡ n = ap (λ (l : List Bool). length l) is ∙ length-replicate n false in
    marks_cleared n flags slots (length flags) is none (omega (arith, long))

flags_resized : (n m k : ℕ) → k ≡ n - m → (take n (replicate m false) ++ replicate k false) ≡ replicate n false
flags_resized zero m k is = let none : k ≡ 0 = omega arith in ap (λ (i : ℕ). replicate i false) none
flags_resized (suc n) zero k is = let all : k ≡ suc n = omega arith in ap (λ (i : ℕ). replicate i false) all
flags_resized (suc n) (suc m) k is = ap (λ (l : List Bool). false ∷ l) (flags_resized n m k (omega arith))

-- cut, or with more that aren't set
pub none_resized : (n m len : ℕ) (flags more : List Bool) → len ≡ length flags → flags ≡ replicate m false → more ≡ take n flags ++ replicate (n - len) false → more ≡ replicate n false
none_resized n m len flags more so is resized =
    let long : length flags ≡ m = ap (λ (l : List Bool). length l) is ∙ length-replicate m false in
    resized ∙ ap (λ (l : List Bool). take n l ++ replicate (n - len) false) is ∙ flags_resized n m (n - len) (omega (arith, so, long))

-- ---- places ascend

each_passed : (P : ℕ → Type 0) (x : ℕ) (t : Bool) (xs : List ℕ) → P x → Each P xs → Each P (cond t (x ∷ xs) xs)
each_passed P x true xs p a = (p, a)
each_passed P x false xs p a = a

places_above : (test : ContactEntry → Bool) (m n : ℕ) (es : List ContactEntry) → m < n → Each (λ p. m < p) (places_from test n es)
places_above test m n [] lt = tt
places_above test m n (e ∷ es) lt = each_passed (λ p. m < p) n (test e) (places_from test (suc n) es) lt (places_above test m (suc n) es (omega arith))

pub places_rise : (test : ContactEntry → Bool) (n : ℕ) (es : List ContactEntry) → IsRising (places_from test n es)
places_rise test n [] = tt
places_rise test n (e ∷ es) = rising_passed n (test e) (places_from test (suc n) es) (places_above test n (suc n) es (omega arith)) (places_rise test (suc n) es)

-- ---- which contact is at a place

-- the contact at a place that was found
record IsAt (test : ContactEntry → Bool) (n : ℕ) (es : List ContactEntry) (p : ℕ) : Type 0 where
  place : ℕ
  entry : ContactEntry
  is : p ≡ n + place
  there : slice_get es place ≡ Some entry
  passes : test entry ≡ true

at_later : (test : ContactEntry → Bool) (n : ℕ) (x : ContactEntry) (es : List ContactEntry) (p : ℕ) → IsAt test (suc n) es p → IsAt test n (x ∷ es) p
at_later test n x es p a = record { place = suc a.place; entry = a.entry; is = let e : p ≡ suc n + a.place = a.is in omega (arith, e); there = a.there; passes = a.passes }

at_by : (test : ContactEntry → Bool) (n : ℕ) (t : Bool) (x : ContactEntry) (es : List ContactEntry) (p : ℕ) → test x ≡ t → IsIn p (cond t (n ∷ places_from test (suc n) es) (places_from test (suc n) es)) → (IsIn p (places_from test (suc n) es) → IsAt test (suc n) es p) → IsAt test n (x ∷ es) p
at_by test n true x es p is h later =
    elim h [
      | inl same ↦ record { place = zero; entry = x; is = omega (arith, same); there = refl; passes = is }
      | inr i ↦ at_later test n x es p (later i)
    ]
at_by test n false x es p is h later = at_later test n x es p (later h)

entry_at : (test : ContactEntry → Bool) (n : ℕ) (es : List ContactEntry) (p : ℕ) → IsIn p (places_from test n es) → IsAt test n es p
entry_at test n [] p h = absurd h
entry_at test n (e ∷ es) p h = at_by test n (test e) e es p refl h (λ i. entry_at test (suc n) es p i)

-- and one at a place that a test lets in is found
place_found : (test : ContactEntry → Bool) (n place p : ℕ) (es : List ContactEntry) (e : ContactEntry) → p ≡ n + place → slice_get es place ≡ Some e → test e ≡ true → IsIn p (places_from test n es)
place_found test n place p [] e is at passes = absurd (none-some e at)
place_found test n zero p (x ∷ es) e is at passes = in_new p n (test x) (places_from test (suc n) es) (ap test (same_Some x e at) ∙ passes) (omega (arith, is))
place_found test n (suc place) p (x ∷ es) e is at passes = in_passed p n (test x) (places_from test (suc n) es) (place_found test (suc n) place p es e (omega (arith, is)) at passes)

-- ---- a contact is of a flagged body just where one of its two slots is flagged

one_of : (s t : Bool) → (s || t) ≡ true → (s ≡ true) ⊎ (t ≡ true)
one_of true t h = inl refl
one_of false t h = inr h

by_first : (s t : Bool) → s ≡ true → (s || t) ≡ true
by_first s t h = rw h refl

by_second : (s t : Bool) → t ≡ true → (s || t) ≡ true
by_second true t h = refl
by_second false t h = h

both_true : (s t : Bool) → s ≡ true → t ≡ true → (s && t) ≡ true
both_true s t a b = rw (a, b) refl

true_parts : (s t : Bool) → (s && t) ≡ true → (s ≡ true) × (t ≡ true)
true_parts true t h = (refl, h)
true_parts false t h = absurd (true≢false (sym h))

one_passes : (side : Side) (flags : List Bool) (e : ContactEntry) → is_flagged flags (slot_on side e.key) ≡ true → one_flagged flags e ≡ true
one_passes First flags e h = by_first (is_flagged flags e.key.first.slot) (is_flagged flags e.key.second.slot) h
one_passes Second flags e h = by_second (is_flagged flags e.key.first.slot) (is_flagged flags e.key.second.slot) h

-- ---- as the code has them

-- what sorting and taking each once does to a list of numbers
pub record IsSortedOnce (gathered sorted places : List ℕ) : Type 0 where
  pub moved : IsPermutation gathered sorted
  pub line : IsSorted nat_cmp sorted
  pub once : places ≡ dedup eqb sorted

once_from : (gathered sorted places : List ℕ) (p : ℕ) → IsSortedOnce gathered sorted places → IsIn p places → IsIn p gathered
once_from gathered sorted places p s h =
    let kept : Contains (dedup eqb sorted) p = contains_from_in (dedup eqb sorted) p (subst (λ (l : List ℕ). IsIn p l) s.once h) in
    in_from_contains gathered p (Contains-permutation sorted gathered p (IsPermutation-sym gathered sorted s.moved) (Contains-from_dedup eqb sorted p kept))

once_has : (gathered sorted places : List ℕ) (p : ℕ) → IsSortedOnce gathered sorted places → IsIn p gathered → IsIn p places
once_has gathered sorted places p s h =
    let kept : Contains (dedup eqb sorted) p = Contains-dedup_nat sorted p (Contains-permutation gathered sorted p s.moved (contains_from_in gathered p h)) in
    subst (λ (l : List ℕ). IsIn p l) (sym s.once) (in_from_contains (dedup eqb sorted) p kept)

pub once_up : (gathered sorted places : List ℕ) → IsSortedOnce gathered sorted places → IsStrictlyIncreasing places
once_up gathered sorted places s = rw s.once (IsStrictlyIncreasing-dedup sorted s.line)

pub once_same : {P : Type 0} (gathered sorted places : List ℕ) (p : ℕ) → IsSortedOnce gathered sorted places → (Contains gathered p ↔ P) → (Contains places p ↔ P)
once_same gathered sorted places p s is = (
  λ h. is.0 (contains_from_in gathered p (once_from gathered sorted places p s (in_from_contains places p h))),
  λ x. contains_from_in places p (once_has gathered sorted places p s (in_from_contains gathered p (is.1 x))),
)

-- ---- the keys of the contacts with numbers

abbrev same_id : ShapeId → ShapeId → Bool
same_id i j = (i.slot == j.slot) && (i.index == j.index)

abbrev same_key : ContactKey → ContactKey → Bool
same_key k j = same_id k.first j.first && same_id k.second j.second

ids_are : (i j : ShapeId) → same_id i j ≡ true → i ≡ j
ids_are i j h =
    let both : ((i.slot == j.slot) ≡ true) × ((i.index == j.index) ≡ true) = true_parts (i.slot == j.slot) (i.index == j.index) h in
    id_by i j (equal_sizes i.slot j.slot both.0) (equal_sizes i.index j.index both.1)

keys_are : (k j : ContactKey) → same_key k j ≡ true → k ≡ j
keys_are k j h =
    let both : (same_id k.first j.first ≡ true) × (same_id k.second j.second ≡ true) = true_parts (same_id k.first j.first) (same_id k.second j.second) h in
    key_by k j (ids_are k.first j.first both.0) (ids_are k.second j.second both.1)

id_same : (i : ShapeId) → same_id i i ≡ true
id_same i = both_true (i.slot == i.slot) (i.index == i.index) (equal_same i.slot) (equal_same i.index)

key_same : (k : ContactKey) → same_key k k ≡ true
key_same k = both_true (same_id k.first k.first) (same_id k.second k.second) (id_same k.first) (id_same k.second)

-- a contact with a number has the key
abbrev has_number : List (Option NumberedContact) → ContactKey → Bool
has_number [] key = false
has_number (None ∷ numbered) key = has_number numbered key
has_number (Some c ∷ numbered) key = same_key c.key key || has_number numbered key

has_here : (c : NumberedContact) (numbered : List (Option NumberedContact)) (key : ContactKey) → c.key ≡ key → has_number (Some c ∷ numbered) key ≡ true
has_here c numbered key h = by_first (same_key c.key key) (has_number numbered key) (subst (λ (k : ContactKey). same_key c.key k ≡ true) h (key_same c.key))

has_behind : (o : Option NumberedContact) (numbered : List (Option NumberedContact)) (key : ContactKey) → has_number numbered key ≡ true → has_number (o ∷ numbered) key ≡ true
has_behind None numbered key h = h
has_behind (Some c) numbered key h = by_second (same_key c.key key) (has_number numbered key) h

number_has : (numbered : List (Option NumberedContact)) (number : ℕ) (key : ContactKey) → number_key_at numbered number ≡ Some key → has_number numbered key ≡ true
number_has [] number key h = absurd (none-some key h)
number_has (None ∷ numbered) zero key h = absurd (none-some key h)
number_has (Some c ∷ numbered) zero key h = has_here c numbered key (same_Some c.key key h)
number_has (o ∷ numbered) (suc number) key h = has_behind o numbered key (number_has numbered number key h)

in_has : (numbered : List (Option NumberedContact)) (c : NumberedContact) → IsIn (Some c) numbered → has_number numbered c.key ≡ true
in_has [] c i = absurd i
in_has (o ∷ numbered) c i =
    elim i [
      | inl same ↦ subst (λ (x : Option NumberedContact). has_number (x ∷ numbered) c.key ≡ true) same (has_here c numbered c.key refl)
      | inr later ↦ has_behind o numbered c.key (in_has numbered c later)
    ]

record HasNumber (numbered : List (Option NumberedContact)) (key : ContactKey) : Type 0 where
  number : ℕ
  is : number_key_at numbered number ≡ Some key

number_behind : (o : Option NumberedContact) (numbered : List (Option NumberedContact)) (key : ContactKey) → HasNumber numbered key → HasNumber (o ∷ numbered) key
number_behind o numbered key h = record { number = suc h.number; is = h.is }

has_a_number : (numbered : List (Option NumberedContact)) (key : ContactKey) → has_number numbered key ≡ true → HasNumber numbered key
has_a_number [] key h = absurd (true≢false (sym h))
has_a_number (None ∷ numbered) key h = number_behind None numbered key (has_a_number numbered key h)
has_a_number (Some c ∷ numbered) key h =
    elim (one_of (same_key c.key key) (has_number numbered key) h) [
      | inl same ↦ record { number = zero; is = ap (λ (k : ContactKey). Some k) (keys_are c.key key same) }
      | inr later ↦ number_behind (Some c) numbered key (has_a_number numbered key later)
    ]

-- ---- a contact that counts is one of the contacts

counting_there : (s : Split) (place : ℕ) (e : ContactEntry) → counting_at s place ≡ Some e → (is_over s.over place ≡ false) × (slice_get s.long place ≡ Some e)
counting_there s place e at = by (is_over s.over place) refl at
  where
    by : (t : Bool) → is_over s.over place ≡ t → unless_over t (slice_get s.long place) ≡ Some e → (is_over s.over place ≡ false) × (slice_get s.long place ≡ Some e)
    by true is h = absurd (none-some e h)
    by false is h = (is, h)

counted_first : (o : Bool) (x e : ContactEntry) (es : List ContactEntry) → o ≡ false → e ≡ x → IsIn e (cond o es (x ∷ es))
counted_first true x e es h p = absurd (true≢false h)
counted_first false x e es h p = inl p

counted_behind : (o : Bool) (x e : ContactEntry) (es : List ContactEntry) → IsIn e es → IsIn e (cond o es (x ∷ es))
counted_behind true x e es i = i
counted_behind false x e es i = inr i

counted_in : (over : List Bool) (es : List ContactEntry) (k : ℕ) (e : ContactEntry) → is_over over k ≡ false → slice_get es k ≡ Some e → IsIn e (counting over es)
counted_in over [] k e off at = absurd (none-some e at)
counted_in [] (x ∷ es) zero e off at = inl (sym (same_Some x e at))
counted_in [] (x ∷ es) (suc k) e off at = inr (counted_in [] es k e refl at)
counted_in (o ∷ over) (x ∷ es) zero e off at = counted_first o x e (counting over es) off (sym (same_Some x e at))
counted_in (o ∷ over) (x ∷ es) (suc k) e off at = counted_behind o x e (counting over es) (counted_in over es k e off at)

-- where all bodies have a flag, the places of the contacts of the flagged ones, ascending, are those of which a body
-- may stir
pub gathered_are : (flags : List Bool) (slots places : List ℕ) (s : Split) (b : NumberBook) → AreFlagsListed flags slots → IsBook b → AreNumbered (contacts_in s) b.contacts.items → length b.ends.firsts.sets ≤ length flags → length b.ends.seconds.sets ≤ length flags → IsStrictlyIncreasing places
    → ((place : ℕ) → Contains places place ↔ IsPlaceOfOne s.long b.contacts.items slots place) → AreStirring flags s places
gathered_are flags slots places s b listed book numbered firsts seconds up are = record {
  lets_in = has_number b.contacts.items;
  is = same_rising places (stirring_places flags (has_number b.contacts.items) s.long) (rising_from_increasing places up) (places_rise (λ e. one_flagged flags e && has_number b.contacts.items e.key) 0 s.long) (λ p h. from p ((are p).0 (contains_from_in places p h)))
      (λ p h. in_from_contains places p ((are p).1 (has p (entry_at (λ e. one_flagged flags e && has_number b.contacts.items e.key) 0 s.long p h))));
  counts = λ place e at. counts place e (counting_there s place e at);
}
  where
    within : (side : Side) (slot number : ℕ) → Contains (list_at (ends_on side b.ends).sets slot) number → slot < length flags
    within First slot number h = let lt : slot < length b.ends.firsts.sets = list_within b.ends.firsts.sets slot number h in omega (arith, lt, firsts)
    within Second slot number h = let lt : slot < length b.ends.seconds.sets = list_within b.ends.seconds.sets slot number h in omega (arith, lt, seconds)

    counts : (place : ℕ) (e : ContactEntry) → (is_over s.over place ≡ false) × (slice_get s.long place ≡ Some e) → has_number b.contacts.items e.key ≡ true
    counts place e there =
        let among : IsIn e (contacts_in s) = merged_has number_of e (counting s.over s.long) s.short (inl (counted_in s.over s.long place e there.0 there.1)) in
        in_has b.contacts.items (numbered_of e) (in_from_contains b.contacts.items (Some (numbered_of e)) (numbered.all e (contains_from_in (contacts_in s) e among)))

    from_by : (p : ℕ) (one : IsPlaceOfOne s.long b.contacts.items slots p) (o : Option NumberedContact) → contact_at b.contacts.items one.is.number ≡ o → option_map (slot_on one.side) (key_of o) ≡ Some one.slot → IsPlaceOf s.long o p → IsIn p (stirring_places flags (has_number b.contacts.items) s.long)
    from_by p one None at slot there = absurd there
    from_by p one (Some c) at slot there =
        let e : IsEntryAt s.long p c.key = entry_with_key s.long p c.key there in
        let flagged : is_flagged flags one.slot ≡ true = All-contains (λ slot. is_flagged flags slot ≡ true) slots one.slot listed.listed.only one.listed in
        let on : slot_on one.side c.key ≡ one.slot = same_Some (slot_on one.side c.key) one.slot slot in
        let passes : one_flagged flags e.entry ≡ true = one_passes one.side flags e.entry (ap (λ (k : ContactKey). is_flagged flags (slot_on one.side k)) e.has ∙ ap (is_flagged flags) on ∙ flagged) in
        let known : has_number b.contacts.items e.entry.key ≡ true = ap (has_number b.contacts.items) e.has ∙ number_has b.contacts.items one.is.number c.key (ap key_of at) in
        place_found (λ f. one_flagged flags f && has_number b.contacts.items f.key) 0 p p s.long e.entry (omega arith) e.there (both_true (one_flagged flags e.entry) (has_number b.contacts.items e.entry.key) passes known)

    from : (p : ℕ) → IsPlaceOfOne s.long b.contacts.items slots p → IsIn p (stirring_places flags (has_number b.contacts.items) s.long)
    from p one = from_by p one (contact_at b.contacts.items one.is.number) refl one.is.on one.is.at

    placed : (o : Option NumberedContact) (key : ContactKey) (p : ℕ) → key_of o ≡ Some key → slice_get (keys_of s.long) p ≡ Some key → IsPlaceOf s.long o p
    placed None key p h at = absurd (none-some key h)
    placed (Some c) key p h at = at ∙ sym h

    on_side : (p : ℕ) (e : ContactEntry) (side : Side) → slice_get s.long p ≡ Some e → has_number b.contacts.items e.key ≡ true → is_flagged flags (slot_on side e.key) ≡ true → IsPlaceOfOne s.long b.contacts.items slots p
    on_side p e side at lets flagged =
        let n : HasNumber b.contacts.items e.key = has_a_number b.contacts.items e.key lets in
        let on : slot_at side b.contacts.items n.number ≡ Some (slot_on side e.key) = ap (option_map (slot_on side)) n.is in
        let there : Contains (list_at (ends_on side b.ends).sets (slot_on side e.key)) n.number = (book.ends side (slot_on side e.key) n.number).1 on in
        record {
          side = side;
          slot = slot_on side e.key;
          listed = listed.listed.all (slot_on side e.key) (within side (slot_on side e.key) n.number there) flagged;
          is = record { number = n.number; on = on; at = placed (contact_at b.contacts.items n.number) e.key p n.is (key_there s.long p e at) };
        }

    has_by : (p : ℕ) (e : ContactEntry) → slice_get s.long p ≡ Some e → has_number b.contacts.items e.key ≡ true → (is_flagged flags e.key.first.slot ≡ true) ⊎ (is_flagged flags e.key.second.slot ≡ true) → IsPlaceOfOne s.long b.contacts.items slots p
    has_by p e at lets one = elim one [ inl h ↦ on_side p e First at lets h | inr h ↦ on_side p e Second at lets h ]

    has : (p : ℕ) → IsAt (λ e. one_flagged flags e && has_number b.contacts.items e.key) 0 s.long p → IsPlaceOfOne s.long b.contacts.items slots p
    has p at =
        let place : p ≡ at.place = let e : p ≡ 0 + at.place = at.is in omega (arith, e) in
        let parts : (one_flagged flags at.entry ≡ true) × (has_number b.contacts.items at.entry.key ≡ true) = true_parts (one_flagged flags at.entry) (has_number b.contacts.items at.entry.key) at.passes in
        has_by p at.entry (subst (λ (k : ℕ). slice_get s.long k ≡ Some at.entry) (sym place) at.there) parts.1 (one_of (is_flagged flags at.entry.key.first.slot) (is_flagged flags at.entry.key.second.slot) parts.0)

-- ---- in the code

pub on_ok_both : {X E : Type 0} (A B C : Type 0) (r : Result X E) → (A → B → C) → OnOk r A → OnOk r B → OnOk r C
on_ok_both A B C (Ok x) f a b = f a b
on_ok_both A B C (Err e) f a b = tt
