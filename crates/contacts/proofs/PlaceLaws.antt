-- The places in a list of the contacts of a body, found along its threads of numbers.
use Rattle.std.proofs.Common.{Bor, ◌≡◌, ℕ, zero, suc, ◌+◌, ◌<◌, ◌≤◌, ◌↔◌, List, [], ◌∷◌, ◌++◌, length, take, get_or, Bool, true, false, cond, Option, Some, None, ◌⊎◌, inl, inr, refl, sym, ap, ◌∙◌, subst, arith}
use Rattle.std.specs.List.{Contains}
use Rattle.std.specs.Option.{option_copied}
use Rattle.std.specs.Slice.{IsItemAt}
use Rattle.std.specs.Prelude.{option_map, slice_get}
use Rattle.std.proofs.lemmas.Bool.{cases_lt}
use Rattle.std.proofs.lemmas.Option.{get_or_from_slice_get, none-some, same_Some, slice_get-get_or, slice_get_past, slice_get_within}
use Rattle.std.proofs.lemmas.List.{append-nil, take_more}
use Rattle.std.proofs.lemmas.List.Elements.{Contains-append_left, Contains-push, Contains-push_cases}
use Rattle.contacts_base.specs.declared.contact.ContactEntry.{ContactEntry}
use Rattle.contacts_base.specs.declared.key.ContactKey.{ContactKey}
use Rattle.contacts_base.specs.Keys.{key_number}
use Rattle.contacts_base.specs.Contacts.{AreKeysRising, number_of}
use Rattle.contacts_base.specs.ContactLists.{IsFirstFrom, keys_of}
use Rattle.contacts_base.proofs.LookupLemmas.{keys_later}
use Rattle.contacts.specs.declared.ends.ContactEnds.{ContactEnds}
use Rattle.contacts.specs.declared.ends.Side.{Side}
use Rattle.contacts.specs.declared.ends.Side.TheVariants.{First, Second}
use Rattle.contacts.specs.declared.number_book.NumberBook.{NumberBook}
use Rattle.contacts.specs.declared.number_book.NumberedContact.{NumberedContact}
use Rattle.contacts.specs.Ends.{IsOnce, ends_on}
use Rattle.contacts.specs.NumberBooks.{IsBook}
use Rattle.contacts.specs.Numbered.{contact_at}
use Rattle.contacts.specs.StirringPlaces.{ArePushed, IsPlaceOf, IsPlaceOfOne, IsPlaceOn}
use Rattle.packed_sets.specs.Packs.{list_at}
use Rattle.packed_sets.specs.Once.{AreOnce}
use Rattle.packed_sets.proofs.ItemLaws.{none_in}
use Rattle.packed_sets.proofs.WalkLaws.{IsWalk, count_from, count_left, walk_at, walk_begins, walk_fewer, walk_on, walk_over}

-- ---- the contact at a place

-- the contact at a place whose key is known
pub record IsEntryAt (es : List ContactEntry) (place : ℕ) (key : ContactKey) : Type 0 where
  pub entry : ContactEntry
  pub there : slice_get es place ≡ Some entry
  pub has : entry.key ≡ key

pub entry_with_key : (es : List ContactEntry) (place : ℕ) (key : ContactKey) → slice_get (keys_of es) place ≡ Some key → IsEntryAt es place key
entry_with_key [] place key h = absurd (none-some key h)
entry_with_key (e ∷ es) zero key h = record { entry = e; there = refl; has = same_Some e.key key h }
entry_with_key (e ∷ es) (suc place) key h = let r : IsEntryAt es place key = entry_with_key es place key h in record { entry = r.entry; there = r.there; has = r.has }

keys_get : (es : List ContactEntry) (place : ℕ) → slice_get (keys_of es) place ≡ option_map (λ (e : ContactEntry). e.key) (slice_get es place)
keys_get [] place = refl
keys_get (e ∷ es) zero = refl
keys_get (e ∷ es) (suc place) = keys_get es place

pub key_there : (es : List ContactEntry) (place : ℕ) (e : ContactEntry) → slice_get es place ≡ Some e → slice_get (keys_of es) place ≡ Some e.key
key_there es place e h = keys_get es place ∙ ap (option_map (λ (x : ContactEntry). x.key)) h

-- the first place whose contact isn't below a number is the only one whose contact has it
first_there : (es : List ContactEntry) (number hint place : ℕ) (e : ContactEntry) → AreKeysRising es → IsFirstFrom es number hint → slice_get es place ≡ Some e → number_of e ≡ number → place ≡ hint
first_there es number hint place e rising first at has =
    let lt : place < length es = slice_get_within es place e at in
    let here : number_of (get_or es place e) ≡ number = ap number_of (get_or_from_slice_get es place e e at) ∙ has in
    elim (cases_lt place hint) [
      | inl low ↦ let less : number_of (get_or es place e) < number = first.below.before place e (omega arith) low in absurd (omega (arith, less, here))
      | inr high ↦ elim (cases_lt hint place) [
        | inl under ↦
            let more : number_of (get_or es hint e) < number_of (get_or es place e) = keys_later es rising hint place e under lt in
            let most : number ≤ number_of (get_or es hint e) = first.there e (omega (arith, under, lt)) in
            absurd (omega (arith, more, most, here))
        | inr same ↦ omega (arith, high, same)
      ]
    ]

-- what is lent of a list at a place is what stands there
item_there : (es : List ContactEntry) (place : ℕ) (r : Option (Bor ContactEntry)) → IsItemAt es place r → option_copied r ≡ slice_get es place
item_there es place None h = sym (slice_get_past es place h.3)
item_there es place (Some x) h = sym (slice_get-get_or es place x.now h.3.0 ∙ ap (λ (e : ContactEntry). Some e) (sym h.1))

-- ---- the place of one contact is added

pub place_pushed : (es : List ContactEntry) (c : NumberedContact) (hint : ℕ) (wanted : Bool) (r : Option (Bor ContactEntry)) (old new : List ℕ) → AreKeysRising es → IsFirstFrom es (key_number c.key) hint → IsItemAt es hint r → (wanted ≡ true) ↔ (option_map (λ (e : ContactEntry). e.key) (option_copied r) ≡ Some c.key)
    → new ≡ old ++ cond wanted (hint ∷ []) [] → ArePushed (IsPlaceOf es (Some c)) old new
place_pushed es c hint wanted r old new rising first item has is = λ p. (
  λ h. from p wanted refl (subst (λ (l : List ℕ). Contains l p) is h),
  λ h. elim h [ inl a ↦ subst (λ (l : List ℕ). Contains l p) (sym is) (Contains-append_left old (cond wanted (hint ∷ []) []) p a) | inr b ↦ back p b ],
)
  where
    key_is : option_map (λ (e : ContactEntry). e.key) (option_copied r) ≡ slice_get (keys_of es) hint
    key_is = ap (option_map (λ (e : ContactEntry). e.key)) (item_there es hint r item) ∙ sym (keys_get es hint)

    from : (p : ℕ) (t : Bool) → wanted ≡ t → Contains (old ++ cond t (hint ∷ []) []) p → Contains old p ⊎ IsPlaceOf es (Some c) p
    from p true w h = elim (Contains-push_cases old hint p h) [ inl a ↦ inl a | inr same ↦ inr (subst (λ (k : ℕ). slice_get (keys_of es) k ≡ Some c.key) same (sym key_is ∙ has.0 w)) ]
    from p false w h = inl (subst (λ (l : List ℕ). Contains l p) (append-nil old) h)

    back : (p : ℕ) → IsPlaceOf es (Some c) p → Contains new p
    back p there =
        let e : IsEntryAt es p c.key = entry_with_key es p c.key there in
        let same : p ≡ hint = first_there es (key_number c.key) hint p e.entry rising first e.there (ap key_number e.has) in
        let key : slice_get (keys_of es) hint ≡ Some c.key = subst (λ (k : ℕ). slice_get (keys_of es) k ≡ Some c.key) same there in
        let w : wanted ≡ true = has.1 (key_is ∙ key) in
        let all : new ≡ old ++ hint ∷ [] = is ∙ ap (λ (t : Bool). old ++ cond t (hint ∷ []) []) w in
        subst (λ (l : List ℕ). Contains l p) (sym all) (subst (λ (k : ℕ). Contains (old ++ hint ∷ []) k) (sym same) (Contains-push old hint))

-- ---- a walk along a thread

-- the place is that of a contact with one of these numbers
pub record IsPlaceAmong (es : List ContactEntry) (numbered : List (Option NumberedContact)) (numbers : List ℕ) (place : ℕ) : Type 0 where
  pub number : ℕ
  pub listed : Contains numbers number
  pub at : IsPlaceOf es (contact_at numbered number) place

-- what is listed once some of the numbers are passed
pub record IsSideWalk (ids : List ℕ) (next : Option ℕ) (es : List ContactEntry) (numbered : List (Option NumberedContact)) (old new : List ℕ) : Type 0 where
  pub passed : List ℕ
  pub left : List ℕ
  pub walk : IsWalk ids next passed left
  pub pushed : ArePushed (IsPlaceAmong es numbered passed) old new

pub side_begins : (ids : List ℕ) (next : Option ℕ) (es : List ContactEntry) (numbered : List (Option NumberedContact)) (places : List ℕ) → next ≡ slice_get ids 0 → IsSideWalk ids next es numbered places places
side_begins ids next es numbered places at = record {
  passed = [];
  left = ids;
  walk = walk_begins ids next at;
  pushed = λ p. (λ h. inl h, λ h. elim h [ inl a ↦ a | inr b ↦ absurd (none_in b.number b.listed) ]);
}

-- what comes behind a number
abbrev pub IsBehind : List ℕ → ℕ → Option ℕ → Type 0
IsBehind ids number later = (front back : List ℕ) → ids ≡ front ++ number ∷ back → later ≡ slice_get back 0

pub side_goes : (ids : List ℕ) (next : Option ℕ) (number : ℕ) (later : Option ℕ) (es : List ContactEntry) (numbered : List (Option NumberedContact)) (old places more : List ℕ) → IsSideWalk ids next es numbered old places → next ≡ Some number → ArePushed (IsPlaceOf es (contact_at numbered number)) places more → IsBehind ids number later
    → IsSideWalk ids later es numbered old more
side_goes ids next number later es numbered old places more w is pushed behind =
    let here = walk_at ids next number w.passed w.left w.walk is in
    record {
      passed = w.passed ++ number ∷ [];
      left = here.back;
      walk = walk_on ids number w.passed w.left later here (behind w.passed here.back here.whole);
      pushed = λ p. (λ h. from p ((pushed p).0 h), λ h. elim h [ inl a ↦ (pushed p).1 (inl ((w.pushed p).1 (inl a))) | inr b ↦ back p b ]);
    }
  where
    from : (p : ℕ) → Contains places p ⊎ IsPlaceOf es (contact_at numbered number) p → Contains old p ⊎ IsPlaceAmong es numbered (w.passed ++ number ∷ []) p
    from p (inl was) = elim ((w.pushed p).0 was) [ inl a ↦ inl a | inr b ↦ inr (record { number = b.number; listed = Contains-append_left w.passed (number ∷ []) b.number b.listed; at = b.at }) ]
    from p (inr new) = inr (record { number = number; listed = Contains-push w.passed number; at = new })

    back : (p : ℕ) → IsPlaceAmong es numbered (w.passed ++ number ∷ []) p → Contains more p
    back p b = elim (Contains-push_cases w.passed number b.number b.listed) [
      | inl before ↦ (pushed p).1 (inl ((w.pushed p).1 (inr (record { number = b.number; listed = before; at = b.at }))))
      | inr same ↦ (pushed p).1 (inr (subst (λ (n : ℕ). IsPlaceOf es (contact_at numbered n) p) (sym same) b.at))
    ]

pub side_fewer : (ids : List ℕ) (next : Option ℕ) (number : ℕ) (later : Option ℕ) (es : List ContactEntry) (numbered : List (Option NumberedContact)) (old places : List ℕ) → AreOnce ids → IsSideWalk ids next es numbered old places → next ≡ Some number → IsBehind ids number later → count_left ids later < count_from ids number
side_fewer ids next number later es numbered old places once w is behind =
    let here = walk_at ids next number w.passed w.left w.walk is in
    walk_fewer ids number w.passed w.left later once here (behind w.passed here.back here.whole)

pub side_over : (side : Side) (slot : ℕ) (next : Option ℕ) (es : List ContactEntry) (b : NumberBook) (old new : List ℕ) → IsBook b → IsSideWalk (list_at (ends_on side b.ends).sets slot) next es b.contacts.items old new → next ≡ None → ArePushed (IsPlaceOn es b.contacts.items side slot) old new
side_over side slot next es b old new book w none = λ p. (
  λ h. elim ((w.pushed p).0 h) [
    | inl a ↦ inl a
    | inr m ↦ inr (record { number = m.number; on = (book.ends side slot m.number).0 (subst (λ (l : List ℕ). Contains l m.number) (sym all) m.listed); at = m.at })
  ],
  λ h. elim h [
    | inl a ↦ (w.pushed p).1 (inl a)
    | inr on ↦ (w.pushed p).1 (inr (record { number = on.number; listed = subst (λ (l : List ℕ). Contains l on.number) all ((book.ends side slot on.number).1 on.on); at = on.at }))
  ],
)
  where
    all : list_at (ends_on side b.ends).sets slot ≡ w.passed
    all = walk_over (list_at (ends_on side b.ends).sets slot) next w.passed w.left w.walk none

-- no number is twice in the thread of a body
pub thread_once : (side : Side) (slot : ℕ) (e : ContactEnds) → IsOnce e.firsts → IsOnce e.seconds → AreOnce (list_at (ends_on side e).sets slot)
thread_once First slot e firsts seconds = firsts.once slot
thread_once Second slot e firsts seconds = seconds.once slot

-- ---- one body after the other

pub places_begin : (es : List ContactEntry) (numbered : List (Option NumberedContact)) (places : List ℕ) → places ≡ [] → (p : ℕ) → Contains places p ↔ IsPlaceOfOne es numbered [] p
places_begin es numbered places none p = (λ h. absurd (none_in p (subst (λ (l : List ℕ). Contains l p) none h)), λ one. absurd (none_in one.slot one.listed))

pub places_more : (es : List ContactEntry) (numbered : List (Option NumberedContact)) (slots : List ℕ) (k d slot : ℕ) (old mid new : List ℕ) → k < length slots → slot ≡ get_or slots k d → ((p : ℕ) → Contains old p ↔ IsPlaceOfOne es numbered (take k slots) p) → ArePushed (IsPlaceOn es numbered First slot) old mid
    → ArePushed (IsPlaceOn es numbered Second slot) mid new → (p : ℕ) → Contains new p ↔ IsPlaceOfOne es numbered (take (k + 1) slots) p
places_more es numbered slots k d slot old mid new lt is was first second p =
    let all : take (k + 1) slots ≡ take k slots ++ slot ∷ [] = take_more slots k d lt ∙ ap (λ (n : ℕ). take k slots ++ n ∷ []) (sym is) in
    subst (λ (l : List ℕ). Contains new p ↔ IsPlaceOfOne es numbered l p) (sym all) (λ h. from ((second p).0 h), λ one. back one (Contains-push_cases (take k slots) slot one.slot one.listed))
  where
    early : Contains mid p ⊎ IsPlaceOn es numbered Second slot p → Contains old p ⊎ (IsPlaceOn es numbered First slot p ⊎ IsPlaceOn es numbered Second slot p)
    early (inl h) = elim ((first p).0 h) [ inl a ↦ inl a | inr b ↦ inr (inl b) ]
    early (inr on) = inr (inr on)

    from : Contains mid p ⊎ IsPlaceOn es numbered Second slot p → IsPlaceOfOne es numbered (take k slots ++ slot ∷ []) p
    from h = elim (early h) [
      | inl a ↦ let one : IsPlaceOfOne es numbered (take k slots) p = (was p).0 a in record { side = one.side; slot = one.slot; listed = Contains-append_left (take k slots) (slot ∷ []) one.slot one.listed; is = one.is }
      | inr b ↦ elim b [
        | inl on ↦ record { side = First; slot = slot; listed = Contains-push (take k slots) slot; is = on }
        | inr on ↦ record { side = Second; slot = slot; listed = Contains-push (take k slots) slot; is = on }
      ]
    ]

    on_side : (side : Side) → IsPlaceOn es numbered side slot p → Contains new p
    on_side First on = (second p).1 (inl ((first p).1 (inr on)))
    on_side Second on = (second p).1 (inr on)

    back : (one : IsPlaceOfOne es numbered (take k slots ++ slot ∷ []) p) → Contains (take k slots) one.slot ⊎ (slot ≡ one.slot) → Contains new p
    back one (inl before) = (second p).1 (inl ((first p).1 (inl ((was p).1 (record { side = one.side; slot = one.slot; listed = before; is = one.is })))))
    back one (inr same) = on_side one.side (subst (λ (s : ℕ). IsPlaceOn es numbered one.side s p) (sym same) one.is)
