-- What counts of a list once the contact with a key is over.
use Rattle.std.proofs.Common.{◌≡◌, ◌≢◌, ℕ, ◌<◌, ◌==◌, Bool, true, false, cond, not, List, [], ◌∷◌, length, get_or, Some, None, arith, refl, sym, ap, ◌∙◌, inl, inr}
use Rattle.std.specs.Prelude.{filter, slice_get, slice_set}
use Rattle.std.specs.Option.{is_some}
use Rattle.std.proofs.lemmas.Bool.{cases_eq, cases_lt}
use Rattle.std.proofs.lemmas.List.{get_or_default, get_or-set_other, get_or-set_same, length-set}
use Rattle.std.proofs.lemmas.Option.{none-some, same_Some, slice_get_read, slice_get_within, get_or_from_slice_get}
use Rattle.contacts_base.specs.declared.key.ContactKey.{ContactKey}
use Rattle.contacts_base.specs.declared.contact.ContactEntry.{ContactEntry}
use Rattle.contacts_base.specs.Keys.{key_number}
use Rattle.contacts_base.specs.Contacts.{AreKeysRising, contacts_but, lookup, number_of}
use Rattle.contacts_base.specs.ContactLists.{IsFirstFrom}
use Rattle.contacts_base.specs.Split.{counting, is_over}
use Rattle.contacts_base.proofs.LookupLemmas.{keys_later}
use Rattle.contacts_base.proofs.MergedLaws.{is_same, not_same}
use Rattle.contacts_base.proofs.CountingLaws.{counting_by, none_counts, none_if, set_stays, there_if}

-- none of the contacts has the key
filter_missed : (es : List ContactEntry) (key : ContactKey) → lookup es key ≡ None → filter (λ e. not (number_of e == key_number key)) es ≡ es
filter_missed [] key none = refl
filter_missed (e ∷ es) key none = by_test e es key (number_of e == key_number key) none (filter_missed es key)
  where
    by_test : (e : ContactEntry) (es : List ContactEntry) (key : ContactKey) (t : Bool) → cond t (Some e) (lookup es key) ≡ None → (lookup es key ≡ None → filter (λ f. not (number_of f == key_number key)) es ≡ es)
        → cond (not t) (e ∷ filter (λ f. not (number_of f == key_number key)) es) (filter (λ f. not (number_of f == key_number key)) es) ≡ e ∷ es
    by_test e es key true none rest = absurd (none-some e (sym none))
    by_test e es key false none rest = ap (λ (l : List ContactEntry). e ∷ l) (rest none)

-- no contact has the key
pub none_ended : (over : List Bool) (es : List ContactEntry) (key : ContactKey) → is_some (lookup es key) ≡ false → counting over es ≡ contacts_but key (counting over es)
none_ended over es key none = sym (filter_missed (counting over es) key (none_counts over es key (none_if (lookup es key) none)))

-- of contacts whose keys ascend no other has the number
pub other_number : (es : List ContactEntry) (p q : ℕ) (e f : ContactEntry) → AreKeysRising es → slice_get es p ≡ Some e → slice_get es q ≡ Some f → q ≢ p → number_of f ≢ number_of e
other_number es p q e f rising at there off same =
    let p_in : p < length es = slice_get_within es p e at in
    let q_in : q < length es = slice_get_within es q f there in
    let here : get_or es p e ≡ e = get_or_from_slice_get es p e e at in
    let also : get_or es q e ≡ f = get_or_from_slice_get es q f e there in
    elim (cases_lt p q) [
      | inl lt ↦ let less : number_of (get_or es p e) < number_of (get_or es q e) = keys_later es rising p q e lt q_in in let one : number_of (get_or es p e) ≡ number_of e = ap number_of here in let two : number_of (get_or es q e) ≡ number_of f = ap number_of also in omega (arith, less, one, two, same)
      | inr le ↦ let less : number_of (get_or es q e) < number_of (get_or es p e) = keys_later es rising q p e (omega (arith, le, off)) p_in in let one : number_of (get_or es p e) ≡ number_of e = ap number_of here in let two : number_of (get_or es q e) ≡ number_of f = ap number_of also in omega (arith, less, one, two, same)
    ]

-- the contact at a place is over: what counts then is all but that one
counting_ended : (over : List Bool) (es : List ContactEntry) (p : ℕ) (e : ContactEntry) → AreKeysRising es → length over ≡ length es → slice_get es p ≡ Some e → counting (slice_set over p true) es ≡ contacts_but e.key (counting over es)
counting_ended over es p e rising flags at =
    let p_in : p < length over = let lt : p < length es = slice_get_within es p e at in omega (arith, lt, flags) in
    counting_by (λ f. number_of f == number_of e) over (slice_set over p true) es flags (length-set over p true ∙ flags) (λ q on. set_stays over p q on)
    (λ q f there off. elim (cases_eq q p) [
      | inl same ↦
          let one : f ≡ e = same_Some f e (sym there ∙ ap (slice_get es) same ∙ at) in
          ap (is_over (slice_set over p true)) same ∙ get_or-set_same over p true false p_in ∙ sym (is_same (number_of f) (number_of e) (ap number_of one))
      | inr apart ↦ get_or-set_other over p q true false apart ∙ off ∙ sym (not_same (number_of f) (number_of e) (other_number es p q e f rising at there apart))
    ])

-- the contact that a search by key found
pub found_ended : (over : List Bool) (es : List ContactEntry) (key : ContactKey) (p : ℕ) → AreKeysRising es → length over ≡ length es → IsFirstFrom es (key_number key) p → is_some (lookup es key) ≡ true → counting (slice_set over p true) es ≡ contacts_but key (counting over es)
found_ended over [] key p rising flags first some = cc
found_ended over (x ∷ es) key p rising flags first some =
    let there = there_if (x ∷ es) key p x rising first some in
    let e : ContactEntry = get_or (x ∷ es) p x in
    counting_ended over (x ∷ es) p e rising flags (slice_get_read (x ∷ es) (length (x ∷ es)) p e refl there.0 (get_or_default (x ∷ es) p x e there.0))
    ∙ ap (λ (n : ℕ). filter (λ f. not (number_of f == n)) (counting over (x ∷ es))) there.1
