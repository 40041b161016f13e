-- What the list of the contacts tells of their numbers, and what of it a change leaves as it was.
use Rattle.std.proofs.Common.{◌≡◌, ◌⊎◌, ℕ, Bool, true, false, cond, List, [], ◌∷◌, map, Option, Some, None, inl, inr, refl, sym, ap, ◌∙◌, subst}
use Rattle.std.specs.Prelude.{Contains, filter, not}
use Rattle.std.specs.Option.{is_some}
use Rattle.std.proofs.lemmas.Bool.{false≢true}
use Rattle.std.proofs.lemmas.List.{get_or_default}
use Rattle.std.proofs.lemmas.List.Elements.{Contains-append_cases, Contains-push_cases}
use Rattle.packed_sets.proofs.ItemLaws.{head_in, none_in, tail_in}
use Rattle.contacts.specs.declared.number_book.NumberedContact.{NumberedContact}
use Rattle.contacts.specs.Numbered.{AreNumbered, IsTurnover, contact_at, key_of, number_key_at, numbered_of}
use Rattle.contacts.specs.Touching.{TouchesOnlyIn}
use Rattle.contacts_base.specs.declared.contact.ContactEntry.{ContactEntry}
use Rattle.contacts_base.specs.Contacts.{contacts_without, has_slot}
use Rattle.contacts_base.specs.Evaluate.{touches}

-- ---- members

cases_in : {X : Type 0} (x : X) (xs : List X) (y : X) → Contains (x ∷ xs) y → (x ≡ y) ⊎ Contains xs y
cases_in x xs y h = elim (Contains-append_cases (x ∷ []) xs y h) [
  | inl k ↦ elim (Contains-push_cases [] x y k) [ inl m ↦ absurd (none_in y m) | inr m ↦ inl m ]
  | inr k ↦ inr k
]

filter_in_by : {X : Type 0} (p : X → Bool) (y : X) (ys : List X) (x : X) (t : Bool) → p y ≡ t → Contains (cond t (y ∷ filter p ys) (filter p ys)) x → (Contains (filter p ys) x → Contains ys x × (p x ≡ true)) → Contains (y ∷ ys) x × (p x ≡ true)
filter_in_by {X} p y ys x true e h f = elim (cases_in y (filter p ys) x h) [
  | inl k ↦ let P : X → Type 0 = λ v. Contains (y ∷ ys) v in (subst P k (head_in y ys), ap p (sym k) ∙ e)
  | inr k ↦ let o = f k in (tail_in y ys x o.0, o.1)
]
filter_in_by {X} p y ys x false e h f = let o = f h in (tail_in y ys x o.0, o.1)

pub filter_in : {X : Type 0} (p : X → Bool) (xs : List X) (x : X) → Contains (filter p xs) x → Contains xs x × (p x ≡ true)
filter_in p [] x h = absurd (none_in x h)
filter_in p (y ∷ ys) x h = filter_in_by p y ys x (p y) refl h (λ k. filter_in p ys x k)

in_filter_by : {X : Type 0} (p : X → Bool) (y : X) (ys : List X) (x : X) (t : Bool) → p y ≡ t → Contains (y ∷ ys) x → p x ≡ true → (Contains ys x → Contains (filter p ys) x) → Contains (cond t (y ∷ filter p ys) (filter p ys)) x
in_filter_by {X} p y ys x true e h q f = elim (cases_in y ys x h) [
  | inl k ↦ let P : X → Type 0 = λ v. Contains (y ∷ filter p ys) v in subst P k (head_in y (filter p ys))
  | inr k ↦ tail_in y (filter p ys) x (f k)
]
in_filter_by {X} p y ys x false e h q f = elim (cases_in y ys x h) [
  | inl k ↦ absurd (false≢true (sym e ∙ ap p k ∙ q))
  | inr k ↦ f k
]

pub in_filter : {X : Type 0} (p : X → Bool) (xs : List X) (x : X) → Contains xs x → p x ≡ true → Contains (filter p xs) x
in_filter p [] x h q = absurd (none_in x h)
in_filter p (y ∷ ys) x h q = in_filter_by p y ys x (p y) refl h q (λ k. in_filter p ys x k q)

-- ---- a contact, and its number

-- the contact of the list that has a number
pub record HasEntry (contacts : List ContactEntry) (c : NumberedContact) : Type 0 where
  pub entry : ContactEntry
  pub there : Contains contacts entry
  pub is : numbered_of entry ≡ c

from_map : (contacts : List ContactEntry) (c : NumberedContact) → Contains (map numbered_of contacts) c → HasEntry contacts c
from_map [] c h = absurd (none_in c h)
from_map (e ∷ contacts) c h = elim (cases_in (numbered_of e) (map numbered_of contacts) c h) [
  | inl same ↦ record { entry = e; there = head_in e contacts; is = same }
  | inr rest ↦ (let r = from_map contacts c rest in record { entry = r.entry; there = tail_in e contacts r.entry r.there; is = r.is })
]

pub entry_at : (contacts : List ContactEntry) (numbered : List (Option NumberedContact)) (number : ℕ) (c : NumberedContact) → AreNumbered contacts numbered → contact_at numbered number ≡ Some c → HasEntry contacts c
entry_at contacts numbered number c are at = from_map contacts c (are.only number c at)

-- the number of a contact of the list
pub record HasNumber (numbered : List (Option NumberedContact)) (c : NumberedContact) : Type 0 where
  pub number : ℕ
  pub at : contact_at numbered number ≡ Some c

pub number_for : (contacts : List ContactEntry) (numbered : List (Option NumberedContact)) (e : ContactEntry) → AreNumbered contacts numbered → Contains contacts e → HasNumber numbered (numbered_of e)
number_for contacts numbered e are h = let k = are.all e h in record { number = k.0; at = get_or_default numbered k.0 None (Some (numbered_of e)) k.1 ∙ k.2 }

pub key_at : (numbered : List (Option NumberedContact)) (number : ℕ) (c : NumberedContact) → contact_at numbered number ≡ Some c → number_key_at numbered number ≡ Some c.key
key_at numbered number c at = ap key_of at

some_contact : (c d : NumberedContact) → Some c ≡ Some d → c ≡ d
some_contact c d h = cc

-- two contacts with one key are one
pub one_contact : (contacts : List ContactEntry) (numbered : List (Option NumberedContact)) (a b : ℕ) (c d : NumberedContact) → AreNumbered contacts numbered → contact_at numbered a ≡ Some c → contact_at numbered b ≡ Some d → c.key ≡ d.key → c ≡ d
one_contact contacts numbered a b c d are at_a at_b keys =
    let same : a ≡ b = are.once a b d.key (key_at numbered a c at_a ∙ ap Some keys) (key_at numbered b d at_b) in
    some_contact c d (sym at_a ∙ ap (contact_at numbered) same ∙ at_b)

-- what touches in the list and has a key touches as its number tells
pub touches_as : (contacts : List ContactEntry) (numbered : List (Option NumberedContact)) (number : ℕ) (c : NumberedContact) (e : ContactEntry) → AreNumbered contacts numbered → contact_at numbered number ≡ Some c → Contains contacts e → e.key ≡ c.key → touches e.contact ≡ c.touching
touches_as contacts numbered number c e are at there keys =
    let own = number_for contacts numbered e are there in
    ap (λ (d : NumberedContact). d.touching) (one_contact contacts numbered own.number number (numbered_of e) c are own.at at keys)

-- ---- what begins or ends to touch

-- one that touches, and has no number any more
pub gone_touching : (before after : List ContactEntry) (old new : List (Option NumberedContact)) (made gone : List ℕ) (number : ℕ) (c : NumberedContact) → AreNumbered before old → AreNumbered after new → IsTurnover old new made gone → contact_at old number ≡ Some c → c.touching ≡ true → contact_at new number ≡ None → TouchesOnlyIn after before c.key
gone_touching before after old new made gone number c was is turn at touch over =
    let own = entry_at before old number c was at in
    record {
      entry = own.entry;
      there = own.there;
      has = ap (λ (d : NumberedContact). d.key) own.is;
      touching = ap (λ (d : NumberedContact). d.touching) own.is ∙ touch;
      off = λ e there keys. absurd (never e there keys);
    }
  where
    never : (e : ContactEntry) → Contains after e → e.key ≡ c.key → ⊥
    never e there keys =
        let own = number_for after new e is there in
        let same : number ≡ own.number = turn.same number own.number c.key (key_at old number c at) (key_at new own.number (numbered_of e) own.at ∙ ap Some keys) in
        let both : None ≡ Some (numbered_of e) = sym over ∙ ap (contact_at new) same ∙ own.at in
        cc

-- one that touches under its number in the one list alone
pub stayed_touching : (before after : List ContactEntry) (old new : List (Option NumberedContact)) (number : ℕ) (c d : NumberedContact) → AreNumbered before old → AreNumbered after new → contact_at old number ≡ Some c → contact_at new number ≡ Some d → d.key ≡ c.key → c.touching ≡ true → d.touching ≡ false → TouchesOnlyIn after before c.key
stayed_touching before after old new number c d was is at now keys touch off =
    let own = entry_at before old number c was at in
    record {
      entry = own.entry;
      there = own.there;
      has = ap (λ (x : NumberedContact). x.key) own.is;
      touching = ap (λ (x : NumberedContact). x.touching) own.is ∙ touch;
      off = λ e there k. touches_as after new number d e is now there (k ∙ sym keys) ∙ off;
    }

-- ---- contacts that go

-- all that are left were there: what has a number has it still
pub left_there : (before after : List ContactEntry) (old new : List (Option NumberedContact)) (number : ℕ) (d : NumberedContact) → AreNumbered before old → AreNumbered after new → ((e : ContactEntry) → Contains after e → Contains before e) → number_key_at new number ≡ number_key_at old number → contact_at new number ≡ Some d → contact_at old number ≡ Some d
left_there before after old new number d was is within keys now =
    let own = entry_at after new number d is now in
    let then = number_for before old own.entry was (within own.entry own.there) in
    let at : contact_at old then.number ≡ Some d = then.at ∙ ap Some own.is in
    let same : then.number ≡ number = was.once then.number number d.key (key_at old then.number d at) (sym keys ∙ key_at new number d now) in
    ap (contact_at old) (sym same) ∙ at

no_key : (o : Option NumberedContact) → key_of o ≡ None → o ≡ None
no_key None h = refl
no_key (Some c) h = let both : Some c.key ≡ None = h in cc

pub left_same : (before after : List ContactEntry) (old new : List (Option NumberedContact)) (number : ℕ) → AreNumbered before old → AreNumbered after new → ((e : ContactEntry) → Contains after e → Contains before e) → number_key_at new number ≡ number_key_at old number → contact_at new number ≡ contact_at old number
left_same before after old new number was is within keys = by (contact_at new number) refl
  where
    by : (o : Option NumberedContact) → contact_at new number ≡ o → contact_at new number ≡ contact_at old number
    by None now = now ∙ sym (no_key (contact_at old number) (sym keys ∙ ap key_of now))
    by (Some d) now = now ∙ sym (left_there before after old new number d was is within keys now)

-- ---- the contacts of one body, which go

pub without_within : (slot : ℕ) (contacts : List ContactEntry) (e : ContactEntry) → Contains (contacts_without slot contacts) e → Contains contacts e
without_within slot contacts e h = (filter_in (λ x. not (has_slot slot x)) contacts e h).0

not_true : (t : Bool) → not t ≡ true → t ≡ false
not_true true h = absurd (false≢true h)
not_true false h = refl

pub without_end : (slot : ℕ) (contacts : List ContactEntry) (e : ContactEntry) → Contains (contacts_without slot contacts) e → has_slot slot e ≡ false
without_end slot contacts e h = not_true (has_slot slot e) (filter_in (λ x. not (has_slot slot x)) contacts e h).1

-- the contact that had a number, and has the body
pub record HasLeft (slot : ℕ) (contacts : List ContactEntry) (numbered : List (Option NumberedContact)) (number : ℕ) : Type 0 where
  pub entry : ContactEntry
  pub there : Contains contacts entry
  pub at : contact_at numbered number ≡ Some (numbered_of entry)
  pub end : has_slot slot entry ≡ true

-- each of those that went has it
pub dropped_has : (slot : ℕ) (before : List ContactEntry) (old new : List (Option NumberedContact)) (made gone : List ℕ) (number : ℕ) → AreNumbered before old → AreNumbered (contacts_without slot before) new → IsTurnover old new made gone → Contains gone number → HasLeft slot before old number
dropped_has slot before old new made gone number was is turn went = by (contact_at old number) refl
  where
    never : (e : ContactEntry) → contact_at old number ≡ Some (numbered_of e) → Contains (contacts_without slot before) e → ⊥
    never e at there =
        let left = number_for (contacts_without slot before) new e is there in
        let same : number ≡ left.number = turn.same number left.number e.key (key_at old number (numbered_of e) at) (key_at new left.number (numbered_of e) left.at) in
        let both : None ≡ Some (numbered_of e) = sym (turn.gone number went) ∙ ap (contact_at new) same ∙ left.at in
        cc

    has : (e : ContactEntry) → contact_at old number ≡ Some (numbered_of e) → Contains before e → (t : Bool) → has_slot slot e ≡ t → has_slot slot e ≡ true
    has e at there true h = h
    has e at there false h = absurd (never e at (in_filter (λ x. not (has_slot slot x)) before e there (ap not h)))

    by : (o : Option NumberedContact) → contact_at old number ≡ o → HasLeft slot before old number
    by None at = absurd (false≢true (sym (ap is_some at) ∙ turn.there number went))
    by (Some c) at =
        let own = entry_at before old number c was at in
        let here : contact_at old number ≡ Some (numbered_of own.entry) = at ∙ ap Some (sym own.is) in
        record { entry = own.entry; there = own.there; at = here; end = has own.entry here own.there (has_slot slot own.entry) refl }
