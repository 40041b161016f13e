-- The contacts of a body go, one after another, and what is left then.
use Rattle.std.proofs.Common.{◌≡◌, ◌≢◌, ℕ, ◌+◌, ◌-◌, ◌<◌, ◌≤◌, ◌==◌, ◌||◌, Bool, true, false, true≢false, not, cond, List, [], ◌∷◌, ◌++◌, length, map, Option, Some, None, refl, sym, ap, ◌∙◌, subst, arith, inl, inr}
use Rattle.std.specs.Prelude.{filter, slice_get}
use Rattle.std.specs.List.{Contains}
use Rattle.std.specs.Option.{is_some, option_map}
use Rattle.std.proofs.lemmas.Bool.{cases_eq}
use Rattle.std.proofs.lemmas.List.{length-append, length-drop, length-set}
use Rattle.std.proofs.lemmas.List.Elements.{Contains-append_left, Contains-push, Contains-push_cases}
use Rattle.std.proofs.lemmas.Option.{none-some, same_Some}
use Rattle.contacts_base.specs.declared.key.ContactKey.{ContactKey}
use Rattle.contacts_base.specs.declared.contact.ContactEntry.{ContactEntry}
use Rattle.contacts_base.specs.Keys.{key_number}
use Rattle.contacts_base.specs.Contacts.{AreKeysRising, contacts_but, contacts_without, has_slot, number_of}
use Rattle.contacts_base.specs.Split.{Split, contacts_in, is_over}
use Rattle.contacts_base.proofs.ContactsLemmas.{keys_rise-filter}
use Rattle.contacts_base.proofs.MergedLaws.{is_same, not_same}
use Rattle.packed_sets.specs.Packs.{list_at}
use Rattle.packed_sets.proofs.ItemLaws.{head_in, none_in, tail_in}
use Rattle.packed_sets.proofs.ListLaws.{member_at}
use Rattle.contacts.specs.declared.ends.Side.{Side}
use Rattle.contacts.specs.declared.ends.Side.TheVariants.{First, Second}
use Rattle.contacts.specs.declared.number_book.NumberBook.{NumberBook}
use Rattle.contacts.specs.declared.number_book.NumberedContact.{NumberedContact}
use Rattle.contacts.specs.Dropping.{IsDropping, IsKeyOver, IsOf}
use Rattle.contacts.specs.Ends.{ends_on, slot_on}
use Rattle.contacts.specs.Numbered.{AreKeysOnce, AreNumbered, IsTurnover, contact_at, key_of, number_key_at, numbered_of, slot_at}
use Rattle.contacts.specs.NumberBooks.{HasEnded, IsBook, gone_of}
use Rattle.contacts.specs.Stirring.{HaveKeys}
use Rattle.contacts.proofs.NumberBookLaws.{free_short, over_is, over_other}
use Rattle.contacts.proofs.NumberChangeLaws.{IsImage, from_map, in_map, one_entry}
use Rattle.contacts.proofs.NumberPartLaws.{IsKeyed, contact_in, key_at, keyed, number_of_contact}
use Rattle.contacts.proofs.NumberedLaws.{filter_in, in_filter}

-- ---- a list of which some are left out

-- what the second test leaves out the first does too
filter_twice : {X : Type 0} (p q : X → Bool) (xs : List X) → ((x : X) → Contains xs x → q x ≡ false → p x ≡ false) → filter p (filter q xs) ≡ filter p xs
filter_twice p q [] also = refl
filter_twice {X} p q (x ∷ xs) also = by_test (q x) (also x (head_in x xs)) (filter_twice p q xs (λ y h. also y (tail_in x xs y h)))
  where
    passed : (t : Bool) (ys : List X) → t ≡ false → ys ≡ cond t (x ∷ ys) ys
    passed true ys off = absurd (true≢false off)
    passed false ys off = refl

    by_test : (t : Bool) → (t ≡ false → p x ≡ false) → filter p (filter q xs) ≡ filter p xs → filter p (cond t (x ∷ filter q xs) (filter q xs)) ≡ cond (p x) (x ∷ filter p xs) (filter p xs)
    by_test true off rest = ap (λ (l : List X). cond (p x) (x ∷ l) l) rest
    by_test false off rest = rest ∙ passed (p x) (filter p xs) (off refl)

-- all pass
filter_all : {X : Type 0} (p : X → Bool) (xs : List X) → ((x : X) → Contains xs x → p x ≡ true) → filter p xs ≡ xs
filter_all p [] all = refl
filter_all {X} p (x ∷ xs) all = ap (λ (t : Bool). cond t (x ∷ filter p xs) (filter p xs)) (all x (head_in x xs)) ∙ ap (λ (l : List X). x ∷ l) (filter_all p xs (λ y h. all y (tail_in x xs y h)))

not_left : (a b : ℕ) → not (a == b) ≡ false → a ≡ b
not_left a b out = elim (cases_eq a b) [
  | inl same ↦ same
  | inr off ↦ absurd (true≢false (ap not (sym (not_same a b off)) ∙ out))
]

not_out : (a b : ℕ) → not (a == b) ≡ true → a ≢ b
not_out a b left same = true≢false (sym left ∙ ap not (is_same a b same))

-- ---- the contact with a number

-- once it has gone
pub ended_here : (number : ℕ) (b d : NumberBook) → HasEnded number b d → contact_at d.contacts.items number ≡ None
ended_here number b d is = ap (λ (l : List (Option NumberedContact)). contact_at l number) is.contacts ∙ over_is b.contacts.items number

pub ended_other : (number : ℕ) (b d : NumberBook) (y : ℕ) → HasEnded number b d → y ≢ number → contact_at d.contacts.items y ≡ contact_at b.contacts.items y
ended_other number b d y is off = ap (λ (l : List (Option NumberedContact)). contact_at l y) is.contacts ∙ over_other b.contacts.items number y off

-- what it was that is one still
pub ended_kept : (number : ℕ) (b d : NumberBook) (y : ℕ) (c : NumberedContact) → HasEnded number b d → contact_at d.contacts.items y ≡ Some c → contact_at b.contacts.items y ≡ Some c
ended_kept number b d y c is at = elim (cases_eq y number) [
  | inl same ↦ absurd (none-some c (sym (ended_here number b d is) ∙ ap (λ (k : ℕ). contact_at d.contacts.items k) (sym same) ∙ at))
  | inr off ↦ sym (ended_other number b d y is off) ∙ at
]

-- ---- whose a contact is

or_true : (t : Bool) → (t || true) ≡ true
or_true true = refl
or_true false = refl

of_has : (slot : ℕ) (e : ContactEntry) → IsOf slot e.key → has_slot slot e ≡ true
of_has slot e own = by_side own.0 own.1
  where
    by_side : (side : Side) → slot_on side e.key ≡ slot → has_slot slot e ≡ true
    by_side First same = ap (λ (t : Bool). t || (e.key.second.slot == slot)) (is_same e.key.first.slot slot same)
    by_side Second same = ap (λ (t : Bool). (e.key.first.slot == slot) || t) (is_same e.key.second.slot slot same) ∙ or_true (e.key.first.slot == slot)

has_of : (slot : ℕ) (e : ContactEntry) → has_slot slot e ≡ true → IsOf slot e.key
has_of slot e has = elim (cases_eq e.key.first.slot slot) [
  | inl same ↦ (First, same)
  | inr off ↦ elim (cases_eq e.key.second.slot slot) [
    | inl same ↦ (Second, same)
    | inr apart ↦
        let neither : has_slot slot e ≡ false = ap (λ (t : Bool). t || (e.key.second.slot == slot)) (not_same e.key.first.slot slot off) ∙ not_same e.key.second.slot slot apart in
        absurd (true≢false (sym has ∙ neither))
  ]
]

has_not : (slot : ℕ) (e : ContactEntry) → (IsOf slot e.key → ⊥) → has_slot slot e ≡ false
has_not slot e apart = by_flag (has_slot slot e) refl
  where
    by_flag : (t : Bool) → has_slot slot e ≡ t → has_slot slot e ≡ false
    by_flag true has = absurd (apart (has_of slot e has))
    by_flag false has = has

-- ---- one contact more has gone

pub key_over : (key : ContactKey) (s t : Split) → contacts_in t ≡ contacts_but key (contacts_in s) → t.long ≡ s.long → ((place : ℕ) → is_over s.over place ≡ true → is_over t.over place ≡ true) → IsKeyOver key s t
key_over key s t contacts long over = record {
  contacts = contacts;
  keys = record { keys = ap (λ (l : List ContactEntry). map (λ (e : ContactEntry). e.key) l) long; over = over };
}

-- the contact with its key is one of the body's
own_entry : (slot : ℕ) (es : List ContactEntry) (numbered : List (Option NumberedContact)) (number : ℕ) (c : NumberedContact) (e : ContactEntry) → AreKeysRising es → AreNumbered es numbered → contact_at numbered number ≡ Some c → Contains es e → number_of e ≡ key_number c.key → numbered_of e ≡ c
own_entry slot es numbered number c e rising are at there same =
    let one : IsImage numbered_of es c = from_map numbered_of es c (are.only number c at) in
    ap numbered_of (one_entry es e one.of rising there one.there (ap (λ (x : NumberedContact). key_number x.key) one.is ∙ sym same)) ∙ one.is

-- what is left has its numbers
left_numbered : (slot : ℕ) (es : List ContactEntry) (b d : NumberBook) (number : ℕ) (c : NumberedContact) → AreKeysRising es → AreNumbered es b.contacts.items → contact_at b.contacts.items number ≡ Some c → HasEnded number b d → AreNumbered (contacts_but c.key es) d.contacts.items
left_numbered slot es b d number c rising are at ended = record {
  all = λ e h.
      let there = filter_in (λ f. not (number_of f == key_number c.key)) es e h in
      let given : (y : ℕ) × (contact_at b.contacts.items y ≡ Some (numbered_of e)) = number_of_contact b.contacts.items (numbered_of e) (are.all e there.0) in
      contact_in d.contacts.items given.0 (numbered_of e) (ended_other number b d given.0 ended (λ same.
      let one : numbered_of e ≡ c = same_Some (numbered_of e) c (sym given.1 ∙ ap (λ (k : ℕ). contact_at b.contacts.items k) same ∙ at) in
      not_out (number_of e) (key_number c.key) there.1 (ap (λ (x : NumberedContact). key_number x.key) one)) ∙ given.1);
  only = λ y f now.
      let was : contact_at b.contacts.items y ≡ Some f = ended_kept number b d y f ended now in
      let image : IsImage numbered_of es f = from_map numbered_of es f (are.only y f was) in
      let apart : number_of image.of ≢ key_number c.key = λ same.
      let one : f ≡ c = sym image.is ∙ own_entry slot es b.contacts.items number c image.of rising are at image.there same in
      let here : y ≡ number = are.once y number c.key (key_at b.contacts.items y f was ∙ ap (λ (x : NumberedContact). Some x.key) one) (key_at b.contacts.items number c at) in
      none-some f (sym (ended_here number b d ended) ∙ ap (λ (k : ℕ). contact_at d.contacts.items k) (sym here) ∙ now) in
      subst (Contains (map numbered_of (contacts_but c.key es))) image.is (in_map numbered_of (contacts_but c.key es) image.of (in_filter (λ e. not (number_of e == key_number c.key)) es image.of image.there (ap not (not_same (number_of image.of) (key_number c.key) apart))));
  once = λ x y key one other. are.once x y key (key_before x key one) (key_before y key other);
}
  where
    key_before : (y : ℕ) (key : ContactKey) → number_key_at d.contacts.items y ≡ Some key → number_key_at b.contacts.items y ≡ Some key
    key_before y key now = let k : IsKeyed d.contacts.items y key = keyed d.contacts.items y key now in key_at b.contacts.items y k.contact (ended_kept number b d y k.contact ended k.at) ∙ ap Some k.has

more_keys : (c d e : Split) → HaveKeys c d → HaveKeys d e → HaveKeys c e
more_keys c d e one two = record { keys = two.keys ∙ one.keys; over = λ p on. two.over p (one.over p on) }

pub dropping_step : (slot : ℕ) (was : Split) (numbered : List (Option NumberedContact)) (s t : Split) (b d : NumberBook) (number : ℕ) (c : NumberedContact) → contact_at b.contacts.items number ≡ Some c → IsOf slot c.key → HasEnded number b d → IsKeyOver c.key s t
    → IsDropping slot was numbered s b → IsDropping slot was numbered t d
dropping_step slot was numbered s t b d number c at own ended over is = record {
  keys = more_keys was s t is.keys over.keys;
  rising = subst AreKeysRising (sym over.contacts) (keys_rise-filter (λ e. not (number_of e == key_number c.key)) (contacts_in s) is.rising);
  left =
      ap (contacts_without slot) over.contacts
      ∙ filter_twice (λ e. not (has_slot slot e)) (λ e. not (number_of e == key_number c.key)) (contacts_in s) (λ e there out.
      let one : numbered_of e ≡ c = own_entry slot (contacts_in s) b.contacts.items number c e is.rising is.are at there (not_left (number_of e) (key_number c.key) out) in
      ap not (of_has slot e (subst (λ (x : NumberedContact). IsOf slot x.key) (sym one) own)))
      ∙ is.left;
  are = subst (λ (l : List ContactEntry). AreNumbered l d.contacts.items) (sym over.contacts) (left_numbered slot (contacts_in s) b d number c is.rising is.are at ended);
  kept = λ y f there. is.kept y f (ended_kept number b d y f ended there);
  gone = λ y. (
    λ h. elim (Contains-push_cases (gone_of b) number y (subst (λ (l : List ℕ). Contains l y) ended.gone h)) [
      | inl there ↦ let was_gone : (is_some (contact_at numbered y) ≡ true) × (contact_at b.contacts.items y ≡ None) = (is.gone y).0 there in (was_gone.0, none_still y was_gone.1)
      | inr same ↦ (ap (λ (k : ℕ). is_some (contact_at numbered k)) (sym same) ∙ ap is_some (is.kept number c at), ap (λ (k : ℕ). contact_at d.contacts.items k) (sym same) ∙ ended_here number b d ended)
    ],
    λ h. subst (λ (l : List ℕ). Contains l y) (sym ended.gone) (elim (cases_eq y number) [
      | inl same ↦ subst (λ (k : ℕ). Contains (gone_of b ++ number ∷ []) k) (sym same) (Contains-push (gone_of b) number)
      | inr off ↦ Contains-append_left (gone_of b) (number ∷ []) y ((is.gone y).1 (h.0, sym (ended_other number b d y ended off) ∙ h.1))
    ]),
  );
  made = ended.made ∙ is.made;
}
  where
    none_still : (y : ℕ) → contact_at b.contacts.items y ≡ None → contact_at d.contacts.items y ≡ None
    none_still y none = elim (cases_eq y number) [
      | inl same ↦ ap (λ (k : ℕ). contact_at d.contacts.items k) same ∙ ended_here number b d ended
      | inr off ↦ ended_other number b d y ended off ∙ none
    ]

-- ---- the first number of a thread, until there is none

-- its contact
pub record IsOnSide (side : Side) (slot : ℕ) (numbered : List (Option NumberedContact)) (number : ℕ) : Type 0 where
  pub contact : NumberedContact
  pub at : contact_at numbered number ≡ Some contact
  pub key : number_key_at numbered number ≡ Some contact.key
  pub own : IsOf slot contact.key

pub first_on : (side : Side) (slot : ℕ) (b : NumberBook) (number : ℕ) → IsBook b → slice_get (list_at (ends_on side b.ends).sets slot) 0 ≡ Some number → IsOnSide side slot b.contacts.items number
first_on side slot b number is first =
    by_contact (contact_at b.contacts.items number) refl ((is.ends side slot number).0 (member_at (list_at (ends_on side b.ends).sets slot) 0 number first))
  where
    by_contact : (o : Option NumberedContact) → contact_at b.contacts.items number ≡ o → option_map (slot_on side) (key_of (contact_at b.contacts.items number)) ≡ Some slot → IsOnSide side slot b.contacts.items number
    by_contact None at on = absurd (none-some slot (sym (ap (λ (o : Option NumberedContact). option_map (slot_on side) (key_of o)) at) ∙ on))
    by_contact (Some c) at on = record {
      contact = c;
      at = at;
      key = ap key_of at;
      own = (side, same_Some (slot_on side c.key) slot (sym (ap (λ (o : Option NumberedContact). option_map (slot_on side) (key_of o)) at) ∙ on));
    }

none_first : (xs : List ℕ) (y : ℕ) → slice_get xs 0 ≡ None → Contains xs y → ⊥
none_first [] y none h = none_in y h
none_first (x ∷ xs) y none h = none-some x (sym none)

pub none_on : (side : Side) (slot : ℕ) (b : NumberBook) → IsBook b → slice_get (list_at (ends_on side b.ends).sets slot) 0 ≡ None → (number : ℕ) → slot_at side b.contacts.items number ≢ Some slot
none_on side slot b is none number on = none_first (list_at (ends_on side b.ends).sets slot) number none ((is.ends side slot number).1 on)

-- each time there is one less
pub one_less : (number : ℕ) (b d : NumberBook) → HasEnded number b d → IsBook d → length d.contacts.items - length (gone_of d) < length b.contacts.items - length (gone_of b)
one_less number b d ended is =
    let long : length d.contacts.items ≡ length b.contacts.items = ap (λ (l : List (Option NumberedContact)). length l) ended.contacts ∙ length-set b.contacts.items number None in
    let more : length (gone_of d) ≡ length (gone_of b) + 1 = ap (λ (l : List ℕ). length l) ended.gone ∙ length-append (gone_of b) (number ∷ []) in
    let short : length d.free.items ≤ length d.contacts.items = free_short d.contacts.items d.free.items is.free in
    let part : length (gone_of d) ≡ length d.free.items - d.ended = length-drop d.ended d.free.items in
    omega (arith, long, more, short, part)

-- ---- before one has gone

none_is : (o : Option NumberedContact) → o ≡ None → is_some o ≡ true → ⊥
none_is None h some = true≢false (sym some)
none_is (Some c) h some = none-some c (sym h)

pub dropping_begins : (slot : ℕ) (s : Split) (numbered : List (Option NumberedContact)) (b : NumberBook) → AreKeysRising (contacts_in s) → AreNumbered (contacts_in s) numbered → b.contacts.items ≡ numbered → b.made.items ≡ [] → gone_of b ≡ [] → IsDropping slot s numbered s b
dropping_begins slot s numbered b rising are same made gone = record {
  keys = record { keys = refl; over = λ p on. on };
  rising = rising;
  left = refl;
  are = subst (AreNumbered (contacts_in s)) (sym same) are;
  kept = λ y c at. subst (λ (l : List (Option NumberedContact)). contact_at l y ≡ Some c) same at;
  gone = λ y. (
    λ h. absurd (none_in y (subst (λ (l : List ℕ). Contains l y) gone h)),
    λ h. absurd (none_is (contact_at numbered y) (ap (λ (l : List (Option NumberedContact)). contact_at l y) (sym same) ∙ h.1) h.0),
  );
  made = made;
}

-- ---- once all have gone

-- no contact with a number has the body
abbrev pub IsGone : ℕ → NumberBook → Type 0
IsGone slot b = (side : Side) (number : ℕ) → slot_at side b.contacts.items number ≢ Some slot

not_own : (slot : ℕ) (b : NumberBook) (number : ℕ) (c : NumberedContact) → IsGone slot b → contact_at b.contacts.items number ≡ Some c → IsOf slot c.key → ⊥
not_own slot b number c gone at own = gone own.0 number (ap (λ (o : Option NumberedContact). option_map (slot_on own.0) (key_of o)) at ∙ ap (λ (k : ℕ). Some k) own.1)

pub both_gone : (slot : ℕ) (b d : NumberBook) → ((number : ℕ) → slot_at First b.contacts.items number ≢ Some slot) → ((number : ℕ) → slot_at Second d.contacts.items number ≢ Some slot)
    → ((number : ℕ) (c : NumberedContact) → contact_at d.contacts.items number ≡ Some c → contact_at b.contacts.items number ≡ Some c) → IsGone slot d
both_gone slot b d first second fewer = by_side
  where
    by_contact : (number : ℕ) (o : Option NumberedContact) → contact_at d.contacts.items number ≡ o → slot_at First d.contacts.items number ≡ Some slot → ⊥
    by_contact number None at on = none-some slot (sym (ap (λ (o : Option NumberedContact). option_map (slot_on First) (key_of o)) at) ∙ on)
    by_contact number (Some c) at on = first number (ap (λ (o : Option NumberedContact). option_map (slot_on First) (key_of o)) (fewer number c at ∙ sym at) ∙ on)

    by_side : IsGone slot d
    by_side First number on = by_contact number (contact_at d.contacts.items number) refl on
    by_side Second number on = second number on

dropped_contacts : (slot : ℕ) (was now : Split) (numbered : List (Option NumberedContact)) (b : NumberBook) → IsDropping slot was numbered now b → IsGone slot b → contacts_in now ≡ contacts_without slot (contacts_in was)
dropped_contacts slot was now numbered b is gone = sym (filter_all (λ e. not (has_slot slot e)) (contacts_in now) (λ e there. not_its e (number_of_contact b.contacts.items (numbered_of e) (is.are.all e there)))) ∙ is.left
  where
    not_its : (e : ContactEntry) → (y : ℕ) × (contact_at b.contacts.items y ≡ Some (numbered_of e)) → not (has_slot slot e) ≡ true
    not_its e given = ap not (has_not slot e (not_own slot b given.0 (numbered_of e) gone given.1))

pub dropped_turnover : (slot : ℕ) (was now : Split) (numbered : List (Option NumberedContact)) (b : NumberBook) → AreKeysOnce numbered → IsDropping slot was numbered now b → IsTurnover numbered b.contacts.items b.made.items (gone_of b)
dropped_turnover slot was now numbered b once is = record {
  stay = λ y not_added not_removed. by_contacts y not_removed (contact_at numbered y) refl (contact_at b.contacts.items y) refl;
  fresh = λ y h. absurd (none_in y (subst (λ (l : List ℕ). Contains l y) is.made h));
  made = λ y h. absurd (none_in y (subst (λ (l : List ℕ). Contains l y) is.made h));
  there = λ y h. ((is.gone y).0 h).0;
  gone = λ y h. ((is.gone y).0 h).1;
  same = λ x y key at now. let c : IsKeyed b.contacts.items y key = keyed b.contacts.items y key now in once x y key at (key_at numbered y c.contact (is.kept y c.contact c.at) ∙ ap Some c.has);
}
  where
    by_contacts : (y : ℕ) → (Contains (gone_of b) y → ⊥) → (o : Option NumberedContact) → contact_at numbered y ≡ o → (n : Option NumberedContact) → contact_at b.contacts.items y ≡ n → number_key_at b.contacts.items y ≡ number_key_at numbered y
    by_contacts y not_removed o old (Some c) new = ap key_of (new ∙ sym (is.kept y c new))
    by_contacts y not_removed None old None new = ap key_of (new ∙ sym old)
    by_contacts y not_removed (Some c) old None new = absurd (not_removed ((is.gone y).1 (ap is_some old, new)))

-- ---- all of it

pub record IsDropped (slot : ℕ) (was : Split) (numbered : List (Option NumberedContact)) (now : Split) (b : NumberBook) : Type 0 where
  pub contacts : contacts_in now ≡ contacts_without slot (contacts_in was)
  pub are : AreNumbered (contacts_in now) b.contacts.items
  pub turnover : IsTurnover numbered b.contacts.items b.made.items (gone_of b)
  pub none : b.made.items ≡ []
  pub keys : HaveKeys was now

-- from the first contact on
pub all_dropped : (slot : ℕ) (was mid now : Split) (old begun first last : NumberBook) → AreKeysRising (contacts_in was) → AreNumbered (contacts_in was) old.contacts.items → begun.contacts.items ≡ old.contacts.items → begun.made.items ≡ [] → gone_of begun ≡ []
    → (IsDropping slot was old.contacts.items was begun → IsDropping slot was old.contacts.items mid first) → ((number : ℕ) → slot_at First first.contacts.items number ≢ Some slot)
    → (IsDropping slot was old.contacts.items mid first → IsDropping slot was old.contacts.items now last) → ((number : ℕ) (c : NumberedContact) → contact_at last.contacts.items number ≡ Some c → contact_at first.contacts.items number ≡ Some c)
    → ((number : ℕ) → slot_at Second last.contacts.items number ≢ Some slot) → IsDropped slot was old.contacts.items now last
all_dropped slot was mid now old begun first last rising are same made gone one none two fewer also =
    let is : IsDropping slot was old.contacts.items now last = two (one (dropping_begins slot was old.contacts.items begun rising are same made gone)) in
    record {
      contacts = dropped_contacts slot was now old.contacts.items last is (both_gone slot first last none also fewer);
      are = is.are;
      turnover = dropped_turnover slot was now old.contacts.items last are.once is;
      none = is.made;
      keys = is.keys;
    }
