-- A change of the contacts, carried out on their numbers part by part.
use Rattle.std.proofs.Common.{◌≡◌, ◌≢◌, ℕ, zero, suc, Bool, true, false, List, [], ◌∷◌, map, Option, Some, None, refl, ap, sym, subst, ◌∙◌, inl, inr, true≢false}
use Rattle.std.specs.Prelude.{slice_get}
use Rattle.std.specs.Option.{is_some}
use Rattle.std.specs.List.{Contains}
use Rattle.std.proofs.lemmas.Bool.{cases_eq}
use Rattle.std.proofs.lemmas.Option.{none-some, same_Some}
use Rattle.packed_sets.proofs.ItemLaws.{head_in, tail_in}
use Rattle.packed_sets.proofs.ListLaws.{member_at, place_of}
use Rattle.contacts_base.specs.declared.contact.ContactEntry.{ContactEntry}
use Rattle.contacts_base.specs.declared.key.ContactKey.{ContactKey}
use Rattle.contacts_base.specs.ContactLists.{AreContacts}
use Rattle.contacts_base.specs.Contacts.{AreKeysRising, number_of}
use Rattle.contacts_base.specs.Evaluate.{touches}
use Rattle.contacts_base.specs.Keys.{key_number}
use Rattle.contacts_base.proofs.EndedLaws.{other_number}
use Rattle.contacts.specs.declared.number_book.NumberedContact.{NumberedContact}
use Rattle.contacts.specs.Numbered.{AreKeysOnce, AreNumbered, IsTurnover, contact_at, number_key_at, numbered_of}
use Rattle.contacts.specs.NumberChanges.{HaveGone, HaveMade, HaveTouched, IsChange}
use Rattle.contacts.proofs.NumberPartLaws.{IsKeyed, cases_contact, cases_named, contact_in, gone_nothing, key_at, keyed, made_nothing, no_key_at, not_both, number_of_contact, some_at, touched_nothing}

-- ---- contacts and what their numbers tell of them

pub in_map : {X Y : Type 0} (f : X → Y) (xs : List X) (x : X) → Contains xs x → Contains (map f xs) (f x)
in_map {X} {Y} f xs x h = let at : (k : ℕ) × (slice_get xs k ≡ Some x) = place_of xs x h in member_at (map f xs) at.0 (f x) (by xs at.0 at.1)
  where
    by : (ys : List X) (k : ℕ) → slice_get ys k ≡ Some x → slice_get (map f ys) k ≡ Some (f x)
    by [] k e = absurd (none-some x e)
    by (y ∷ ys) zero e = ap (λ (z : X). Some (f z)) (same_Some y x e)
    by (y ∷ ys) (suc k) e = by ys k e

-- what a member of the images is the image of
pub record IsImage {X Y : Type 0} (f : X → Y) (xs : List X) (y : Y) : Type 0 where
  pub of : X
  pub there : Contains xs of
  pub is : f of ≡ y

pub from_map : {X Y : Type 0} (f : X → Y) (xs : List X) (y : Y) → Contains (map f xs) y → IsImage f xs y
from_map {X} {Y} f xs y h = let at : (k : ℕ) × (slice_get (map f xs) k ≡ Some y) = place_of (map f xs) y h in by xs at.0 at.1
  where
    by : (zs : List X) (k : ℕ) → slice_get (map f zs) k ≡ Some y → IsImage f zs y
    by [] k e = absurd (none-some y e)
    by (z ∷ zs) zero e = record { of = z; there = head_in z zs; is = same_Some (f z) y e }
    by (z ∷ zs) (suc k) e = let rest : IsImage f zs y = by zs k e in record { of = rest.of; there = tail_in z zs rest.of rest.there; is = rest.is }

-- no two contacts have one number
pub one_entry : (es : List ContactEntry) (e f : ContactEntry) → AreKeysRising es → Contains es e → Contains es f → number_of f ≡ number_of e → e ≡ f
one_entry es e f rising one other same =
    let p : (k : ℕ) × (slice_get es k ≡ Some e) = place_of es e one in
    let q : (k : ℕ) × (slice_get es k ≡ Some f) = place_of es f other in
    elim (cases_eq q.0 p.0) [
      | inl at ↦ same_Some e f (sym p.1 ∙ ap (λ (k : ℕ). slice_get es k) (sym at) ∙ q.1)
      | inr off ↦ absurd (other_number es p.0 q.0 e f rising p.1 q.1 off same)
    ]

-- and none one key
pub same_entry : (es : List ContactEntry) (e f : ContactEntry) → AreContacts es → Contains es e → Contains es f → f.key ≡ e.key → e ≡ f
same_entry es e f are one other same = one_entry es e f are.rising one other (ap key_number same)

-- ---- where nothing changes

-- the numbers of contacts are those of others of which they tell the same
pub numbered_alike : (old new : List ContactEntry) (numbered : List (Option NumberedContact)) → map numbered_of new ≡ map numbered_of old → AreNumbered old numbered → AreNumbered new numbered
numbered_alike old new numbered same are = record {
  all = λ f h.
      let was : IsImage numbered_of old (numbered_of f) = from_map numbered_of old (numbered_of f) (subst (λ (l : List NumberedContact). Contains l (numbered_of f)) same (in_map numbered_of new f h)) in
      subst (λ (c : NumberedContact). Contains numbered (Some c)) was.is (are.all was.of was.there);
  only = λ number c at. subst (λ (l : List NumberedContact). Contains l c) (sym same) (are.only number c at);
  once = are.once;
}

-- ---- what is made has no number yet

-- the contact that has a number
record IsOf (contacts : List ContactEntry) (c : NumberedContact) : Type 0 where
  entry : ContactEntry
  there : Contains contacts entry
  has : entry.key ≡ c.key
  is : numbered_of entry ≡ c

entry_of : (contacts : List ContactEntry) (numbered : List (Option NumberedContact)) (number : ℕ) (c : NumberedContact) → AreNumbered contacts numbered → contact_at numbered number ≡ Some c → IsOf contacts c
entry_of contacts numbered number c are at =
    let image : IsImage numbered_of contacts c = from_map numbered_of contacts c (are.only number c at) in
    record { entry = image.of; there = image.there; has = ap (λ (x : NumberedContact). x.key) image.is; is = image.is }

pub made_absent : (old new : List ContactEntry) (made : List NumberedContact) (gone begin end : List ContactKey) (numbered : List (Option NumberedContact)) → AreNumbered old numbered → IsChange old new made gone begin end → (c : NumberedContact) → Contains made c → (number : ℕ) → number_key_at numbered number ≢ Some c.key
made_absent old new made gone begin end numbered are change c h number e =
    let is : IsKeyed numbered number c.key = keyed numbered number c.key e in
    let of : IsOf old is.contact = entry_of old numbered number is.contact are is.at in
    change.fresh c of.entry h of.there (of.has ∙ is.has)

-- keys that no contact has stay so while contacts begin and end to touch
pub touched_absent : (keys : List ContactKey) (touching : Bool) (old new : List (Option NumberedContact)) (key : ContactKey) → HaveTouched keys touching old new → ((number : ℕ) → number_key_at old number ≢ Some key) → (number : ℕ) → number_key_at new number ≢ Some key
touched_absent keys touching old new key touched absent number e = absent number (sym (touched.keys number) ∙ e)

-- ---- the parts of a change

-- contacts begin and end to touch, some are made, and some go
pub record AreParts (begin end gone : List ContactKey) (made : List NumberedContact) (n0 n1 n2 n3 n4 : List (Option NumberedContact)) (added removed : List ℕ) : Type 0 where
  pub begun : HaveTouched begin true n0 n1
  pub ended : HaveTouched end false n1 n2
  pub adds : HaveMade made n2 n3 added
  pub removes : HaveGone gone n3 n4 removed
  pub once : AreKeysOnce n4

-- the parts as the code does them, told of the lists that it was given
pub parts_done : (begin end gone : List ContactKey) (made : List NumberedContact) (n0 n1 n2 n3 n4 : List (Option NumberedContact)) (added removed : List ℕ) (begin_as end_as gone_as : List ContactKey) (made_as : List NumberedContact) (n0_as : List (Option NumberedContact)) (added_as : List ℕ)
    → begin_as ≡ begin → end_as ≡ end → gone_as ≡ gone → made_as ≡ made → n0_as ≡ n0 → added ≡ added_as → HaveTouched begin_as true n0_as n1 → HaveTouched end_as false n1 n2 → HaveMade made_as n2 n3 added_as → HaveGone gone_as n3 n4 removed → AreKeysOnce n4
    → AreParts begin end gone made n0 n1 n2 n3 n4 added removed
parts_done begin end gone made n0 n1 n2 n3 n4 added removed begin_as end_as gone_as made_as n0_as added_as begin_is end_is gone_is made_is n0_is added_is begun ended adds removes once = record {
  begun = subst (λ (l : List ContactKey). HaveTouched l true n0 n1) begin_is (subst (λ (n : List (Option NumberedContact)). HaveTouched begin_as true n n1) n0_is begun);
  ended = subst (λ (l : List ContactKey). HaveTouched l false n1 n2) end_is ended;
  adds = subst (λ (l : List NumberedContact). HaveMade l n2 n3 added) made_is (subst (λ (ns : List ℕ). HaveMade made_as n2 n3 ns) (sym added_is) adds);
  removes = subst (λ (l : List ContactKey). HaveGone l n3 n4 removed) gone_is removes;
  once = once;
}

pub nothing_done : (begin end gone : List ContactKey) (made : List NumberedContact) (numbered : List (Option NumberedContact)) → begin ≡ [] → end ≡ [] → gone ≡ [] → made ≡ [] → AreKeysOnce numbered → AreParts begin end gone made numbered numbered numbered numbered numbered [] []
nothing_done begin end gone made numbered no_begin no_end no_gone no_made once = record {
  begun = subst (λ (l : List ContactKey). HaveTouched l true numbered numbered) (sym no_begin) (touched_nothing true numbered);
  ended = subst (λ (l : List ContactKey). HaveTouched l false numbered numbered) (sym no_end) (touched_nothing false numbered);
  adds = subst (λ (l : List NumberedContact). HaveMade l numbered numbered []) (sym no_made) (made_nothing numbered);
  removes = subst (λ (l : List ContactKey). HaveGone l numbered numbered []) (sym no_gone) (gone_nothing numbered);
  once = once;
}

no_contact_at : (numbered : List (Option NumberedContact)) (number : ℕ) → number_key_at numbered number ≡ None → contact_at numbered number ≡ None
no_contact_at numbered number e = elim (cases_contact (contact_at numbered number)) [
  | inl none ↦ none
  | inr some ↦ absurd (none-some some.0.key (sym e ∙ key_at numbered number some.0 some.1))
]

-- the key of a number stays while contacts begin and end to touch
both_keys : (begin end : List ContactKey) (n0 n1 n2 : List (Option NumberedContact)) (number : ℕ) → HaveTouched begin true n0 n1 → HaveTouched end false n1 n2 → number_key_at n2 number ≡ number_key_at n0 number
both_keys begin end n0 n1 n2 number one other = other.keys number ∙ one.keys number

-- a contact goes on, if its key isn't one of those that go
goes_on : (gone : List ContactKey) (n3 n4 : List (Option NumberedContact)) (removed : List ℕ) (number : ℕ) (c : NumberedContact) → HaveGone gone n3 n4 removed → contact_at n4 number ≡ Some c → (contact_at n3 number ≡ Some c) × (Contains gone c.key → ⊥)
goes_on gone n3 n4 removed number c removes at = elim (cases_contact (contact_at n3 number)) [
  | inl none ↦ absurd (none-some c (sym (removes.none number none) ∙ at))
  | inr some ↦ elim (cases_named gone some.0.key) [
    | inl named ↦ absurd (none-some c (sym (removes.over number some.0 some.1 named) ∙ at))
    | inr not_named ↦
        let same : some.0 ≡ c = same_Some some.0 c (sym (removes.others number some.0 some.1 not_named) ∙ at) in
        (some.1 ∙ ap (λ (x : NumberedContact). Some x) same, λ h. not_named (subst (λ (x : NumberedContact). Contains gone x.key) (sym same) h))
  ]
]

-- whether a contact that was there touches
touching_now : (old new : List ContactEntry) (made : List NumberedContact) (gone begin end : List ContactKey) (n0 n1 n2 : List (Option NumberedContact)) (number : ℕ) (e f : ContactEntry) (was now : Bool) → touches e.contact ≡ was → touches f.contact ≡ now
    → IsChange old new made gone begin end → HaveTouched begin true n0 n1 → HaveTouched end false n1 n2 → Contains old e → Contains new f → f.key ≡ e.key → contact_at n0 number ≡ Some (numbered_of e) → contact_at n2 number ≡ Some (numbered_of f)
touching_now old new made gone begin end n0 n1 n2 number e f was now e_is f_is change one other old_e new_f same at = by was now e_is f_is
  where
    key0 : number_key_at n0 number ≡ Some e.key
    key0 = key_at n0 number (numbered_of e) at

    key1 : IsKeyed n1 number e.key
    key1 = keyed n1 number e.key (one.keys number ∙ key0)

    key2 : IsKeyed n2 number e.key
    key2 = keyed n2 number e.key (other.keys number ∙ one.keys number ∙ key0)

    begins : Contains begin e.key → key1.contact.touching ≡ true
    begins h = one.done number key1.contact key1.at (subst (λ (k : ContactKey). Contains begin k) (sym key1.has) h)

    begins_not : (Contains begin e.key → ⊥) → key1.contact.touching ≡ touches e.contact
    begins_not h = ap (λ (x : NumberedContact). x.touching) (same_Some key1.contact (numbered_of e) (sym key1.at ∙ one.others number (numbered_of e) at h))

    ends : Contains end e.key → key2.contact.touching ≡ false
    ends h = other.done number key2.contact key2.at (subst (λ (k : ContactKey). Contains end k) (sym key2.has) h)

    ends_not : (Contains end e.key → ⊥) → key2.contact.touching ≡ key1.contact.touching
    ends_not h = ap (λ (x : NumberedContact). x.touching) (same_Some key2.contact key1.contact (sym key2.at ∙ other.others number key1.contact key1.at (λ k. h (subst (λ (x : ContactKey). Contains end x) key1.has k))))

    is : key2.contact.touching ≡ touches f.contact → contact_at n2 number ≡ Some (numbered_of f)
    is t = key2.at ∙ (λ i. Some (record { key = (key2.has ∙ sym same) i; touching = t i }))

    by : (was now : Bool) → touches e.contact ≡ was → touches f.contact ≡ now → contact_at n2 number ≡ Some (numbered_of f)
    by true true e_is f_is = is (ends_not (λ h. true≢false (sym f_is ∙ (change.ended e f old_e new_f same h).0)) ∙ begins_not (λ h. true≢false (sym e_is ∙ (change.begun e f old_e new_f same h).1)) ∙ e_is ∙ sym f_is)
    by false true e_is f_is = is (ends_not (λ h. true≢false (sym f_is ∙ (change.ended e f old_e new_f same h).0)) ∙ begins (change.begins e f old_e new_f same f_is e_is) ∙ sym f_is)
    by true false e_is f_is = is (ends (change.ends e f old_e new_f same f_is e_is) ∙ sym f_is)
    by false false e_is f_is = is (ends_not (λ h. true≢false (sym (change.ended e f old_e new_f same h).1 ∙ e_is)) ∙ begins_not (λ h. true≢false (sym (change.begun e f old_e new_f same h).0 ∙ f_is)) ∙ e_is ∙ sym f_is)

-- ---- all numbers once a change is carried out

-- a contact of those that are there then has a number
record IsNumbered (numbered : List (Option NumberedContact)) (c : NumberedContact) : Type 0 where
  number : ℕ
  at : contact_at numbered number ≡ Some c

has_number : (old new : List ContactEntry) (made : List NumberedContact) (gone begin end : List ContactKey) (n0 n1 n2 n3 n4 : List (Option NumberedContact)) (added removed : List ℕ) (f : ContactEntry)
    → AreNumbered old n0 → IsChange old new made gone begin end → AreParts begin end gone made n0 n1 n2 n3 n4 added removed → Contains new f → IsNumbered n4 (numbered_of f)
has_number old new made gone begin end n0 n1 n2 n3 n4 added removed f are change parts there = elim (change.all f there) [
  | inl new_one ↦
      let at : (number : ℕ) × (contact_at n3 number ≡ Some (numbered_of f)) = number_of_contact n3 (numbered_of f) (parts.adds.all (numbered_of f) new_one) in
      record { number = at.0; at = parts.removes.others at.0 (numbered_of f) at.1 (λ h. change.removed f there h) }
  | inr was ↦
      let at : (number : ℕ) × (contact_at n0 number ≡ Some (numbered_of was.entry)) = number_of_contact n0 (numbered_of was.entry) (are.all was.entry was.there) in
      let now : contact_at n2 at.0 ≡ Some (numbered_of f) = touching_now old new made gone begin end n0 n1 n2 at.0 was.entry f (touches was.entry.contact) (touches f.contact) refl refl change parts.begun parts.ended was.there there (sym was.has) at.1 in
      record { number = at.0; at = parts.removes.others at.0 (numbered_of f) (parts.adds.kept at.0 (numbered_of f) now) (λ h. change.removed f there h) }
]

pub change_numbered : (old new : List ContactEntry) (made : List NumberedContact) (gone begin end : List ContactKey) (n0 n1 n2 n3 n4 : List (Option NumberedContact)) (added removed : List ℕ)
    → AreNumbered old n0 → IsChange old new made gone begin end → AreParts begin end gone made n0 n1 n2 n3 n4 added removed → AreNumbered new n4
change_numbered old new made gone begin end n0 n1 n2 n3 n4 added removed are change parts = record {
  all = λ f there. let is : IsNumbered n4 (numbered_of f) = has_number old new made gone begin end n0 n1 n2 n3 n4 added removed f are change parts there in contact_in n4 is.number (numbered_of f) is.at;
  only = only;
  once = parts.once;
}
  where
    still : (number : ℕ) (c : NumberedContact) (e : ContactEntry) → contact_at n4 number ≡ Some c → (Contains gone c.key → ⊥) → Contains old e → e.key ≡ c.key → Contains (map numbered_of new) c
    still number c e at not_named there has = elim (change.stay e there) [
      | inl over ↦ absurd (not_named (subst (λ (k : ContactKey). Contains gone k) has over))
      | inr now ↦
          let is : IsNumbered n4 (numbered_of now.entry) = has_number old new made gone begin end n0 n1 n2 n3 n4 added removed now.entry are change parts now.there in
          let same : is.number ≡ number = parts.once is.number number c.key (key_at n4 is.number (numbered_of now.entry) is.at ∙ ap (λ (k : ContactKey). Some k) (now.has ∙ has)) (key_at n4 number c at) in
          let one : numbered_of now.entry ≡ c = same_Some (numbered_of now.entry) c (sym is.at ∙ ap (λ (k : ℕ). contact_at n4 k) same ∙ at) in
          subst (λ (x : NumberedContact). Contains (map numbered_of new) x) one (in_map numbered_of new now.entry now.there)
    ]

    only : (number : ℕ) (c : NumberedContact) → contact_at n4 number ≡ Some c → Contains (map numbered_of new) c
    only number c at =
        let back : (contact_at n3 number ≡ Some c) × (Contains gone c.key → ⊥) = goes_on gone n3 n4 removed number c parts.removes at in
        elim (cases_contact (contact_at n2 number)) [
          | inl none ↦ change.added c (parts.adds.only number c none back.0)
          | inr some ↦
              let same : some.0 ≡ c = same_Some some.0 c (sym (parts.adds.kept number some.0 some.1) ∙ back.0) in
              let was : IsKeyed n0 number some.0.key = keyed n0 number some.0.key (sym (both_keys begin end n0 n1 n2 number parts.begun parts.ended) ∙ key_at n2 number some.0 some.1) in
              let of : IsOf old was.contact = entry_of old n0 number was.contact are was.at in
              still number c of.entry at back.1 of.there (of.has ∙ was.has ∙ ap (λ (x : NumberedContact). x.key) same)
        ]

pub change_turnover : (old new : List ContactEntry) (made : List NumberedContact) (gone begin end : List ContactKey) (n0 n1 n2 n3 n4 : List (Option NumberedContact)) (added removed : List ℕ)
    → IsChange old new made gone begin end → AreParts begin end gone made n0 n1 n2 n3 n4 added removed → IsTurnover n0 n4 added removed
change_turnover old new made gone begin end n0 n1 n2 n3 n4 added removed change parts = record {
  stay = stay;
  fresh = λ number h. no_contact_at n0 number (sym (keys number) ∙ no_key_at n2 number ((parts.adds.made number).0 h).0);
  made = made_stays;
  there = λ number h. elim (cases_contact (contact_at n2 number)) [
    | inl none ↦
        let was = (parts.removes.gone number).0 h in
        absurd (not_both (contact_at n4 number) was.1 (made_stays number ((parts.adds.made number).1 (none, was.0))))
    | inr some ↦ let was : IsKeyed n0 number some.0.key = keyed n0 number some.0.key (sym (keys number) ∙ key_at n2 number some.0 some.1) in some_at n0 number was.contact was.at
  ];
  gone = λ number h. ((parts.removes.gone number).0 h).1;
  same = same;
}
  where
    keys : (number : ℕ) → number_key_at n2 number ≡ number_key_at n0 number
    keys number = both_keys begin end n0 n1 n2 number parts.begun parts.ended

    -- a key that is there in the end isn't among those that go
    left : (number : ℕ) (c : NumberedContact) → contact_at n4 number ≡ Some c → Contains gone c.key → ⊥
    left number c at went = elim (cases_contact (contact_at n3 number)) [
      | inl none ↦ not_both (contact_at n4 number) (parts.removes.none number none) (some_at n4 number c at)
      | inr some ↦ elim (cases_named gone some.0.key) [
        | inl named ↦ not_both (contact_at n4 number) (parts.removes.over number some.0 some.1 named) (some_at n4 number c at)
        | inr off ↦ off (subst (λ (x : NumberedContact). Contains gone x.key) (same_Some c some.0 (sym at ∙ parts.removes.others number some.0 some.1 off)) went)
      ]
    ]

    same : (a b : ℕ) (key : ContactKey) → number_key_at n0 a ≡ Some key → number_key_at n4 b ≡ Some key → a ≡ b
    same a b key was now =
        let before : IsKeyed n2 a key = keyed n2 a key (keys a ∙ was) in
        let after : IsKeyed n4 b key = keyed n4 b key now in
        let stays : contact_at n4 a ≡ Some before.contact = parts.removes.others a before.contact (parts.adds.kept a before.contact before.at) (λ went. left b after.contact after.at (subst (Contains gone) (before.has ∙ sym after.has) went)) in
        parts.once a b key (key_at n4 a before.contact stays ∙ ap Some before.has) now

    -- what is made doesn't go
    made_stays : (number : ℕ) → Contains added number → is_some (contact_at n4 number) ≡ true
    made_stays number h =
        let is = (parts.adds.made number).0 h in
        elim (cases_contact (contact_at n3 number)) [
          | inl none ↦ absurd (not_both (contact_at n3 number) none is.1)
          | inr some ↦
              let image : IsImage numbered_of new some.0 = from_map numbered_of new some.0 (change.added some.0 (parts.adds.only number some.0 is.0 some.1)) in
              some_at n4 number some.0 (parts.removes.others number some.0 some.1 (λ k. change.removed image.of image.there (subst (λ (x : NumberedContact). Contains gone x.key) (sym image.is) k)))
        ]

    stay : (number : ℕ) → (Contains added number → ⊥) → (Contains removed number → ⊥) → number_key_at n4 number ≡ number_key_at n0 number
    stay number not_added not_gone = elim (cases_contact (contact_at n2 number)) [
      | inl none ↦ elim (cases_contact (contact_at n3 number)) [
        | inl still ↦ no_key_at n4 number (parts.removes.none number still) ∙ sym (no_key_at n2 number none) ∙ keys number
        | inr some ↦ absurd (not_added ((parts.adds.made number).1 (none, some_at n3 number some.0 some.1)))
      ]
      | inr some ↦
          let kept : contact_at n3 number ≡ Some some.0 = parts.adds.kept number some.0 some.1 in
          elim (cases_named gone some.0.key) [
            | inl named ↦ absurd (not_gone ((parts.removes.gone number).1 (some_at n3 number some.0 kept, parts.removes.over number some.0 kept named)))
            | inr other ↦ key_at n4 number some.0 (parts.removes.others number some.0 kept other) ∙ sym (key_at n2 number some.0 some.1) ∙ keys number
          ]
    ]
