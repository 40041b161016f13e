-- What the parts of a change do to the numbers of contacts, one contact after the other.
use Rattle.std.proofs.Common.{◌≡◌, ◌≢◌, ◌⊎◌, ℕ, zero, suc, ◌+◌, ◌-◌, ◌<◌, ◌≤◌, Bool, true, List, [], ◌∷◌, ◌++◌, length, take, drop, map, slice_set, vec_capacity, get_or, Option, Some, None, refl, ap, sym, subst, ◌∙◌, arith, inl, inr, true≢false}
use Rattle.std.specs.Prelude.{slice_get, option_map}
use Rattle.std.specs.Option.{is_some}
use Rattle.std.specs.List.{Contains}
use Rattle.std.proofs.lemmas.Bool.{cases_eq, cases_lt}
use Rattle.std.proofs.lemmas.List.{drop_more, get_or_past, get_or-set_other, get_or-set_same, get_or-map, length-map, length-set}
use Rattle.std.proofs.lemmas.List.Elements.{All-cons, All-get_or, All-nil, Contains-append_left, Contains-push, Contains-push_cases}
use Rattle.std.proofs.lemmas.List.Kept.{AllPairs-from_increasing}
use Rattle.std.proofs.lemmas.Map.Made.{Contains-tail}
use Rattle.std.proofs.lemmas.Option.{none-some, same_Some, slice_get_within, slice_get-get_or, get_or_from_slice_get}
use Rattle.packed_sets.specs.Packs.{list_at}
use Rattle.packed_sets.proofs.ItemLaws.{head_in, none_in, tail_in}
use Rattle.packed_sets.proofs.ListLaws.{got_other, got_set, member_at, place_of}
use Rattle.contacts_base.specs.declared.key.ContactKey.{ContactKey}
use Rattle.contacts_base.specs.Keys.{key_number}
use Rattle.contacts.specs.declared.ends.ContactEnds.{ContactEnds}
use Rattle.contacts.specs.declared.ends.Side.{Side}
use Rattle.contacts.specs.declared.number_book.NumberBook.{NumberBook}
use Rattle.contacts.specs.declared.number_book.NumberedContact.{NumberedContact}
use Rattle.contacts_base.specs.ChangedKeys.{AreRising}
use Rattle.contacts.specs.Ends.{ends_on, slot_on}
use Rattle.contacts.specs.Numbered.{AreEndsAt, AreKeysOnce, contact_at, key_of, number_key_at, slot_at}
use Rattle.contacts.specs.NumberBooks.{AreFree, CanMake, HasMade, HasRoom, IsBook, bound_of}
use Rattle.contacts.specs.NumberChanges.{CanMakeAll, HaveGone, HaveMade, HaveTouched}
use Rattle.contacts.proofs.NumberBookLaws.{IsGiven, over_is, over_other}

-- ---- keys

-- two keys are the same, or they aren't
pub cases_key : (a b : ContactKey) → (a ≡ b) ⊎ (a ≢ b)
cases_key a b = elim (cases_eq a.first.slot b.first.slot) [
  | inr off ↦ inr (λ e. off (ap (λ (k : ContactKey). k.first.slot) e))
  | inl p ↦ elim (cases_eq a.first.index b.first.index) [
    | inr off ↦ inr (λ e. off (ap (λ (k : ContactKey). k.first.index) e))
    | inl q ↦ elim (cases_eq a.second.slot b.second.slot) [
      | inr off ↦ inr (λ e. off (ap (λ (k : ContactKey). k.second.slot) e))
      | inl r ↦ elim (cases_eq a.second.index b.second.index) [
        | inr off ↦ inr (λ e. off (ap (λ (k : ContactKey). k.second.index) e))
        | inl s ↦ inl (λ i. record { first = record { slot = p i; index = q i }; second = record { slot = r i; index = s i } })
      ]
    ]
  ]
]

pub named_cases : (key : ContactKey) (keys : List ContactKey) (k : ContactKey) → Contains (key ∷ keys) k → (k ≡ key) ⊎ Contains keys k
named_cases key keys k h = elim (cases_key k key) [
  | inl same ↦ inl same
  | inr other ↦ inr (Contains-tail key keys k (λ e. other (sym e)) h)
]

-- a key is one of these, or it isn't
pub cases_named : (keys : List ContactKey) (k : ContactKey) → Contains keys k ⊎ (Contains keys k → ⊥)
cases_named [] k = inr (λ h. none_in k h)
cases_named (key ∷ keys) k = elim (cases_key k key) [
  | inl same ↦ inl (subst (λ (x : ContactKey). Contains (key ∷ keys) x) (sym same) (head_in key keys))
  | inr other ↦ elim (cases_named keys k) [
    | inl there ↦ inl (tail_in key keys k there)
    | inr absent ↦ inr (λ h. absent (Contains-tail key keys k (λ e. other (sym e)) h))
  ]
]

-- ---- the contact with a number

-- there is none, or one
pub cases_contact : (o : Option NumberedContact) → (o ≡ None) ⊎ ((c : NumberedContact) × (o ≡ Some c))
cases_contact None = inl refl
cases_contact (Some c) = inr (c, refl)

pub key_at : (numbered : List (Option NumberedContact)) (number : ℕ) (c : NumberedContact) → contact_at numbered number ≡ Some c → number_key_at numbered number ≡ Some c.key
key_at numbered number c e = ap (λ (o : Option NumberedContact). key_of o) e

pub no_key_at : (numbered : List (Option NumberedContact)) (number : ℕ) → contact_at numbered number ≡ None → number_key_at numbered number ≡ None
no_key_at numbered number e = ap (λ (o : Option NumberedContact). key_of o) e

-- the contact that has a key
pub record IsKeyed (numbered : List (Option NumberedContact)) (number : ℕ) (key : ContactKey) : Type 0 where
  pub contact : NumberedContact
  pub at : contact_at numbered number ≡ Some contact
  pub has : contact.key ≡ key

pub keyed : (numbered : List (Option NumberedContact)) (number : ℕ) (key : ContactKey) → number_key_at numbered number ≡ Some key → IsKeyed numbered number key
keyed numbered number key e = elim (cases_contact (contact_at numbered number)) [
  | inl none ↦ absurd (none-some key (sym (no_key_at numbered number none) ∙ e))
  | inr one ↦ record { contact = one.0; at = one.1; has = same_Some one.0.key key (sym (key_at numbered number one.0 one.1) ∙ e) }
]

pub some_at : (numbered : List (Option NumberedContact)) (number : ℕ) (c : NumberedContact) → contact_at numbered number ≡ Some c → is_some (contact_at numbered number) ≡ true
some_at numbered number c e = ap (λ (o : Option NumberedContact). is_some o) e

pub keyed_some : (numbered : List (Option NumberedContact)) (number : ℕ) (key : ContactKey) → number_key_at numbered number ≡ Some key → is_some (contact_at numbered number) ≡ true
keyed_some numbered number key e = let is : IsKeyed numbered number key = keyed numbered number key e in some_at numbered number is.contact is.at

pub not_both : (o : Option NumberedContact) → o ≡ None → is_some o ≡ true → ⊥
not_both o none some = true≢false (sym some ∙ ap (λ (p : Option NumberedContact). is_some p) none)

-- a contact that is one of them has a number
pub number_of_contact : (numbered : List (Option NumberedContact)) (c : NumberedContact) → Contains numbered (Some c) → (number : ℕ) × (contact_at numbered number ≡ Some c)
number_of_contact numbered c h = let at : (k : ℕ) × (slice_get numbered k ≡ Some (Some c)) = place_of numbered (Some c) h in (at.0, get_or_from_slice_get numbered at.0 (Some c) None at.1)

pub contact_in : (numbered : List (Option NumberedContact)) (number : ℕ) (c : NumberedContact) → contact_at numbered number ≡ Some c → Contains numbered (Some c)
contact_in numbered number c e = elim (cases_lt number (length numbered)) [
  | inl lt ↦ member_at numbered number (Some c) (slice_get-get_or numbered number None lt ∙ ap (λ (o : Option NumberedContact). Some o) e)
  | inr le ↦ absurd (none-some c (sym (get_or_past numbered number None le) ∙ e))
]

-- ---- some begin or end to touch

pub touched_nothing : (touching : Bool) (numbered : List (Option NumberedContact)) → HaveTouched [] touching numbered numbered
touched_nothing touching numbered = record {
  keys = λ number. refl;
  done = λ number c at h. absurd (none_in c.key h);
  others = λ number c at h. at;
  long = refl;
}

-- the contact that has the key
pub touched_one : (key : ContactKey) (touching : Bool) (number : ℕ) (numbered : List (Option NumberedContact)) → number_key_at numbered number ≡ Some key → AreKeysOnce numbered → HaveTouched (key ∷ []) touching numbered (slice_set numbered number (Some (record { key = key; touching = touching })))
touched_one key touching number numbered has once =
    let c : NumberedContact = record { key = key; touching = touching } in
    let new : List (Option NumberedContact) = slice_set numbered number (Some c) in
    let is : IsKeyed numbered number key = keyed numbered number key has in
    let now : contact_at new number ≡ Some c = get_or-set_same numbered number (Some c) None (within is.contact is.at) in
    let still : (y : ℕ) → y ≢ number → contact_at new y ≡ contact_at numbered y = λ y off. get_or-set_other numbered number y (Some c) None off in
    record {
      keys = λ y. elim (cases_eq y number) [
        | inl same ↦ subst (λ (k : ℕ). number_key_at new k ≡ number_key_at numbered k) (sym same) (key_at new number c now ∙ sym has)
        | inr off ↦ ap (λ (o : Option NumberedContact). key_of o) (still y off)
      ];
      done = λ y d at h. elim (cases_eq y number) [
        | inl same ↦ ap (λ (x : NumberedContact). x.touching) (same_Some d c (sym at ∙ ap (λ (k : ℕ). contact_at new k) same ∙ now))
        | inr off ↦ elim (named_cases key [] d.key h) [
          | inl own ↦ absurd (off (once y number key (key_at numbered y d (sym (still y off) ∙ at) ∙ ap (λ (k : ContactKey). Some k) own) has))
          | inr none ↦ absurd (none_in d.key none)
        ]
      ];
      others = λ y d at h. elim (cases_eq y number) [
        | inl same ↦
            let own : d.key ≡ key = same_Some d.key key (sym (key_at numbered y d at) ∙ ap (λ (k : ℕ). number_key_at numbered k) same ∙ has) in
            absurd (h (subst (λ (k : ContactKey). Contains (key ∷ []) k) (sym own) (head_in key [])))
        | inr off ↦ still y off ∙ at
      ];
      long = length-set numbered number (Some c);
    }
  where
    within : (d : NumberedContact) → contact_at numbered number ≡ Some d → number < length numbered
    within d at = elim (cases_lt number (length numbered)) [
      | inl lt ↦ lt
      | inr le ↦ absurd (none-some d (sym (get_or_past numbered number None le) ∙ at))
    ]

-- one more
pub touched_more : (keys : List ContactKey) (key : ContactKey) (touching : Bool) (old mid new : List (Option NumberedContact)) → HaveTouched keys touching old mid → HaveTouched (key ∷ []) touching mid new → HaveTouched (key ∷ keys) touching old new
touched_more keys key touching old mid new before one = record {
  keys = λ number. one.keys number ∙ before.keys number;
  done = λ number c at h. elim (cases_key c.key key) [
    | inl same ↦ one.done number c at (subst (λ (k : ContactKey). Contains (key ∷ []) k) (sym same) (head_in key []))
    | inr off ↦ elim (named_cases key keys c.key h) [
      | inl same ↦ absurd (off same)
      | inr there ↦
          let was : IsKeyed mid number c.key = keyed mid number c.key (sym (one.keys number) ∙ key_at new number c at) in
          let kept : contact_at new number ≡ Some was.contact = one.others number was.contact was.at (λ k. elim (named_cases key [] was.contact.key k) [
            | inl own ↦ off (sym was.has ∙ own)
            | inr none ↦ none_in was.contact.key none
          ]) in
          let same : was.contact ≡ c = same_Some was.contact c (sym kept ∙ at) in
          before.done number c (was.at ∙ ap (λ (x : NumberedContact). Some x) same) there
    ]
  ];
  others = λ number c at h. one.others number c
      (before.others number c at (λ k. h (tail_in key keys c.key k)))
      (λ k. elim (named_cases key [] c.key k) [
        | inl own ↦ h (subst (λ (x : ContactKey). Contains (key ∷ keys) x) (sym own) (head_in key keys))
        | inr none ↦ none_in c.key none
      ]);
  long = one.long ∙ before.long;
}

-- the numbers that no contact has stay
pub marked_free : (numbered : List (Option NumberedContact)) (free : List ℕ) (number : ℕ) (c : NumberedContact) → is_some (contact_at numbered number) ≡ true → AreFree numbered free → AreFree (slice_set numbered number (Some c)) free
marked_free numbered free number c given is =
    let new : List (Option NumberedContact) = slice_set numbered number (Some c) in
    record {
      few = let long : length new ≡ length numbered = length-set numbered number (Some c) in omega (arith, long, is.few);
      once = is.once;
      are = λ y h. got_other numbered number y (Some c) (λ same. not_both (contact_at numbered number) (get_or_from_slice_get numbered number None None (is.are number (subst (λ (k : ℕ). Contains free k) same h))) given) ∙ is.are y h;
      all = λ y e. is.all y (sym (got_other numbered number y (Some c) (λ same.
          let there : slice_get new number ≡ Some None = subst (λ (k : ℕ). slice_get new k ≡ Some None) same e in
          let lt : number < length new = slice_get_within new number None there in
          let long : length new ≡ length numbered = length-set numbered number (Some c) in
          none-some c (sym (same_Some (Some c) None (sym (got_set numbered number (Some c) (omega (arith, lt, long))) ∙ there))))) ∙ e);
    }

-- what is kept where the keys of all numbers stay
pub same_keys_book : (old new : NumberBook) → ((number : ℕ) → number_key_at new.contacts.items number ≡ number_key_at old.contacts.items number) → length new.contacts.items ≡ length old.contacts.items → AreFree new.contacts.items new.free.items → new.ends ≡ old.ends
    → vec_capacity old.free ≤ vec_capacity new.free → new.ended ≤ length new.free.items → IsBook old → IsBook new
same_keys_book old new keys long free ends room ended is = record {
  free = free;
  room = omega (arith, long, room, is.room);
  ends = λ side slot. subst (λ (e : ContactEnds). AreEndsAt side new.contacts.items slot (list_at (ends_on side e).sets slot)) (sym ends) (λ number. (
    λ h. slot_same side number ∙ (is.ends side slot number).0 h,
    λ at. (is.ends side slot number).1 (sym (slot_same side number) ∙ at),
  ));
  once = λ a b key at also. is.once a b key (sym (keys a) ∙ at) (sym (keys b) ∙ also);
  ended = ended;
}
  where
    slot_same : (side : Side) (number : ℕ) → slot_at side new.contacts.items number ≡ slot_at side old.contacts.items number
    slot_same side number = ap (λ (o : Option ContactKey). option_map (slot_on side) o) (keys number)

-- ---- some are made

pub made_nothing : (numbered : List (Option NumberedContact)) → HaveMade [] numbered numbered []
made_nothing numbered = record {
  kept = λ number c at. at;
  all = λ c h. absurd (none_in c h);
  only = λ number c none at. absurd (none-some c (sym none ∙ at));
  made = λ number. (λ h. absurd (none_in number h), λ both. absurd (not_both (contact_at numbered number) both.0 both.1));
}

pub made_more : (cs : List NumberedContact) (c : NumberedContact) (number : ℕ) (old mid new : List (Option NumberedContact)) (numbers : List ℕ) → HaveMade cs old mid numbers → IsGiven c number mid new → HaveMade (cs ++ c ∷ []) old new (numbers ++ number ∷ [])
made_more cs c number old mid new numbers before one = record {
  kept = λ y d at. still y (Some d) (before.kept y d at) (λ e. none-some d (sym e));
  all = λ d h. elim (Contains-push_cases cs c d h) [
    | inl there ↦ let at : (y : ℕ) × (contact_at mid y ≡ Some d) = number_of_contact mid d (before.all d there) in contact_in new at.0 d (still at.0 (Some d) at.1 (λ e. none-some d (sym e)))
    | inr same ↦ contact_in new number d (one.now ∙ ap (λ (x : NumberedContact). Some x) same)
  ];
  only = λ y d none at. elim (cases_eq y number) [
    | inl same ↦
        let own : c ≡ d = same_Some c d (sym one.now ∙ ap (λ (k : ℕ). contact_at new k) (sym same) ∙ at) in
        subst (λ (x : NumberedContact). Contains (cs ++ c ∷ []) x) own (Contains-push cs c)
    | inr off ↦ Contains-append_left cs (c ∷ []) d (before.only y d none (sym (one.others y off) ∙ at))
  ];
  made = λ y. (
    λ h. elim (Contains-push_cases numbers number y h) [
      | inl there ↦ let was = (before.made y).0 there in (was.0, ap (λ (o : Option NumberedContact). is_some o) (one.others y (λ same. not_both (contact_at mid y) (ap (λ (k : ℕ). contact_at mid k) same ∙ one.was) was.1)) ∙ was.1)
      | inr same ↦ (ap (λ (k : ℕ). contact_at old k) (sym same) ∙ was_none, ap (λ (k : ℕ). is_some (contact_at new k)) (sym same) ∙ some_at new number c one.now)
    ],
    λ both. elim (cases_eq y number) [
      | inl same ↦ subst (λ (k : ℕ). Contains (numbers ++ number ∷ []) k) (sym same) (Contains-push numbers number)
      | inr off ↦ Contains-append_left numbers (number ∷ []) y ((before.made y).1 (both.0, ap (λ (o : Option NumberedContact). is_some o) (sym (one.others y off)) ∙ both.1))
    ],
  );
}
  where
    still : (y : ℕ) (o : Option NumberedContact) → contact_at mid y ≡ o → (o ≡ None → ⊥) → contact_at new y ≡ o
    still y o at some = one.others y (λ same. some (sym at ∙ ap (λ (k : ℕ). contact_at mid k) same ∙ one.was)) ∙ at

    was_none : contact_at old number ≡ None
    was_none = elim (cases_contact (contact_at old number)) [
      | inl none ↦ none
      | inr some ↦ absurd (none-some some.0 (sym one.was ∙ before.kept number some.0 some.1))
    ]

-- ---- some go

pub gone_nothing : (numbered : List (Option NumberedContact)) → HaveGone [] numbered numbered []
gone_nothing numbered = record {
  over = λ number c at h. absurd (none_in c.key h);
  others = λ number c at h. at;
  none = λ number none. none;
  long = refl;
  gone = λ number. (λ h. absurd (none_in number h), λ both. absurd (not_both (contact_at numbered number) both.1 both.0));
}

-- where no contact has the key
pub gone_none : (key : ContactKey) (keys : List ContactKey) (old new : List (Option NumberedContact)) (numbers : List ℕ) → HaveGone keys old new numbers → ((number : ℕ) → number_key_at new number ≢ Some key) → HaveGone (key ∷ keys) old new numbers
gone_none key keys old new numbers before absent = record {
  over = λ number c at h. elim (cases_named keys c.key) [
    | inl there ↦ before.over number c at there
    | inr other ↦ elim (named_cases key keys c.key h) [
      | inl same ↦ absurd (absent number (key_at new number c (before.others number c at other) ∙ ap (λ (k : ContactKey). Some k) same))
      | inr there ↦ before.over number c at there
    ]
  ];
  others = λ number c at h. before.others number c at (λ k. h (tail_in key keys c.key k));
  none = before.none;
  long = before.long;
  gone = before.gone;
}

-- where one has it
pub gone_more : (key : ContactKey) (keys : List ContactKey) (number : ℕ) (old mid : List (Option NumberedContact)) (numbers : List ℕ) → HaveGone keys old mid numbers → number_key_at mid number ≡ Some key → AreKeysOnce mid → HaveGone (key ∷ keys) old (slice_set mid number None) (numbers ++ number ∷ [])
gone_more key keys number old mid numbers before has once = record {
  over = λ y c at h. empty y (λ off. elim (cases_named keys c.key) [
    | inl there ↦ before.over y c at there
    | inr other ↦ elim (named_cases key keys c.key h) [
      | inl same ↦ absurd (off (once y number key (key_at mid y c (before.others y c at other) ∙ ap (λ (k : ContactKey). Some k) same) has))
      | inr there ↦ before.over y c at there
    ]
  ]);
  others = λ y c at h.
      let was : contact_at mid y ≡ Some c = before.others y c at (λ k. h (tail_in key keys c.key k)) in
      over_other mid number y (λ same.
      let own : c.key ≡ key = same_Some c.key key (sym (key_at mid y c was) ∙ ap (λ (k : ℕ). number_key_at mid k) same ∙ has) in
      h (subst (λ (k : ContactKey). Contains (key ∷ keys) k) (sym own) (head_in key keys))) ∙ was;
  none = λ y none. empty y (λ off. before.none y none);
  long = length-set mid number None ∙ before.long;
  gone = λ y. (
    λ h. elim (Contains-push_cases numbers number y h) [
      | inl there ↦ let was = (before.gone y).0 there in (was.0, empty y (λ off. was.1))
      | inr same ↦ (ap (λ (k : ℕ). is_some (contact_at old k)) (sym same) ∙ was_some, ap (λ (k : ℕ). contact_at (slice_set mid number None) k) (sym same) ∙ over_is mid number)
    ],
    λ both. elim (cases_eq y number) [
      | inl same ↦ subst (λ (k : ℕ). Contains (numbers ++ number ∷ []) k) (sym same) (Contains-push numbers number)
      | inr off ↦ Contains-append_left numbers (number ∷ []) y ((before.gone y).1 (both.0, sym (over_other mid number y off) ∙ both.1))
    ],
  );
}
  where
    empty : (y : ℕ) → (y ≢ number → contact_at mid y ≡ None) → contact_at (slice_set mid number None) y ≡ None
    empty y was = elim (cases_eq y number) [
      | inl same ↦ ap (λ (k : ℕ). contact_at (slice_set mid number None) k) same ∙ over_is mid number
      | inr off ↦ over_other mid number y off ∙ was off
    ]

    was_some : is_some (contact_at old number) ≡ true
    was_some = elim (cases_contact (contact_at old number)) [
      | inl none ↦ absurd (none-some key (sym (no_key_at mid number (before.none number none)) ∙ has))
      | inr some ↦ some_at old number some.0 some.1
    ]

-- ---- none of those that are still to be made has a number

keys_apart : (cs : List NumberedContact) (p q : ℕ) (a b : NumberedContact) → AreRising (map (λ c. c.key) cs) → slice_get cs p ≡ Some a → slice_get cs q ≡ Some b → p < q → a.key ≢ b.key
keys_apart cs p q a b rising first second lt e =
    let at_p : p < length cs = slice_get_within cs p a first in
    let at_q : q < length cs = slice_get_within cs q b second in
    let keys : List ContactKey = map (λ (c : NumberedContact). c.key) cs in
    let long : length keys ≡ length cs = length-map cs (λ (c : NumberedContact). c.key) in
    let longer : length (map key_number keys) ≡ length keys = length-map keys key_number in
    let below : get_or (map key_number keys) p 0 < get_or (map key_number keys) q 0 = AllPairs-from_increasing (map key_number keys) rising p q 0 lt (omega (arith, at_q, long, longer)) in
    let one : get_or (map key_number keys) p 0 ≡ key_number a.key = number_at p a first at_p in
    let other : get_or (map key_number keys) q 0 ≡ key_number b.key = number_at q b second at_q in
    let same : key_number a.key ≡ key_number b.key = ap key_number e in
    omega (arith, below, one, other, same)
  where
    number_at : (k : ℕ) (c : NumberedContact) → slice_get cs k ≡ Some c → k < length cs → get_or (map key_number (map (λ (c : NumberedContact). c.key) cs)) k 0 ≡ key_number c.key
    number_at k c at k_lt =
        let keys : List ContactKey = map (λ (c : NumberedContact). c.key) cs in
        let long : length keys ≡ length cs = length-map cs (λ (c : NumberedContact). c.key) in
        get_or-map key_number keys k c.key 0 (omega (arith, k_lt, long))
        ∙ ap key_number (get_or-map (λ (c : NumberedContact). c.key) cs k c c.key k_lt ∙ ap (λ (x : NumberedContact). x.key) (get_or_from_slice_get cs k c c at))

taken_place : (cs : List NumberedContact) (n : ℕ) (c : NumberedContact) → Contains (take n cs) c → (k : ℕ) × ((k < n) × (slice_get cs k ≡ Some c))
taken_place cs n c h = let at : (k : ℕ) × (slice_get (take n cs) k ≡ Some c) = place_of (take n cs) c h in (at.0, by cs n at.0 at.1)
  where
    by : (cs : List NumberedContact) (n k : ℕ) → slice_get (take n cs) k ≡ Some c → (k < n) × (slice_get cs k ≡ Some c)
    by cs zero k e = absurd (none-some c e)
    by [] (suc n) k e = absurd (none-some c e)
    by (x ∷ cs) (suc n) zero e = (omega arith, e)
    by (x ∷ cs) (suc n) (suc k) e = let rest : (k < n) × (slice_get cs k ≡ Some c) = by cs n k e in (omega (arith, rest.0), rest.1)

pub absent_still : (cs : List NumberedContact) (place : ℕ) (c : NumberedContact) (old now : List (Option NumberedContact)) (numbers : List ℕ) → AreRising (map (λ c. c.key) cs) → ((d : NumberedContact) → Contains cs d → (number : ℕ) → number_key_at old number ≢ Some d.key) → slice_get cs place ≡ Some c
    → HaveMade (take place cs) old now numbers → (number : ℕ) → number_key_at now number ≢ Some c.key
absent_still cs place c old now numbers rising absent at made number e =
    let is : IsKeyed now number c.key = keyed now number c.key e in
    elim (cases_contact (contact_at old number)) [
      | inl none ↦
          let from : (k : ℕ) × ((k < place) × (slice_get cs k ≡ Some is.contact)) = taken_place cs place is.contact (made.only number is.contact none is.at) in
          keys_apart cs from.0 place is.contact c rising from.1.1 at from.1.0 is.has
      | inr some ↦
          let same : some.0 ≡ is.contact = same_Some some.0 is.contact (sym (made.kept number some.0 some.1) ∙ is.at) in
          absent c (member_at cs place c at) number (key_at old number some.0 some.1 ∙ ap (λ (k : ContactKey). Some k) (ap (λ (x : NumberedContact). x.key) same ∙ is.has))
    ]

-- ---- room

-- room for some is room for fewer
pub room_fewer : (b : NumberBook) (added fewer slots : ℕ) → fewer ≤ added → HasRoom added slots b → HasRoom fewer slots b
room_fewer b added fewer slots le r = record {
  bound = r.bound;
  few = r.few;
  within = r.within;
  left = omega (arith, r.left, le);
  contacts = r.contacts;
  free = r.free;
  noted = r.noted;
  there = r.there;
  made = omega (arith, r.made, le);
}

-- ---- the keys of a list, from the last to the first

pub drop_back : (keys : List ContactKey) (left less : ℕ) (d : ContactKey) → left ≡ less + 1 → less < length keys → drop less keys ≡ get_or keys less d ∷ drop left keys
drop_back keys left less d e lt = drop_more keys less d lt ∙ ap (λ (n : ℕ). get_or keys less d ∷ drop n keys) (sym e)

-- ---- one contact after the other is made

pub can_make : (cs : List NumberedContact) (place : ℕ) (d : NumberedContact) (old now : NumberBook) (numbers : List ℕ) → CanMakeAll cs old → place < length cs → HaveMade (take place cs) old.contacts.items now.contacts.items numbers
    → ((slots : ℕ) → HasRoom (length cs) slots old → HasRoom (length cs - place) slots now) → CanMake (get_or cs place d) now
can_make cs place d old now numbers can lt made room =
    let c : NumberedContact = get_or cs place d in
    record {
      room = record {
        slots = can.room.slots;
        below = λ side. All-cons (λ (x : NumberedContact). slot_on side x.key < can.room.slots) c [] (All-get_or (λ (x : NumberedContact). slot_on side x.key < can.room.slots) cs place d lt (can.room.below side)) (All-nil (λ (x : NumberedContact). slot_on side x.key < can.room.slots));
        room = room_fewer now (length cs - place) 1 can.room.slots (omega (arith, lt)) (room can.room.slots can.room.room);
      };
      absent = absent_still cs place c old.contacts.items now.contacts.items numbers can.rising can.absent (slice_get-get_or cs place d lt) made;
    }

pub made_on : (cs : List NumberedContact) (c : NumberedContact) (number : ℕ) (old : List (Option NumberedContact)) (mid new : NumberBook) → HaveMade cs old mid.contacts.items mid.made.items → HasMade c number mid new → HaveMade (cs ++ c ∷ []) old new.contacts.items new.made.items
made_on cs c number old mid new before is =
    subst (λ (numbers : List ℕ). HaveMade (cs ++ c ∷ []) old new.contacts.items numbers) (sym is.made)
    (made_more cs c number old mid.contacts.items new.contacts.items mid.made.items before (record { was = is.was; now = is.now; others = is.others }))

pub bound_on : (c : NumberedContact) (number n p : ℕ) (old mid new : NumberBook) → HasMade c number mid new → p < n → bound_of mid (n - p) ≤ bound_of old n → bound_of new (n - (p + 1)) ≤ bound_of old n
bound_on c number n p old mid new is lt before =
    let same : (n - (p + 1)) + 1 ≡ n - p = omega (arith, lt) in
    let step : bound_of new (n - (p + 1)) ≤ bound_of mid (n - p) = subst (λ (k : ℕ). bound_of new (n - (p + 1)) ≤ bound_of mid k) same (is.bound (n - (p + 1))) in
    omega (arith, step, before)

pub room_on : (c : NumberedContact) (number n p slots : ℕ) (mid new : NumberBook) → HasMade c number mid new → p < n → HasRoom (n - p) slots mid → HasRoom (n - (p + 1)) slots new
room_on c number n p slots mid new is lt before =
    let same : n - p ≡ (n - (p + 1)) + 1 = omega (arith, lt) in
    is.room (n - (p + 1)) slots (subst (λ (k : ℕ). HasRoom k slots mid) same before)
