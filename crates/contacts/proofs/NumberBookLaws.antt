-- Numbers that are given and let go.
use Rattle.std.proofs.Common.{◌≡◌, ◌≢◌, ℕ, ◌+◌, ◌<◌, ◌≤◌, List, [], ◌∷◌, ◌++◌, length, slice_set, vec_capacity, Option, Some, None, true, zero, refl, ap, sym, subst, ◌∙◌, arith, inl, inr, true≢false}
use Rattle.std.specs.Prelude.{slice_get, option_map}
use Rattle.std.specs.Option.{is_some}
use Rattle.std.specs.List.{Contains}
use Rattle.std.proofs.lemmas.Bool.{cases_eq, cases_lt}
use Rattle.std.proofs.lemmas.List.{append-nil, drop_all, get_or_past, get_or-set_other, get_or-set_same, length-append, length-set}
use Rattle.std.proofs.lemmas.List.Elements.{All-head, Contains-append_left, Contains-push, Contains-push_cases}
use Rattle.std.proofs.lemmas.Option.{none-some, same_Some, slice_get_within, get_or_from_slice_get}
use Rattle.packed_sets.specs.Packs.{IsAbsent, IsPut, IsTaken, list_at}
use Rattle.packed_sets.specs.Once.{AreOnce}
use Rattle.packed_sets.proofs.ItemLaws.{in_cases, left_out, none_in, tail_in, IsLeftOut}
use Rattle.packed_sets.proofs.ListLaws.{got_other, got_set, more_cases}
use Rattle.packed_sets.proofs.LinkLaws.{once_short}
use Rattle.contacts_base.specs.declared.key.ContactKey.{ContactKey}
use Rattle.contacts.specs.declared.ends.ContactEnds.{ContactEnds}
use Rattle.contacts.specs.declared.ends.Side.{Side}
use Rattle.contacts.specs.declared.ends.Side.TheVariants.{First, Second}
use Rattle.contacts.specs.declared.number_book.NumberBook.{NumberBook}
use Rattle.contacts.specs.declared.number_book.NumberedContact.{NumberedContact}
use Rattle.contacts.specs.declared.number_book.TheConstants.{MAX_CONTACTS}
use Rattle.contacts.specs.Ends.{KeepEnds, ends_on, slot_on}
use Rattle.contacts.specs.Numbered.{AreEndsAt, AreKeysOnce, contact_at, key_of, number_key_at, slot_at}
use Rattle.contacts.specs.NumberBooks.{AreFree, HasMade, HasRoom, HasRoomFor, IsBook, KeepBook, bound_of}
use Rattle.contacts.proofs.EndLaws.{put_keeps, put_there, put_was, take_keeps, take_was}

-- ---- the contact with a number

pub contact_is : (numbered : List (Option NumberedContact)) (number : ℕ) (o : Option NumberedContact) → slice_get numbered number ≡ Some o → contact_at numbered number ≡ o
contact_is numbered number o e = get_or_from_slice_get numbered number o None e

-- a number that a contact has is one of them
pub given_within : (numbered : List (Option NumberedContact)) (number : ℕ) → is_some (contact_at numbered number) ≡ true → number < length numbered
given_within numbered number given = elim (cases_lt number (length numbered)) [
  | inl lt ↦ lt
  | inr le ↦ absurd (true≢false (sym given ∙ ap (λ (o : Option NumberedContact). is_some o) (get_or_past numbered number None le)))
]

pub not_free : (numbered : List (Option NumberedContact)) (free : List ℕ) (number : ℕ) → AreFree numbered free → is_some (contact_at numbered number) ≡ true → Contains free number → ⊥
not_free numbered free number is given h = true≢false (sym given ∙ ap (λ (o : Option NumberedContact). is_some o) (contact_is numbered number None (is.are number h)))

-- ---- one is given

-- the last of those that are free
pub last_taken : (numbered : List (Option NumberedContact)) (rest : List ℕ) (number : ℕ) (c : NumberedContact) → AreFree numbered (rest ++ number ∷ []) → AreFree (slice_set numbered number (Some c)) rest
last_taken numbered rest number c is =
    let out : IsLeftOut number (rest ++ []) = left_out number rest [] is.once in
    let whole : rest ++ [] ≡ rest = append-nil rest in
    let absent : Contains rest number → ⊥ = λ h. out.absent (subst (λ (l : List ℕ). Contains l number) (sym whole) h) in
    record {
      few = let long : length (slice_set numbered number (Some c)) ≡ length numbered = length-set numbered number (Some c) in omega (arith, long, is.few);
      once = subst AreOnce whole out.once;
      are = λ y h. got_other numbered number y (Some c) (λ e. absent (subst (λ (k : ℕ). Contains rest k) e h)) ∙ is.are y (Contains-append_left rest (number ∷ []) y h);
      all = λ y e. elim (cases_eq y number) [
        | inl same ↦
            let there : slice_get (slice_set numbered number (Some c)) number ≡ Some None = subst (λ (k : ℕ). slice_get (slice_set numbered number (Some c)) k ≡ Some None) same e in
            let lt : number < length numbered = by_length numbered number c there in
            absurd (none-some c (sym (same_Some (Some c) None (sym (got_set numbered number (Some c) lt) ∙ there))))
        | inr off ↦ elim (Contains-push_cases rest number y (is.all y (sym (got_other numbered number y (Some c) off) ∙ e))) [
          | inl there ↦ there
          | inr same ↦ absurd (off (sym same))
        ]
      ];
    }
  where
    by_length : (numbered : List (Option NumberedContact)) (number : ℕ) (c : NumberedContact) → slice_get (slice_set numbered number (Some c)) number ≡ Some None → number < length numbered
    by_length numbered number c e =
        let lt : number < length (slice_set numbered number (Some c)) = slice_get_within (slice_set numbered number (Some c)) number None e in
        let long : length (slice_set numbered number (Some c)) ≡ length numbered = length-set numbered number (Some c) in
        omega (arith, lt, long)

-- a new one
pub next_taken : (numbered : List (Option NumberedContact)) (c : NumberedContact) → AreFree numbered [] → length numbered < MAX_CONTACTS → AreFree (numbered ++ Some c ∷ []) []
next_taken numbered c is lt = record {
  few = let long : length (numbered ++ Some c ∷ []) ≡ length numbered + 1 = length-append numbered (Some c ∷ []) in omega (arith, long, lt);
  once = tt;
  are = λ y h. absurd (none_in y h);
  all = λ y e. elim (more_cases numbered (Some c) y None e) [
    | inl old ↦ is.all y old.1
    | inr new ↦ absurd (none-some c new.1)
  ];
}

-- ---- one is let go

once_push : (xs : List ℕ) (x : ℕ) → AreOnce xs → (Contains xs x → ⊥) → AreOnce (xs ++ x ∷ [])
once_push [] x once absent = (λ h. none_in x h, tt)
once_push (y ∷ xs) x once absent = (
  λ h. elim (Contains-push_cases xs x y h) [
    | inl there ↦ once.0 there
    | inr same ↦ absent (subst (λ (k : ℕ). Contains (y ∷ xs) k) (sym same) (zero, omega arith, refl))
  ],
  once_push xs x once.1 (λ h. absent (tail_in y xs x h)),
)

pub released : (numbered : List (Option NumberedContact)) (free : List ℕ) (number : ℕ) → AreFree numbered free → is_some (contact_at numbered number) ≡ true → AreFree (slice_set numbered number None) (free ++ number ∷ [])
released numbered free number is given =
    let lt : number < length numbered = given_within numbered number given in
    let absent : Contains free number → ⊥ = not_free numbered free number is given in
    record {
      few = let long : length (slice_set numbered number None) ≡ length numbered = length-set numbered number None in omega (arith, long, is.few);
      once = once_push free number is.once absent;
      are = λ y h. elim (Contains-push_cases free number y h) [
        | inl there ↦ got_other numbered number y None (λ e. absent (subst (λ (k : ℕ). Contains free k) e there)) ∙ is.are y there
        | inr same ↦ subst (λ (k : ℕ). slice_get (slice_set numbered number None) k ≡ Some None) same (got_set numbered number None lt)
      ];
      all = λ y e. elim (cases_eq y number) [
        | inl same ↦ subst (λ (k : ℕ). Contains (free ++ number ∷ []) k) (sym same) (Contains-push free number)
        | inr off ↦ Contains-append_left free (number ∷ []) y (is.all y (sym (got_other numbered number y None off) ∙ e))
      ];
    }

-- there is room for it among those that are free
pub free_fewer : (numbered : List (Option NumberedContact)) (free : List ℕ) (number : ℕ) → AreFree numbered free → is_some (contact_at numbered number) ≡ true → length free < length numbered
free_fewer numbered free number is given =
    let all : length (number ∷ free) ≤ length numbered = once_short (number ∷ free) (length numbered) (not_free numbered free number is given, is.once)
    (λ y h. elim (in_cases number free y h) [
      | inl same ↦ subst (λ (k : ℕ). k < length numbered) (sym same) (given_within numbered number given)
      | inr there ↦ slice_get_within numbered y None (is.are y there)
    ]) in
    omega (arith, all)

pub free_short : (numbered : List (Option NumberedContact)) (free : List ℕ) → AreFree numbered free → length free ≤ length numbered
free_short numbered free is = once_short free (length numbered) is.once (λ y h. slice_get_within numbered y None (is.are y h))

-- ---- a contact more

-- the number had no contact, now it has this one, and each other number has what it had
pub record IsGiven (c : NumberedContact) (number : ℕ) (old new : List (Option NumberedContact)) : Type 0 where
  pub was : contact_at old number ≡ None
  pub now : contact_at new number ≡ Some c
  pub others : (other : ℕ) → other ≢ number → contact_at new other ≡ contact_at old other

slot_of : (side : Side) (numbered : List (Option NumberedContact)) (number : ℕ) (o : Option NumberedContact) → contact_at numbered number ≡ o → slot_at side numbered number ≡ option_map (slot_on side) (key_of o)
slot_of side numbered number o e = ap (λ (p : Option NumberedContact). option_map (slot_on side) (key_of p)) e

pub given_ends : (side : Side) (c : NumberedContact) (number : ℕ) (old new : List (Option NumberedContact)) (sets more : List (List ℕ)) → IsGiven c number old new → IsPut sets more (slot_on side c.key) number
    → ((slot : ℕ) → AreEndsAt side old slot (list_at sets slot)) → (slot : ℕ) → AreEndsAt side new slot (list_at more slot)
given_ends side c number old new sets more is put ends slot y = (
  λ h. elim (put_was sets more (slot_on side c.key) number slot y put h) [
    | inl there ↦ slot_of side new y (contact_at old y) (is.others y (λ same. absurd (none-some slot (sym (slot_of side old y None (ap (λ (k : ℕ). contact_at old k) same ∙ is.was)) ∙ (ends slot y).0 there)))) ∙ (ends slot y).0 there
    | inr own ↦ slot_of side new y (Some c) (ap (λ (k : ℕ). contact_at new k) own.1 ∙ is.now) ∙ ap (λ (k : ℕ). Some k) (sym own.0)
  ],
  λ at. elim (cases_eq y number) [
    | inl same ↦
        let own : slot_on side c.key ≡ slot = same_Some (slot_on side c.key) slot (sym (slot_of side new y (Some c) (ap (λ (k : ℕ). contact_at new k) same ∙ is.now)) ∙ at) in
        subst (λ (k : ℕ). Contains (list_at more slot) k) (sym same) (subst (λ (k : ℕ). Contains (list_at more k) number) own (put_there sets more (slot_on side c.key) number put))
    | inr off ↦ put_keeps sets more (slot_on side c.key) number slot y put ((ends slot y).1 (sym (slot_of side new y (contact_at old y) (is.others y off)) ∙ at))
  ],
)

key_is : (numbered : List (Option NumberedContact)) (number : ℕ) (o : Option NumberedContact) → contact_at numbered number ≡ o → number_key_at numbered number ≡ key_of o
key_is numbered number o e = ap (λ (p : Option NumberedContact). key_of p) e

pub given_once : (c : NumberedContact) (number : ℕ) (old new : List (Option NumberedContact)) → IsGiven c number old new → ((y : ℕ) → number_key_at old y ≢ Some c.key) → AreKeysOnce old → AreKeysOnce new
given_once c number old new is absent once a b key at also = elim (cases_eq a number) [
  | inl own ↦ elim (cases_eq b number) [
    | inl same ↦ own ∙ sym same
    | inr off ↦ absurd (absent b (before b off also ∙ ap (λ (k : ContactKey). Some k) (sym (now a own at))))
  ]
  | inr other ↦ elim (cases_eq b number) [
    | inl same ↦ absurd (absent a (before a other at ∙ ap (λ (k : ContactKey). Some k) (sym (now b same also))))
    | inr off ↦ once a b key (before a other at) (before b off also)
  ]
]
  where
    before : (y : ℕ) → y ≢ number → number_key_at new y ≡ Some key → number_key_at old y ≡ Some key
    before y off e = sym (key_is new y (contact_at old y) (is.others y off)) ∙ e

    now : (y : ℕ) → y ≡ number → number_key_at new y ≡ Some key → c.key ≡ key
    now y same e = same_Some c.key key (sym (key_is new y (Some c) (ap (λ (k : ℕ). contact_at new k) same ∙ is.now)) ∙ e)

-- ---- a contact less

pub over_is : (numbered : List (Option NumberedContact)) (number : ℕ) → contact_at (slice_set numbered number None) number ≡ None
over_is numbered number = elim (cases_lt number (length numbered)) [
  | inl lt ↦ get_or-set_same numbered number None None lt
  | inr le ↦ let long : length (slice_set numbered number None) ≡ length numbered = length-set numbered number None in get_or_past (slice_set numbered number None) number None (omega (arith, long, le))
]

pub over_other : (numbered : List (Option NumberedContact)) (number other : ℕ) → other ≢ number → contact_at (slice_set numbered number None) other ≡ contact_at numbered other
over_other numbered number other off = get_or-set_other numbered number other None None off

pub over_ends : (side : Side) (key : ContactKey) (number : ℕ) (old : List (Option NumberedContact)) (sets less : List (List ℕ)) → IsTaken sets less (slot_on side key) number → IsAbsent less number
    → ((slot : ℕ) → AreEndsAt side old slot (list_at sets slot)) → (slot : ℕ) → AreEndsAt side (slice_set old number None) slot (list_at less slot)
over_ends side key number old sets less taken gone ends slot y = (
  λ h. slot_of side (slice_set old number None) y (contact_at old y) (over_other old number y (λ same. gone slot (subst (λ (k : ℕ). Contains (list_at less slot) k) same h))) ∙ (ends slot y).0 (take_was sets less (slot_on side key) number slot y taken h),
  λ at. elim (cases_eq y number) [
    | inl same ↦ absurd (none-some slot (sym (slot_of side (slice_set old number None) y None (ap (λ (k : ℕ). contact_at (slice_set old number None) k) same ∙ over_is old number)) ∙ at))
    | inr off ↦ take_keeps sets less (slot_on side key) number slot y taken off ((ends slot y).1 (sym (slot_of side (slice_set old number None) y (contact_at old y) (over_other old number y off)) ∙ at))
  ],
)

pub over_once : (number : ℕ) (old : List (Option NumberedContact)) → AreKeysOnce old → AreKeysOnce (slice_set old number None)
over_once number old once a b key at also = once a b key (before a at) (before b also)
  where
    before : (y : ℕ) → number_key_at (slice_set old number None) y ≡ Some key → number_key_at old y ≡ Some key
    before y e = elim (cases_eq y number) [
      | inl same ↦ absurd (none-some key (sym (key_is (slice_set old number None) y None (ap (λ (k : ℕ). contact_at (slice_set old number None) k) same ∙ over_is old number)) ∙ e))
      | inr off ↦ sym (key_is (slice_set old number None) y (contact_at old y) (over_other old number y off)) ∙ e
    ]

-- ---- room

-- one number more is given, and there is room for one less
pub record IsOneMore (old new : NumberBook) : Type 0 where
  pub count : length old.free.items + length new.contacts.items ≡ length new.free.items + length old.contacts.items + 1
  pub least : 0 < length old.free.items → length new.contacts.items ≡ length old.contacts.items
  pub most : length new.contacts.items ≤ length old.contacts.items + 1
  pub contacts : vec_capacity old.contacts ≤ vec_capacity new.contacts
  pub free : vec_capacity old.free ≤ vec_capacity new.free
  pub ids : (side : Side) → (ends_on side new.ends).ids ≡ (ends_on side old.ends).ids
  pub sets : (side : Side) → length (ends_on side new.ends).sets ≡ length (ends_on side old.ends).sets
  pub made : length new.made.items ≡ length old.made.items + 1
  pub made_room : vec_capacity old.made ≤ vec_capacity new.made

pub room_less : (old new : NumberBook) (added slots : ℕ) → IsOneMore old new → HasRoom (added + 1) slots old → HasRoom added slots new
room_less old new added slots one r = record {
  bound = r.bound;
  few = r.few;
  within = elim (cases_lt 0 (length old.free.items)) [
    | inl lt ↦ let same : length new.contacts.items ≡ length old.contacts.items = one.least lt in omega (arith, same, r.within)
    | inr le ↦ omega (arith, one.most, r.left, le)
  ];
  left = omega (arith, one.count, r.left);
  contacts = omega (arith, r.contacts, one.contacts);
  free = omega (arith, r.free, one.free);
  noted = λ side. let same : (ends_on side new.ends).ids ≡ (ends_on side old.ends).ids = one.ids side in let was : r.bound ≤ (ends_on side old.ends).ids = r.noted side in omega (arith, same, was);
  there = λ side. let same : length (ends_on side new.ends).sets ≡ length (ends_on side old.ends).sets = one.sets side in let was : slots ≤ length (ends_on side old.ends).sets = r.there side in omega (arith, same, was);
  made = omega (arith, r.made, one.made, one.made_room);
}

pub bound_less : (old new : NumberBook) (added : ℕ) → IsOneMore old new → bound_of new added ≤ bound_of old (added + 1)
bound_less old new added one = elim (cases_lt 0 (length old.free.items)) [
  | inl lt ↦ let same : length new.contacts.items ≡ length old.contacts.items = one.least lt in omega (arith, same, one.count)
  | inr le ↦ omega (arith, one.most, one.count, le)
]

-- ---- all that is kept

-- where no number changes
pub same_book : (old new : NumberBook) → KeepBook old new → vec_capacity old.free ≤ vec_capacity new.free → new.ended ≤ length new.free.items → IsBook old → IsBook new
same_book old new same room ended is = record {
  free = subst (λ (l : List (Option NumberedContact)). AreFree l new.free.items) (sym same.contacts) (subst (λ (l : List ℕ). AreFree old.contacts.items l) (sym same.free) is.free);
  room = let long : length new.contacts.items ≡ length old.contacts.items = ap (λ (l : List (Option NumberedContact)). length l) same.contacts in omega (arith, long, room, is.room);
  ends = λ side slot. subst (λ (l : List (Option NumberedContact)). AreEndsAt side l slot (list_at (ends_on side new.ends).sets slot)) (sym same.contacts) (subst (λ (l : List ℕ). AreEndsAt side old.contacts.items slot l) (sym (threads side slot)) (is.ends side slot));
  once = subst AreKeysOnce (sym same.contacts) is.once;
  ended = ended;
}
  where
    threads : (side : Side) (slot : ℕ) → list_at (ends_on side new.ends).sets slot ≡ list_at (ends_on side old.ends).sets slot
    threads First slot = same.ends.firsts.sets slot
    threads Second slot = same.ends.seconds.sets slot

-- where a contact was made
pub made_book : (c : NumberedContact) (number : ℕ) (old new : NumberBook) → IsGiven c number old.contacts.items new.contacts.items → ((y : ℕ) → number_key_at old.contacts.items y ≢ Some c.key) → IsPut old.ends.firsts.sets new.ends.firsts.sets c.key.first.slot number
    → IsPut old.ends.seconds.sets new.ends.seconds.sets c.key.second.slot number → length new.contacts.items ≤ vec_capacity new.free → AreFree new.contacts.items new.free.items → new.ended ≤ length new.free.items → IsBook old → IsBook new
made_book c number old new given absent first second room free ended is = record {
  free = free;
  room = room;
  ends = ends;
  once = given_once c number old.contacts.items new.contacts.items given absent is.once;
  ended = ended;
}
  where
    ends : (side : Side) (slot : ℕ) → AreEndsAt side new.contacts.items slot (list_at (ends_on side new.ends).sets slot)
    ends First slot = given_ends First c number old.contacts.items new.contacts.items old.ends.firsts.sets new.ends.firsts.sets given first (is.ends First) slot
    ends Second slot = given_ends Second c number old.contacts.items new.contacts.items old.ends.seconds.sets new.ends.seconds.sets given second (is.ends Second) slot

-- where one has gone
pub ended_book : (key : ContactKey) (number : ℕ) (old new : NumberBook) → new.contacts.items ≡ slice_set old.contacts.items number None → IsTaken old.ends.firsts.sets new.ends.firsts.sets key.first.slot number → IsAbsent new.ends.firsts.sets number
    → IsTaken old.ends.seconds.sets new.ends.seconds.sets key.second.slot number → IsAbsent new.ends.seconds.sets number → AreFree new.contacts.items new.free.items → length new.contacts.items ≤ vec_capacity new.free → new.ended ≤ length new.free.items → IsBook old → IsBook new
ended_book key number old new now first first_gone second second_gone free room ended is = record {
  free = free;
  room = room;
  ends = ends;
  once = subst AreKeysOnce (sym now) (over_once number old.contacts.items is.once);
  ended = ended;
}
  where
    ends : (side : Side) (slot : ℕ) → AreEndsAt side new.contacts.items slot (list_at (ends_on side new.ends).sets slot)
    ends First slot = subst (λ (l : List (Option NumberedContact)). AreEndsAt First l slot (list_at new.ends.firsts.sets slot)) (sym now) (over_ends First key number old.contacts.items old.ends.firsts.sets new.ends.firsts.sets first first_gone (is.ends First) slot)
    ends Second slot = subst (λ (l : List (Option NumberedContact)). AreEndsAt Second l slot (list_at new.ends.seconds.sets slot)) (sym now) (over_ends Second key number old.contacts.items old.ends.seconds.sets new.ends.seconds.sets second second_gone (is.ends Second) slot)

-- ---- what a contact that is made asks for

-- its slots are there
pub slot_there : (side : Side) (c : NumberedContact) (b : NumberBook) → HasRoomFor (c ∷ []) b → slot_on side c.key < length (ends_on side b.ends).sets
slot_there side c b r =
    let below : slot_on side c.key < r.slots = All-head (λ (x : NumberedContact). slot_on side x.key < r.slots) c [] (r.below side) in
    let there : r.slots ≤ length (ends_on side b.ends).sets = r.room.there side in
    omega (arith, below, there)

-- there is room for its number
pub taken_within : (b : NumberBook) (slots long : ℕ) → (r : HasRoom 1 slots b) → (0 < length b.free.items → long ≡ length b.contacts.items) → long ≤ length b.contacts.items + 1 → long ≤ r.bound
taken_within b slots long r least most = elim (cases_lt 0 (length b.free.items)) [
  | inl lt ↦ let same : long ≡ length b.contacts.items = least lt in omega (arith, same, r.within)
  | inr le ↦ omega (arith, most, r.left, le)
]

pub number_noted : (side : Side) (b : NumberBook) (slots long number : ℕ) → HasRoom 1 slots b → (0 < length b.free.items → long ≡ length b.contacts.items) → long ≤ length b.contacts.items + 1 → number < long → number < (ends_on side b.ends).ids
number_noted side b slots long number r least most lt =
    let le : long ≤ r.bound = taken_within b slots long r least most in
    let noted : r.bound ≤ (ends_on side b.ends).ids = r.noted side in
    omega (arith, le, noted, lt)

-- and it is in no thread
pub none_absent : (side : Side) (numbered : List (Option NumberedContact)) (sets : List (List ℕ)) (number : ℕ) → ((slot : ℕ) → AreEndsAt side numbered slot (list_at sets slot)) → contact_at numbered number ≡ None → IsAbsent sets number
none_absent side numbered sets number ends none slot h = none-some slot (sym (slot_of side numbered number None none) ∙ (ends slot number).0 h)

-- it is made
pub is_made : (c : NumberedContact) (number : ℕ) (old new : NumberBook) → IsGiven c number old.contacts.items new.contacts.items → IsOneMore old new → new.made.items ≡ old.made.items ++ number ∷ [] → new.ended ≡ length new.free.items → HasMade c number old new
is_made c number old new given one made ended = record {
  was = given.was;
  now = given.now;
  others = given.others;
  made = made;
  gone = drop_all new.ended new.free.items (omega (arith, ended));
  room = λ added slots r. room_less old new added slots one r;
  bound = λ added. bound_less old new added one;
}

-- ---- both sides

pub by_side : (P : Side → Type 0) → P First → P Second → (side : Side) → P side
by_side P first second First = first
by_side P first second Second = second

pub same_ends : (e : ContactEnds) → KeepEnds e e
same_ends e = record {
  firsts = record { sets = λ slot. refl; more_sets = omega arith; more_ids = omega arith };
  seconds = record { sets = λ slot. refl; more_sets = omega arith; more_ids = omega arith };
}
