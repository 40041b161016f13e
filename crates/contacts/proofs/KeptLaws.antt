-- What is kept of the contacts and of their numbers when a change is carried out, or impulses are given.
use Rattle.std.proofs.Common.{◌≡◌, ℕ, ◌==◌, Bool, true, false, cond, List, [], ◌∷◌, map, Option, Some, None, refl, sym, ap, subst, ◌∙◌, arith}
use Rattle.std.specs.Prelude.{slice_set}
use Rattle.std.specs.List.{All, Contains}
use Rattle.std.specs.List.Sorted.{IsStrictlyIncreasing}
use Rattle.std.specs.Option.{is_some, option_map}
use Rattle.std.proofs.lemmas.List.{get_or_past}
use Rattle.std.proofs.lemmas.Option.{none-some}
use Rattle.contacts_base.specs.declared.key.ContactKey.{ContactKey}
use Rattle.contacts_base.specs.declared.contact.ContactEntry.{ContactEntry}
use Rattle.contacts_base.specs.declared.contact.ContactPoint.{ContactPoint}
use Rattle.contacts_base.specs.declared.evaluation.Impulses.{Impulses}
use Rattle.contacts_base.specs.declared.split.Renewal.{Renewal}
use Rattle.contacts_base.specs.Contacts.{AreKeysRising, number_of}
use Rattle.contacts_base.specs.ContactLists.{AreContacts, impulses_given, with_impulses, with_points}
use Rattle.contacts_base.specs.Evaluate.{touches}
use Rattle.contacts_base.specs.Keys.{key_number}
use Rattle.contacts_base.specs.Split.{Split, carried, is_over, over_at}
use Rattle.contacts_base.proofs.CountingLaws.{set_stays}
use Rattle.packed_sets.specs.Packs.{list_at}
use Rattle.packed_sets.specs.Once.{AreOnce}
use Rattle.packed_sets.proofs.ItemLaws.{none_in}
use Rattle.contacts_base.specs.declared.near.Proxy.{Proxy}
use Rattle.contacts_base.specs.Proxies.{IsProxyList}
use Rattle.contacts.specs.declared.changes.Changes.{Changes}
use Rattle.contacts_base.specs.declared.body_pair.BodyPair.{BodyPair}
use Rattle.contacts.specs.ByCodes.{allowed_codes, contacts_of}
use Rattle.contacts_base.specs.ByPairs.{contacts_between}
use Rattle.contacts_base.specs.Changes.{keys_touching_only_in}
use Rattle.contacts.specs.Known.{IsPairKey}
use Rattle.contacts.specs.declared.ends.ContactEnds.{ContactEnds}
use Rattle.contacts.specs.declared.ends.Side.{Side}
use Rattle.contacts.specs.declared.ends.Side.TheVariants.{First, Second}
use Rattle.contacts.specs.declared.number_book.NumberBook.{NumberBook}
use Rattle.contacts.specs.declared.number_book.NumberedContact.{NumberedContact}
use Rattle.contacts_base.specs.ChangedKeys.{AreRising, keys_not_in}
use Rattle.contacts.specs.Ends.{IsOnce, ends_on}
use Rattle.contacts.specs.Kept.{Kept, numbers_on}
use Rattle.contacts.specs.Numbered.{AreEndsAt, AreKeysOnce, AreNumbered, contact_at, numbered_of}
use Rattle.contacts.specs.NumberBooks.{HasRoomFor, IsBook}
use Rattle.contacts.specs.NumberChanges.{CanMakeAll, HaveMade, IsNoted}
use Rattle.contacts.specs.Stirring.{HaveKeys}
use Rattle.contacts.proofs.ByPairsLaws.{contacts_by_codes-holds}
use Rattle.contacts.proofs.KnownLemmas.{all_known_after-holds, in_map}
use Rattle.contacts.proofs.UpdateLemmas.{after_are_contacts}
use Rattle.contacts_base.proofs.Members.{contains_from_in, in_from_contains}
use Rattle.contacts.proofs.NumberChangeLaws.{numbered_alike}
use Rattle.contacts.proofs.StirringLaws.{renewed_keys}

-- ---- what is carried out

over_stays : (places : List ℕ) (over : List Bool) (p : ℕ) → is_over over p ≡ true → is_over (over_at places over) p ≡ true
over_stays [] over p on = on
over_stays (q ∷ places) over p on = over_stays places (slice_set over q true) p (set_stays over q p on)

pub carried_keys : (notes : List Renewal) (ends : List ℕ) (short : Option (List ContactEntry)) (s : Split) → HaveKeys s (carried notes ends short s)
carried_keys notes ends short s = record {
  keys = renewed_keys notes s.long;
  over = λ p on. over_stays ends s.over p on;
}

-- ---- the first numbers

numbers_are : (es : List ContactEntry) → map key_number (map (λ (c : NumberedContact). c.key) (map numbered_of es)) ≡ map number_of es
numbers_are [] = refl
numbers_are (e ∷ es) = ap (λ (l : List ℕ). number_of e ∷ l) (numbers_are es)

pub can_make_first : (es : List ContactEntry) (made : List NumberedContact) (b : NumberBook) → made ≡ map numbered_of es → AreKeysRising es → b.contacts.items ≡ [] → HasRoomFor made b → CanMakeAll made b
can_make_first es made b is rising none room = record {
  room = room;
  rising = subst (λ (l : List NumberedContact). AreRising (map (λ (c : NumberedContact). c.key) l)) (sym is) (subst IsStrictlyIncreasing (sym (numbers_are es)) rising);
  absent = λ c h y at. none_has b.contacts.items none y c.key at;
}
  where
    none_has : (numbered : List (Option NumberedContact)) → numbered ≡ [] → (y : ℕ) (key : ContactKey) → option_map (λ (c : NumberedContact). c.key) (contact_at numbered y) ≡ Some key → ⊥
    none_has numbered none y key at =
        let past : contact_at numbered y ≡ None = ap (λ (l : List (Option NumberedContact)). contact_at l y) none ∙ get_or_past [] y None (omega arith) in
        none-some key (sym (ap (option_map (λ (c : NumberedContact). c.key)) past) ∙ at)

pub first_numbered : (es : List ContactEntry) (made : List NumberedContact) (old new : List (Option NumberedContact)) (numbers : List ℕ) → made ≡ map numbered_of es → old ≡ [] → HaveMade made old new numbers → AreKeysOnce new → AreNumbered es new
first_numbered es made old new numbers is none m once = record {
  all = λ e h. m.all (numbered_of e) (subst (λ (l : List NumberedContact). Contains l (numbered_of e)) (sym is) (contains_from_in (map numbered_of es) (numbered_of e) (in_map numbered_of e es (in_from_contains es e h))));
  only = λ y c at. subst (λ (l : List NumberedContact). Contains l c) is (m.only y c (ap (λ (l : List (Option NumberedContact)). contact_at l y) none ∙ get_or_past [] y None (omega arith)) at);
  once = once;
}

pub none_numbered : (es : List ContactEntry) (numbered : List (Option NumberedContact)) → es ≡ [] → numbered ≡ [] → AreNumbered es numbered
none_numbered es numbered none also = record {
  all = λ e h. absurd (none_in e (subst (λ (l : List ContactEntry). Contains l e) none h));
  only = λ y c at. absurd (none-some c (sym (past y) ∙ at));
  once = λ a b key at. absurd (none-some key (sym (ap (option_map (λ (c : NumberedContact). c.key)) (past a)) ∙ at));
}
  where
    past : (y : ℕ) → contact_at numbered y ≡ None
    past y = ap (λ (l : List (Option NumberedContact)). contact_at l y) also ∙ get_or_past [] y None (omega arith)

-- ---- impulses that are given

touches_given : (first : Impulses) (second : Option Impulses) (e : ContactEntry) → touches (with_points first second e).contact ≡ touches e.contact
touches_given first second e = by_point e.contact.first
  where
    by_point : (o : Option ContactPoint) → is_some (option_map (with_impulses first) o) ≡ is_some o
    by_point None = refl
    by_point (Some p) = refl

one_given : (t : Bool) (first : Impulses) (second : Option Impulses) (e : ContactEntry) → numbered_of (cond t (with_points first second e) e) ≡ numbered_of e
one_given true first second e = ap (λ (t : Bool). record { key = e.key; touching = t }) (touches_given first second e)
one_given false first second e = refl

numbered_given : (key : ContactKey) (first : Impulses) (second : Option Impulses) (es : List ContactEntry) → map numbered_of (impulses_given key first second es) ≡ map numbered_of es
numbered_given key first second [] = refl
numbered_given key first second (e ∷ es) = ap (λ (c : NumberedContact). c ∷ map numbered_of (impulses_given key first second es)) (one_given (number_of e == key_number key) first second e) ∙ ap (λ (l : List NumberedContact). numbered_of e ∷ l) (numbered_given key first second es)

pub given_numbered : (key : ContactKey) (first : Impulses) (second : Option Impulses) (es fs : List ContactEntry) (numbered : List (Option NumberedContact)) → fs ≡ impulses_given key first second es → AreNumbered es numbered → AreNumbered fs numbered
given_numbered key first second es fs numbered is are = numbered_alike es fs numbered (ap (map numbered_of) is ∙ numbered_given key first second es) are

-- ---- the threads of one side

pub threads_on : (side : Side) (k : Kept) (e : ContactEnds) → k.firsts ≡ e.firsts.sets → k.seconds ≡ e.seconds.sets → numbers_on side k ≡ (ends_on side e).sets
threads_on First k e first second = first
threads_on Second k e first second = second

pub ends_are : (side : Side) (slot : ℕ) (k : Kept) (b : NumberBook) → k.firsts ≡ b.ends.firsts.sets → k.seconds ≡ b.ends.seconds.sets → k.numbered ≡ b.contacts.items → IsBook b → AreEndsAt side k.numbered slot (list_at (numbers_on side k) slot)
ends_are side slot k b first second same is =
    subst (λ (sets : List (List ℕ)). AreEndsAt side k.numbered slot (list_at sets slot)) (sym (threads_on side k b.ends first second))
    (subst (λ (numbered : List (Option NumberedContact)). AreEndsAt side numbered slot (list_at (ends_on side b.ends).sets slot)) (sym same) (is.ends side slot))

once_on : (e : ContactEnds) (side : Side) (slot : ℕ) → IsOnce e.firsts → IsOnce e.seconds → AreOnce (list_at (ends_on side e).sets slot)
once_on e First slot one other = one.once slot
once_on e Second slot one other = other.once slot

pub once_is : (side : Side) (slot : ℕ) (k : Kept) (e : ContactEnds) → k.firsts ≡ e.firsts.sets → k.seconds ≡ e.seconds.sets → IsOnce e.firsts → IsOnce e.seconds → AreOnce (list_at (numbers_on side k) slot)
once_is side slot k e first second one other = subst (λ (sets : List (List ℕ)). AreOnce (list_at sets slot)) (sym (threads_on side k e first second)) (once_on e side slot one other)

-- ---- a collide by all near pairs

pub noted_between : (pairs : List BodyPair) (ps : List Proxy) (es old : List ContactEntry) (c : Changes) → IsProxyList ps → AreContacts es → All (λ e. IsPairKey e.key) es → old ≡ es → c.now ≡ contacts_between pairs ps old → c.made.items ≡ keys_not_in old c.now → c.gone.items ≡ keys_not_in c.now old
    → c.begin.items ≡ keys_touching_only_in old c.now → c.end.items ≡ keys_touching_only_in c.now old → AreRising c.made.items → IsNoted es c
noted_between pairs ps es old c shapes are keys same now made gone begin end rising =
    let by_codes : c.now ≡ contacts_of es ps (allowed_codes pairs ps) = now ∙ ap (contacts_between pairs ps) same ∙ contacts_by_codes-holds pairs ps es shapes in
    record {
      now = subst AreContacts (sym by_codes) (after_are_contacts pairs ps es shapes are);
      made = made ∙ ap (λ (l : List ContactEntry). keys_not_in l c.now) same;
      gone = gone ∙ ap (keys_not_in c.now) same;
      begin = begin ∙ ap (λ (l : List ContactEntry). keys_touching_only_in l c.now) same;
      end = end ∙ ap (keys_touching_only_in c.now) same;
      rising = rising;
      keys = keys;
      new_keys = subst (All (λ e. IsPairKey e.key)) (sym by_codes) (all_known_after-holds pairs ps es shapes).keys;
    }
