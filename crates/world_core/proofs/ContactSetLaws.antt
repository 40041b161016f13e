-- The contact with a number stands in the set that the census has the one with its key in.
use Rattle.std.proofs.Common.{◌≡◌, ◌∙◌, ◌==◌, ◌&&◌, ◌||◌, ℕ, Bool, true, false, cond, List, [], ◌∷◌, Option, Some, None, is_none, inl, inr, refl, sym, ap, ap₂, subst}
use Rattle.std.specs.Prelude.{Contains, option_map}
use Rattle.std.proofs.lemmas.Bool.{false≢true}
use Rattle.std.specs.List.{find}
use Rattle.contacts.specs.Numbered.{AreNumbered, contact_at, key_of, number_key_at, numbered_of}
use Rattle.contacts.specs.declared.number_book.NumberedContact.{NumberedContact}
use Rattle.contacts.proofs.NumberedLaws.{entry_at, key_at, number_for, one_contact}
use Rattle.contacts_base.specs.declared.contact.ContactEntry.{ContactEntry}
use Rattle.contacts_base.specs.declared.key.ContactKey.{ContactKey}
use Rattle.contacts_base.specs.declared.key.ShapeId.{ShapeId}
use Rattle.contacts_base.specs.Evaluate.{touches}
use Rattle.graph_colours.proofs.PlaceLemmas.{is_same, same_from}
use Rattle.islands.proofs.JoinLemmas.{contains_cases, contains_head, contains_tail}
use Rattle.packed_sets.proofs.ItemLaws.{none_in}
use Rattle.plain_world.specs.declared.body.Body.{Body}
use Rattle.plain_world.specs.declared.body.SetName.{SetName}
use Rattle.plain_world.specs.declared.kind.Kind.{Kind}
use Rattle.plain_world.specs.declared.kind.Kind.TheVariants.{Static, Kinematic, Dynamic}
use Rattle.plain_world.specs.Changes.{is_awake_in}
use Rattle.plain_world.specs.Kinds.{is_dynamic}
use Rattle.plain_world.specs.Slots.{body_at}
use Rattle.solver_sets.specs.Census.{standing_apart, standing_between, standing_of_contact}
use Rattle.solver_sets.specs.EachOnce.{has_key, is_same_shape}

-- ---- the contact of a key

has_it : (e : ContactEntry) (key : ContactKey) → e.key ≡ key → has_key key e ≡ true
has_it e key same = subst (λ (k : ContactKey). has_key k e ≡ true) same (rw (is_same e.key.first.slot e.key.first.slot refl, is_same e.key.first.index e.key.first.index refl, is_same e.key.second.slot e.key.second.slot refl, is_same e.key.second.index e.key.second.index refl) refl)

pub and_first : (t u : Bool) → (t && u) ≡ true → t ≡ true
and_first true u h = refl
and_first false u h = h

pub and_second : (t u : Bool) → (t && u) ≡ true → u ≡ true
and_second true u h = h
and_second false u h = absurd (false≢true h)

shape_is : (a b : ShapeId) → is_same_shape a b ≡ true → a ≡ b
shape_is a b e = ap₂ (λ (s i : ℕ). record { slot = s; index = i }) (same_from a.slot b.slot (and_first (a.slot == b.slot) (a.index == b.index) e)) (same_from a.index b.index (and_second (a.slot == b.slot) (a.index == b.index) e))

key_is : (key : ContactKey) (e : ContactEntry) → has_key key e ≡ true → e.key ≡ key
key_is key e h = ap₂ (λ (a b : ShapeId). record { first = a; second = b })
    (shape_is e.key.first key.first (and_first (is_same_shape e.key.first key.first) (is_same_shape e.key.second key.second) h))
    (shape_is e.key.second key.second (and_second (is_same_shape e.key.first key.first) (is_same_shape e.key.second key.second) h))

record IsOfKey (contacts : List ContactEntry) (key : ContactKey) (e : ContactEntry) : Type 0 where
  pub there : Contains contacts e
  pub has : e.key ≡ key

of_key_by : (c e : ContactEntry) (contacts : List ContactEntry) (key : ContactKey) (t : Bool) → has_key key c ≡ t → cond t (Some c) (find (has_key key) contacts) ≡ Some e → (find (has_key key) contacts ≡ Some e → IsOfKey contacts key e) → IsOfKey (c ∷ contacts) key e
of_key_by c e contacts key true k h rest = let same : c ≡ e = cc in subst (IsOfKey (c ∷ contacts) key) same (record { there = contains_head c contacts; has = key_is key c k })
of_key_by c e contacts key false k h rest = let o = rest h in record { there = contains_tail c contacts e o.there; has = o.has }

of_key : (contacts : List ContactEntry) (key : ContactKey) (e : ContactEntry) → find (has_key key) contacts ≡ Some e → IsOfKey contacts key e
of_key [] key e h = cc
of_key (c ∷ contacts) key e h = of_key_by c e contacts key (has_key key c) refl h (of_key contacts key e)

not_of_key_by : (c e : ContactEntry) (contacts : List ContactEntry) (key : ContactKey) (t : Bool) → has_key key c ≡ t → cond t (Some c) (find (has_key key) contacts) ≡ None → Contains (c ∷ contacts) e → e.key ≡ key → (find (has_key key) contacts ≡ None → Contains contacts e → ⊥) → ⊥
not_of_key_by c e contacts key true k h there has rest = cc
not_of_key_by c e contacts key false k h there has rest = elim (contains_cases c contacts e there) [
  | inl same ↦ false≢true (sym k ∙ has_it c key (ap (λ (x : ContactEntry). x.key) same ∙ has))
  | inr later ↦ rest h later
]

not_of_key : (contacts : List ContactEntry) (key : ContactKey) (e : ContactEntry) → find (has_key key) contacts ≡ None → Contains contacts e → e.key ≡ key → ⊥
not_of_key [] key e h there has = absurd (none_in e there)
not_of_key (c ∷ contacts) key e h there has = not_of_key_by c e contacts key (has_key key c) refl h there has (λ k later. not_of_key contacts key e k later has)

-- ---- its set

key_with : (o : Option NumberedContact) (key : ContactKey) → key_of o ≡ Some key → (c : NumberedContact) × (o ≡ Some c) × (c.key ≡ key)
key_with None key h = cc
key_with (Some c) key h = let q : Some c.key ≡ Some key = h in let own : c.key ≡ key = cc in (c, refl, own)

-- who has a key is there
pub keyed : (o : Option NumberedContact) (key : ContactKey) → key_of o ≡ Some key → None ≡ o → ⊥
keyed None key h e = cc
keyed (Some c) key h e = cc

-- where a contact with a number stands
abbrev pub set_of_numbered : List (Option Body) → NumberedContact → SetName
set_of_numbered bodies c = cond c.touching (standing_between bodies c.key.first.slot c.key.second.slot) (standing_apart bodies c.key.first.slot c.key.second.slot)

-- the contact with a number stands where the census has the one with its key
pub numbered_set : (bodies : List (Option Body)) (contacts : List ContactEntry) (numbered : List (Option NumberedContact)) (number : ℕ) (key : ContactKey) (c : NumberedContact) → AreNumbered contacts numbered → number_key_at numbered number ≡ Some key → contact_at numbered number ≡ Some c
    → Some (set_of_numbered bodies c) ≡ option_map (standing_of_contact bodies) (find (has_key key) contacts)
numbered_set bodies contacts numbered number key c are at here = by (find (has_key key) contacts) refl
  where
    own : c.key ≡ key
    own = let o = key_with (contact_at numbered number) key at in let same : Some o.0 ≡ Some c = sym o.1 ∙ here in let is : o.0 ≡ c = cc in ap (λ (x : NumberedContact). x.key) (sym is) ∙ o.2

    by : (o : Option ContactEntry) → find (has_key key) contacts ≡ o → Some (set_of_numbered bodies c) ≡ option_map (standing_of_contact bodies) (find (has_key key) contacts)
    by None e =
        let entry = entry_at contacts numbered number c are here in
        absurd (not_of_key contacts key entry.entry e entry.there (ap (λ (c : NumberedContact). c.key) entry.is ∙ own))
    by (Some f) e =
        let found = of_key contacts key f e in
        let other = number_for contacts numbered f are found.there in
        let same : numbered_of f ≡ c = one_contact contacts numbered other.number number (numbered_of f) c are other.at here (found.has ∙ sym own) in
        ap (λ (x : NumberedContact). Some (set_of_numbered bodies x)) (sym same) ∙ ap (option_map (standing_of_contact bodies)) (sym e)

-- a key that no number has is that of no contact
pub unnumbered_set : (contacts : List ContactEntry) (numbered : List (Option NumberedContact)) (key : ContactKey) → AreNumbered contacts numbered → ((number : ℕ) → number_key_at numbered number ≡ Some key → ⊥) → find (has_key key) contacts ≡ None
unnumbered_set contacts numbered key are none = by (find (has_key key) contacts) refl
  where
    by : (o : Option ContactEntry) → find (has_key key) contacts ≡ o → find (has_key key) contacts ≡ None
    by None e = e
    by (Some f) e =
        let found = of_key contacts key f e in
        let own = number_for contacts numbered f are found.there in
        absurd (none own.number (key_at numbered own.number (numbered_of f) own.at ∙ ap Some found.has))
