-- What becomes of a list of contacts whose keys rise.
use Rattle.std.proofs.Common.{◌≡◌, ℕ, zero, suc, ◌+◌, ◌<◌, Bool, not, List, [], ◌∷◌, length, map, get_or, slice_set, Option, Some, None, subst, refl, sym, ap, ◌∙◌, arith}
use Rattle.std.specs.Prelude.{filter, slice_get}
use Rattle.std.specs.List.{All, AllPairs}
use Rattle.std.proofs.lemmas.List.{get_or-map, length-map}
use Rattle.std.proofs.lemmas.List.Elements.{All-filter, All-set}
use Rattle.std.proofs.lemmas.List.Kept.{AllPairs-filter}
use Rattle.std.proofs.lemmas.Option.{slice_get_within, slice_get-get_or, get_or_from_slice_get}
use Rattle.contacts_base.specs.declared.contact.Contact.{Contact}
use Rattle.contacts_base.specs.declared.contact.ContactEntry.{ContactEntry}
use Rattle.contacts_base.specs.Surfaces.{IsSurface}
use Rattle.contacts_base.specs.Contacts.{number_of, has_slot, contacts_without, AreKeysRising}
use Rattle.contacts_base.specs.ContactLists.{contact_set, AreContacts}
use Rattle.contacts_base.proofs.LookupLemmas.{keys_later}

abbrev Rises : ContactEntry → ContactEntry → Type 0
Rises e later = number_of e < number_of later

rise_from_pairs : (es : List ContactEntry) → AllPairs Rises es → AreKeysRising es
rise_from_pairs [] pairs k lt = absurd (omega arith)
rise_from_pairs (e ∷ es) pairs k lt =
    let n : length (map number_of (e ∷ es)) ≡ length (e ∷ es) = length-map (e ∷ es) number_of in
    let within : k + 1 < length (e ∷ es) = omega arith in
    rw (get_or-map number_of (e ∷ es) k e 0 (omega arith), get_or-map number_of (e ∷ es) (k + 1) e 0 within) (pairs k (k + 1) e (omega arith) within)

-- some of the contacts
pub keys_rise-filter : (p : ContactEntry → Bool) (es : List ContactEntry) → AreKeysRising es → AreKeysRising (filter p es)
keys_rise-filter p es h = rise_from_pairs (filter p es) (AllPairs-filter Rises p es (λ i j d lt within. keys_later es h i j d lt within))

pub contacts_left : (p : ContactEntry → Bool) (es : List ContactEntry) → AreContacts es → AreContacts (filter p es)
contacts_left p es are = record {
  rising = keys_rise-filter p es are.rising;
  surfaces = All-filter p (λ e. IsSurface e.surface) es are.surfaces;
}

pub contacts_kept : (slot : ℕ) (es : List ContactEntry) → AreContacts es → AreContacts (contacts_without slot es)
contacts_kept slot es are = record {
  rising = keys_rise-filter (λ e. not (has_slot slot e)) es are.rising;
  surfaces = All-filter (λ e. not (has_slot slot e)) (λ e. IsSurface e.surface) es are.surfaces;
}

-- one contact that keeps its key
number_set : (es : List ContactEntry) (i : ℕ) (e f : ContactEntry) → slice_get es i ≡ Some e → number_of f ≡ number_of e → map number_of (slice_set es i f) ≡ map number_of es
number_set [] i e f h same = refl
number_set (x ∷ xs) zero e f h same = let is : x ≡ e = cc in ap (λ n. n ∷ map number_of xs) (same ∙ ap number_of (sym is))
number_set (x ∷ xs) (suc i) e f h same = ap (λ ns. number_of x ∷ ns) (number_set xs i e f h same)

numbers_put : (i : ℕ) (c : Contact) (es : List ContactEntry) (o : Option ContactEntry) → slice_get es i ≡ o → map number_of (contact_set i c es o) ≡ map number_of es
numbers_put i c es None h = refl
numbers_put i c es (Some e) h = number_set es i e (record e { contact = c }) h refl

surfaces_put : (i : ℕ) (c : Contact) (es : List ContactEntry) (o : Option ContactEntry) → slice_get es i ≡ o → All (λ e. IsSurface e.surface) es → All (λ e. IsSurface e.surface) (contact_set i c es o)
surfaces_put i c es None h all = all
surfaces_put i c es (Some e) h all =
    let P : ContactEntry → Type 0 = λ f. IsSurface f.surface in
    All-set P es i (record e { contact = c }) (subst P (get_or_from_slice_get es i e e h) (all i e (slice_get_within es i e h))) all

pub contacts_put : (i : ℕ) (c : Contact) (es : List ContactEntry) → AreContacts es → AreContacts (contact_set i c es (slice_get es i))
contacts_put i c es are = record {
  rising = rw (numbers_put i c es (slice_get es i) refl) are.rising;
  surfaces = surfaces_put i c es (slice_get es i) refl are.surfaces;
}

pub put_is : (es : List ContactEntry) (i : ℕ) (e : ContactEntry) (c : Contact) → i < length es → e ≡ get_or es i e → slice_set es i (record e { contact = c }) ≡ contact_set i c es (slice_get es i)
put_is es i e c lt is = let there : slice_get es i ≡ Some e = slice_get-get_or es i e lt ∙ ap Some (sym is) in rw there refl
