-- Where a contact stands in a list whose keys rise.
use Rattle.std.proofs.Common.{◌≡◌, ℕ, zero, suc, ◌<◌, ◌≤◌, List, [], ◌∷◌, length, map, get_or, refl, Some, None, arith}
use Rattle.std.specs.List.Sorted.{IsNonDecreasingBy}
use Rattle.std.specs.List.{AllWithin}
use Rattle.std.proofs.lemmas.List.{get_or-map, length-map}
use Rattle.std.proofs.lemmas.List.Kept.{AllPairs-from_increasing}
use Rattle.std.proofs.lemmas.Bool.Decides.{nat_tests}
use Rattle.contacts_base.specs.declared.key.ContactKey.{ContactKey}
use Rattle.contacts_base.specs.declared.contact.ContactEntry.{ContactEntry}
use Rattle.contacts_base.specs.Keys.{key_number}
use Rattle.contacts_base.specs.Contacts.{number_of, lookup, AreKeysRising}

pub lookup-here : (e : ContactEntry) (es : List ContactEntry) (key : ContactKey) → number_of e ≡ key_number key → lookup (e ∷ es) key ≡ Some e
lookup-here e es key h = grind (arith, nat_tests)

pub lookup-later : (e : ContactEntry) (es : List ContactEntry) (key : ContactKey) → (number_of e ≡ key_number key → ⊥) → lookup (e ∷ es) key ≡ lookup es key
lookup-later e es key h = grind (arith, nat_tests)

-- the first entry with the key's number
pub lookup-at : (es : List ContactEntry) (key : ContactKey) (i : ℕ) (d : ContactEntry) → i < length es → ((k : ℕ) → k < i → number_of (get_or es k d) < key_number key) → number_of (get_or es i d) ≡ key_number key → lookup es key ≡ Some (get_or es i d)
lookup-at [] key i d lt below h = absurd (omega arith)
lookup-at (e ∷ es) key zero d lt below h = lookup-here e es key h
lookup-at (e ∷ es) key (suc i) d lt below h =
    let first : number_of e < key_number key = below 0 (omega arith) in
    rw (lookup-later e es key (λ q. omega arith)) (lookup-at es key i d (omega arith) (λ k q. below (suc k) (omega arith)) h)

-- no entry has the key's number
pub lookup-none : (es : List ContactEntry) (key : ContactKey) (d : ContactEntry) → ((k : ℕ) → k < length es → number_of (get_or es k d) ≡ key_number key → ⊥) → lookup es key ≡ None
lookup-none [] key d h = refl
lookup-none (e ∷ es) key d h = rw (lookup-later e es key (h 0 (omega arith))) (lookup-none es key d (λ k q. h (suc k) (omega arith)))

pub keys_later : (es : List ContactEntry) → AreKeysRising es → (i j : ℕ) (d : ContactEntry) → i < j → j < length es → number_of (get_or es i d) < number_of (get_or es j d)
keys_later es h i j d lt lj =
    let n : length (map number_of es) ≡ length es = length-map es number_of in
    let li : i < length es = omega arith in
    let p : get_or (map number_of es) i 0 < get_or (map number_of es) j 0 = AllPairs-from_increasing _ h i j 0 lt (omega arith) in
    let a : get_or (map number_of es) i 0 ≡ number_of (get_or es i d) = get_or-map number_of es i d 0 li in
    let b : get_or (map number_of es) j 0 ≡ number_of (get_or es j d) = get_or-map number_of es j d 0 lj in
    omega arith

pub keys_not_before : (es : List ContactEntry) → AreKeysRising es → IsNonDecreasingBy number_of es
keys_not_before es h i j d le lj = grind (arith, keys_later es h i j d)

-- the entry e at the first place whose number isn't below the key's
pub lookup-found : (es : List ContactEntry) (key : ContactKey) (i : ℕ) (e : ContactEntry) → AllWithin (λ f. number_of f < key_number key) es 0 i → i < length es → e ≡ get_or es i e → number_of e ≡ key_number key → lookup es key ≡ Some e
lookup-found es key i e before lt is same =
    let h : number_of (get_or es i e) ≡ key_number key = rw (← is) same in
    rw (lookup-at es key i e lt (λ k q. before k e (omega arith) q) h, ← is) refl

pub lookup-missed : (es : List ContactEntry) (key : ContactKey) (i : ℕ) (e : ContactEntry) → AreKeysRising es → AllWithin (λ f. number_of f < key_number key) es 0 i → (i < length es → key_number key ≤ number_of (get_or es i e)) → i < length es → e ≡ get_or es i e → (number_of e ≡ key_number key → ⊥) → lookup es key ≡ None
lookup-missed es key i e rising before there lt is other =
    let here : number_of (get_or es i e) ≡ key_number key → ⊥ = λ q. other (rw (← is) at q) in
    let least : key_number key ≤ number_of (get_or es i e) = there lt in
    lookup-none es key e (λ k q same.
    let low : k < i → ⊥ = λ r. let b : number_of (get_or es k e) < key_number key = before k e (omega arith) r in omega arith in
    let high : i < k → ⊥ = λ r. let b : number_of (get_or es i e) < number_of (get_or es k e) = keys_later es rising i k e r q in omega arith in
    let place : k ≡ i = omega (arith, low, high) in
    here (rw place at same))

pub lookup-beyond : (es : List ContactEntry) (key : ContactKey) (i : ℕ) → AllWithin (λ f. number_of f < key_number key) es 0 i → length es ≤ i → lookup es key ≡ None
lookup-beyond [] key i before ends = refl
lookup-beyond (e ∷ es) key i before ends = lookup-none (e ∷ es) key e (λ k q same. let b : number_of (get_or (e ∷ es) k e) < key_number key = before k e (omega arith) (omega arith) in omega arith)
