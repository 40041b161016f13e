-- What one contact says of those before it and after it, in a list whose keys rise.
use Rattle.std.proofs.Common.{ℕ, ◌+◌, ◌<◌, ◌≤◌, ◌≡◌, List, length, get_or, arith}
use Rattle.std.proofs.lemmas.List.{get_or_default}
use Rattle.contacts_base.specs.declared.contact.ContactEntry.{ContactEntry}
use Rattle.contacts_base.specs.Contacts.{number_of, AreKeysRising}
use Rattle.contacts_base.specs.ContactLists.{IsAllBelow, IsNoneBelow, IsFirstFrom}
use Rattle.contacts_base.proofs.LookupLemmas.{keys_later, keys_not_before}

-- all up to a contact that is below are below
pub all_below : (es : List ContactEntry) → AreKeysRising es → (w i : ℕ) (e : ContactEntry) → i < length es → number_of (get_or es i e) < w → IsAllBelow es w (i + 1)
all_below es rising w i e lt low = record {
  within = omega arith;
  before = λ k d from to.
      let q : number_of (get_or es k e) ≤ number_of (get_or es i e) = keys_not_before es rising k i e (omega arith) lt in
      rw (get_or_default es k d e (omega arith)) (omega arith);
}

-- all from a contact on that isn't below are not
pub none_below : (es : List ContactEntry) → AreKeysRising es → (w i : ℕ) (e : ContactEntry) → i < length es → w ≤ number_of (get_or es i e) → IsNoneBelow es w i
none_below es rising w i e lt high = record {
  within = omega arith;
  after = λ k d from to.
      let q : number_of (get_or es i e) ≤ number_of (get_or es k e) = keys_not_before es rising i k e from to in
      rw (get_or_default es k d e to) (omega arith);
}

pub first_from : (es : List ContactEntry) (w i : ℕ) → IsAllBelow es w i → IsNoneBelow es w i → IsFirstFrom es w i
first_from es w i below above = record { below = below; there = λ d lt. above.after i d (omega arith) lt }

-- the place of the contact with a number
pub first_with : (es : List ContactEntry) → AreKeysRising es → (w i : ℕ) (e : ContactEntry) → i < length es → number_of (get_or es i e) ≡ w → IsFirstFrom es w i
first_with es rising w i e lt same = record {
  below = record {
    within = omega arith;
    before = λ k d from to.
        let later : number_of (get_or es k e) < number_of (get_or es i e) = keys_later es rising k i e to lt in
        rw (get_or_default es k d e (omega arith)) (omega arith);
  };
  there = λ d l. rw (get_or_default es i d e lt) (omega arith);
}
