-- A contact is looked for along a thread: none of the numbers that are passed has the key.
use Rattle.std.proofs.Common.{◌≡◌, ◌≢◌, ℕ, ◌<◌, List, [], ◌∷◌, ◌++◌, Option, Some, None, subst, ap, inl, inr}
use Rattle.std.specs.Prelude.{slice_get, option_map}
use Rattle.std.specs.List.{Contains}
use Rattle.std.proofs.lemmas.List.Elements.{Contains-push_cases}
use Rattle.packed_sets.specs.Once.{AreOnce}
use Rattle.packed_sets.proofs.WalkLaws.{IsAtId, IsWalk, count_from, count_left, walk_at, walk_fewer, walk_on, walk_over}
use Rattle.contacts_base.specs.declared.key.ContactKey.{ContactKey}
use Rattle.contacts.specs.declared.ends.Side.{Side}
use Rattle.contacts.specs.declared.number_book.NumberedContact.{NumberedContact}
use Rattle.contacts.specs.Ends.{slot_on}
use Rattle.contacts.specs.Numbered.{AreEndsAt, number_key_at}

-- no contact with one of these numbers has the key
abbrev pub HaveNotKey : List (Option NumberedContact) → ContactKey → List ℕ → Type 0
HaveNotKey numbered key numbers = (number : ℕ) → Contains numbers number → number_key_at numbered number ≢ Some key

pub record IsSeeking (numbered : List (Option NumberedContact)) (key : ContactKey) (ids : List ℕ) (next : Option ℕ) : Type 0 where
  pub passed : List ℕ
  pub left : List ℕ
  pub walk : IsWalk ids next passed left
  pub others : HaveNotKey numbered key passed

-- what comes behind a number
abbrev pub IsNext : List ℕ → ℕ → Option ℕ → Type 0
IsNext ids number later = (front back : List ℕ) → ids ≡ front ++ number ∷ back → later ≡ slice_get back 0

pub seeking_on : (numbered : List (Option NumberedContact)) (key : ContactKey) (ids : List ℕ) (next : Option ℕ) (number : ℕ) (later : Option ℕ) → IsSeeking numbered key ids next → next ≡ Some number → number_key_at numbered number ≢ Some key → IsNext ids number later → IsSeeking numbered key ids later
seeking_on numbered key ids next number later is at other behind =
    let here : IsAtId ids number is.passed is.left = walk_at ids next number is.passed is.left is.walk at in
    record {
      passed = is.passed ++ number ∷ [];
      left = here.back;
      walk = walk_on ids number is.passed is.left later here (behind is.passed here.back here.whole);
      others = λ y h. elim (Contains-push_cases is.passed number y h) [
        | inl before ↦ is.others y before
        | inr same ↦ subst (λ (k : ℕ). number_key_at numbered k ≢ Some key) same other
      ];
    }

pub seeking_fewer : (numbered : List (Option NumberedContact)) (key : ContactKey) (ids : List ℕ) (next : Option ℕ) (number : ℕ) (later : Option ℕ) → AreOnce ids → IsSeeking numbered key ids next → next ≡ Some number → IsNext ids number later → count_left ids later < count_from ids number
seeking_fewer numbered key ids next number later once is at behind =
    let here : IsAtId ids number is.passed is.left = walk_at ids next number is.passed is.left is.walk at in
    walk_fewer ids number is.passed is.left later once here (behind is.passed here.back here.whole)

-- where none is next no contact of the body has the key
pub seeking_over : (numbered : List (Option NumberedContact)) (key : ContactKey) (side : Side) (ids : List ℕ) (next : Option ℕ) → AreEndsAt side numbered (slot_on side key) ids → IsSeeking numbered key ids next → next ≡ None → (number : ℕ) → number_key_at numbered number ≢ Some key
seeking_over numbered key side ids next ends is none number e =
    let there : Contains ids number = (ends number).1 (ap (λ (o : Option ContactKey). option_map (slot_on side) o) e) in
    is.others number (subst (λ (l : List ℕ). Contains l number) (walk_over ids next is.passed is.left is.walk none) there) e
