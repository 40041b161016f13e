-- Members that a list gets and loses, one after the other.
use Rattle.std.specs.Prelude.{◌≡◌, ℕ, ◌<◌, ◌≤◌, ◌+◌, ◌==◌, Bool, false, cond, nat_lt, List, [], ◌∷◌, length, Option, Some, None}
use Rattle.std.specs.List.{AllPairs}
use Rattle.graph_colours.specs.declared.member.Member.{Member}
use Rattle.graph_colours.specs.declared.edits.Edit.{Edit}
use Rattle.graph_colours.specs.Members.{AreRising, inserted, without_member}

abbrev pub edit_number : {C : Type 0} → (C → ℕ) → Edit C → ℕ
edit_number number e = number e.member.id

-- the list gets the member, in place of one of the same number
abbrev pub put : {C : Type 0} → (C → ℕ) → Member C → List (Member C) → List (Member C)
put number m ms = inserted number m (without_member number m.id ms)

-- one member more, or one less
abbrev pub edited : {C : Type 0} → (C → ℕ) → Edit C → List (Member C) → List (Member C)
edited number e ms = cond e.adds (put number e.member ms) (without_member number e.member.id ms)

-- the member that it brings, if it does
abbrev pub added : {C : Type 0} → Edit C → List (Member C)
added e = cond e.adds (e.member ∷ []) []

-- the edits one after the other
abbrev pub all_edited : {C : Type 0} → (C → ℕ) → List (Edit C) → List (Member C) → List (Member C)
all_edited number [] ms = ms
all_edited number (e ∷ es) ms = all_edited number es (edited number e ms)

-- each edit's number is below those of all later ones
abbrev pub AreInOrder : {C : Type 0} → (C → ℕ) → List (Edit C) → Type 0
AreInOrder number es = AllPairs (λ e later. edit_number number e < edit_number number later) es

-- the edit of the number
abbrev pub edit_with : {C : Type 0} → (C → ℕ) → ℕ → List (Edit C) → Option (Edit C)
edit_with number n [] = None
edit_with number n (e ∷ es) = cond (edit_number number e == n) (Some e) (edit_with number n es)

-- the first edit is of the number
abbrev pub is_edit_at : {C : Type 0} → (C → ℕ) → ℕ → List (Edit C) → Bool
is_edit_at number n [] = false
is_edit_at number n (e ∷ es) = edit_number number e == n

-- with one more edit, which takes the place of one of the same number
abbrev pub noted : {C : Type 0} → (C → ℕ) → Edit C → List (Edit C) → List (Edit C)
noted number e [] = e ∷ []
noted number e (x ∷ xs) = cond (nat_lt (edit_number number x) (edit_number number e)) (x ∷ noted number e xs) (cond (edit_number number x == edit_number number e) (e ∷ xs) (e ∷ x ∷ xs))

-- what contracts see of a list of which edits are put off: its members once they are made, for how many in all it has
-- room, and how many edits are put off
pub record Pended (C : Type 0) : Type 0 where
  pub items : List (Member C)
  pub capacity : ℕ
  pub pending : ℕ

-- edits that can be made one after the other, in one pass too, and for which there is room
pub record IsEdited {C : Type 0} (number : C → ℕ) (ms : List (Member C)) (es : List (Edit C)) (capacity : ℕ) : Type 0 where
  pub rising : AreRising number ms
  pub in_order : AreInOrder number es
  pub room : length ms + length es ≤ capacity

-- what such a list keeps: edits that can be made, and how many members there are then
pub record IsEditedList {C : Type 0} (number : C → ℕ) (ms : List (Member C)) (es : List (Edit C)) (capacity count : ℕ) : Type 0 where
  pub edited : IsEdited number ms es capacity
  pub counted : count ≡ length (all_edited number es ms)
