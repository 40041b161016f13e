-- Inner: lists of constraints that begin and end: what they leave, which may come, and which do between two lists.
use Rattle.std.specs.Prelude.{◌≡◌, ◌≢◌, ℕ, suc, true, false, not, List, [], ◌∷◌, filter, map, Contains, AllPairs}
use Rattle.graph_colours.specs.declared.member.Member.{Member}
use Rattle.graph_colours.specs.Members.{AreRising, inserted, without_member}
use Rattle.graph_colours.specs.FoundMembers.{has_id}
use Rattle.islands.specs.Labels.{Labels}
use Rattle.sleep_wake.specs.declared.change.Change.{Change}
use Rattle.sleep_wake.specs.declared.change.Change.TheVariants.{Begin, End}
use Rattle.sleep_wake.specs.Acting.{Acting, AreMovers, are_awake}
use Rattle.sleep_wake.specs.Changes.{change_number, begins_inserted}

-- the constraints with these, and without these
abbrev pub each_inserted : {C : Type 0} → (C → ℕ) → List (Member C) → List (Member C) → List (Member C)
each_inserted number [] ties = ties
each_inserted number (m ∷ ms) ties = each_inserted number ms (inserted number m ties)

abbrev pub each_without : {C : Type 0} → (C → ℕ) → List (Member C) → List (Member C) → List (Member C)
each_without number [] ties = ties
each_without number (m ∷ ms) ties = each_without number ms (without_member number m.id ties)

-- ---- which changes may come

-- they ascend, none of them is there yet, and their movers are awake
pub record CanBegin {C : Type 0} (number : C → ℕ) (ms : List (Member C)) (s : Acting C) : Type 0 where
  pub rising : AreRising number ms
  pub fresh : (m : Member C) → Contains ms m → has_id number m.id s.ties ≡ false
  pub awake : (m : Member C) → Contains ms m → are_awake s.labels m.movers ≡ true

-- they ascend, are there, and their movers are awake
pub record CanEnd {C : Type 0} (number : C → ℕ) (ms : List (Member C)) (s : Acting C) : Type 0 where
  pub rising : AreRising number ms
  pub there : (m : Member C) → Contains ms m → Contains s.ties m
  pub awake : (m : Member C) → Contains ms m → are_awake s.labels m.movers ≡ true

-- how many of the changes begin
abbrev pub begin_count : {C : Type 0} → List (Change C) → ℕ
begin_count [] = 0
begin_count (Begin m ∷ changes) = suc (begin_count changes)
begin_count (End m ∷ changes) = begin_count changes

-- at its turn each that ends is there, and each that begins isn't, and has movers
abbrev pub AreChanges : {C : Type 0} → (C → ℕ) → Labels → List (Member C) → List (Change C) → Type 0
AreChanges number labels ties [] = Unit {0}
AreChanges number labels ties (Begin m ∷ changes) = (has_id number m.id ties ≡ false) × AreMovers labels m.movers × AreChanges number labels (inserted number m ties) changes
AreChanges number labels ties (End m ∷ changes) = Contains ties m × AreChanges number labels (without_member number m.id ties) changes

-- one that ends is there; one that begins isn't, and has movers
abbrev pub IsChange : {C : Type 0} → (C → ℕ) → Labels → List (Member C) → Change C → Type 0
IsChange number labels ties (Begin m) = (has_id number m.id ties ≡ false) × AreMovers labels m.movers
IsChange number labels ties (End m) = Contains ties m

-- the same of all of them together: no constraint changes twice, so that their order doesn't matter
pub record AreChangesOf {C : Type 0} (number : C → ℕ) (labels : Labels) (ties : List (Member C)) (changes : List (Change C)) : Type 0 where
  pub apart : AllPairs (λ c d. change_number number c ≢ change_number number d) changes
  pub each : (c : Change C) → Contains changes c → IsChange number labels ties c

-- ---- what begins and what ends between two lists of constraints

-- those of the second list whose ids the first lacks
abbrev pub only_in : {C : Type 0} → (C → ℕ) → List (Member C) → List (Member C) → List (Member C)
only_in number others ms = filter (λ m. not (has_id number m.id others)) ms

-- what ends and what begins, in one list that ascends by number
abbrev pub changes_between : {C : Type 0} → (C → ℕ) → List (Member C) → List (Member C) → List (Change C)
changes_between number old new = begins_inserted number (only_in number old new) (map (λ m. End m) (only_in number new old))
