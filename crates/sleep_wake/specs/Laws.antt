-- What keeps a world consistent, and what being consistent means.
use Rattle.std.specs.Prelude.{◌≡◌, ℕ, ◌==◌, ◌||◌, ◌&&◌, not, is_some, ◌↔◌, ◌⊎◌, Bool, true, false, List, [], Some, None, Contains}
use Rattle.graph_colours.specs.declared.member.Member.{Member}
use Rattle.graph_colours.specs.Members.{AreRising}
use Rattle.graph_colours.specs.FoundMembers.{has_id}
use Rattle.graph_colours.specs.Colours.{all_members, IsColouring}
use Rattle.islands.specs.declared.label.Label.{Label}
use Rattle.islands.specs.Links.{Linked, Joined}
use Rattle.islands.specs.Labels.{Labels, label_at, is_asleep, is_loose}
use Rattle.sleep_wake.specs.Acting.{Acting, AreMovers, IsConsistent, links_of, is_mover_awake, are_awake}
use Rattle.sleep_wake.specs.Waking.{woken_at, put_to_rest}
use Rattle.sleep_wake.specs.declared.change.Change.{Change}
use Rattle.sleep_wake.specs.declared.change.Change.TheVariants.{Begin, End}
use Rattle.sleep_wake.specs.Changes.{each_begun, each_ended, ended, begun, after_changes}
use Rattle.sleep_wake.specs.ChangeLists.{CanBegin, CanEnd, AreChanges, AreChangesOf, changes_between}
use Rattle.sleep_wake.specs.Bodies.{dropped, mover_gone, mover_made}
use Rattle.sleep_wake.specs.Sleeping.{sleeping_names, islands_woken, slept_at}
use Rattle.sleep_wake.specs.SleepPhase.{split_at, sleep_phase}

-- ---- what being consistent means

-- The island of a sleeping mover isn't loose, and its members are all that are joined to the mover.
abbrev pub SleepersAreOneComponent : {C : Type 0} → (C → ℕ) → Type 0
SleepersAreOneComponent {C} number = (s : Acting C) (slot : ℕ) (l : Label) → IsConsistent number s → label_at s.labels slot ≡ Some l → is_asleep l.state ≡ true
    → (is_loose l.state ≡ false) × ((other : ℕ) → (label_at s.labels other ≡ Some l) ↔ Joined (Linked (links_of s.ties)) slot other)

-- Linked movers are in one island, both awake or both asleep.
abbrev pub LinkedStandTogether : {C : Type 0} → (C → ℕ) → Type 0
LinkedStandTogether {C} number = (s : Acting C) (a b : ℕ) → IsConsistent number s → Linked (links_of s.ties) a b
    → (label_at s.labels a ≡ label_at s.labels b) × (is_mover_awake s.labels a ≡ is_mover_awake s.labels b)

-- ---- what keeps it

abbrev pub WakingKeeps : {C : Type 0} → (C → ℕ) → Type 0
WakingKeeps {C} number = (s : Acting C) (slot : ℕ) → IsConsistent number s → IsConsistent number (woken_at number slot s)

-- an island that isn't loose may be put to rest
abbrev pub RestingKeeps : {C : Type 0} → (C → ℕ) → Type 0
RestingKeeps {C} number = (s : Acting C) (name : ℕ) (l : Label) → IsConsistent number s → label_at s.labels name ≡ Some l → l.name ≡ name → is_loose l.state ≡ false → IsConsistent number (put_to_rest number name s)

-- a constraint may end while its movers are awake
abbrev pub EndingKeeps : {C : Type 0} → (C → ℕ) → Type 0
EndingKeeps {C} number = (s : Acting C) (m : Member C) → IsConsistent number s → Contains s.ties m → is_mover_awake s.labels m.movers.first ≡ true → IsConsistent number (ended number m s)

-- a constraint may begin while its movers are awake
abbrev pub BeginningKeeps : {C : Type 0} → (C → ℕ) → Type 0
BeginningKeeps {C} number = (s : Acting C) (m : Member C) → IsConsistent number s → has_id number m.id s.ties ≡ false → are_awake s.labels m.movers ≡ true → IsConsistent number (begun number m s)

abbrev pub ChangingKeeps : {C : Type 0} → (C → ℕ) → Type 0
ChangingKeeps {C} number = (s : Acting C) (changes : List (Change C)) → IsConsistent number s → AreChanges number s.labels s.ties changes → IsConsistent number (after_changes number changes s)

-- ---- which constraints there are after changes

-- changes of constraints that are all different may come in any order
abbrev pub ChangesFold : {C : Type 0} → (C → ℕ) → Type 0
ChangesFold {C} number = (labels : Labels) (ties : List (Member C)) (changes : List (Change C)) → AreChangesOf number labels ties changes → AreChanges number labels ties changes

-- those that were there and don't end, and those that begin, whoever wakes
abbrev pub TiesAfter : {C : Type 0} → (C → ℕ) → Type 0
TiesAfter {C} number = (s : Acting C) (labels : Labels) (changes : List (Change C)) (x : Member C) → AreRising number s.ties → AreChangesOf number labels s.ties changes
    → Contains (after_changes number changes s).ties x ↔ ((Contains s.ties x × (Contains changes (End x) → ⊥)) ⊎ Contains changes (Begin x))

-- constraints that ascend are one list if they are the same
abbrev pub OneOrder : {C : Type 0} → (C → ℕ) → Type 0
OneOrder {C} number = (old new : List (Member C)) → AreRising number old → AreRising number new → ((x : Member C) → Contains old x ↔ Contains new x) → old ≡ new

-- the changes between the constraints and others lead to those: each that stays has the movers it had, and all have
-- movers
abbrev pub ChangesLeadTo : {C : Type 0} → (C → ℕ) → Type 0
ChangesLeadTo {C} number = (s : Acting C) (new : List (Member C)) → IsConsistent number s → AreRising number new
    → ((x y : Member C) → Contains s.ties x → Contains new y → number x.id ≡ number y.id → x ≡ y)
    → ((m : Member C) → Contains new m → AreMovers s.labels m.movers)
    → IsConsistent number (after_changes number (changes_between number s.ties new) s) × ((after_changes number (changes_between number s.ties new) s).ties ≡ new)

-- ---- bodies

-- constraints of one mover may go with a body that is no mover
abbrev pub DroppingKeeps : {C : Type 0} → (C → ℕ) → Type 0
DroppingKeeps {C} number = (s : Acting C) (goes : Member C → Bool) → IsConsistent number s → ((m : Member C) → Contains s.ties m → goes m ≡ true → m.movers.second ≡ None) → IsConsistent number (dropped number goes s)

-- an awake mover may go
abbrev pub GoingKeeps : {C : Type 0} → (C → ℕ) → Type 0
GoingKeeps {C} number = (s : Acting C) (slot : ℕ) → IsConsistent number s → is_mover_awake s.labels slot ≡ true → IsConsistent number (mover_gone number slot s)

-- a mover may come where there is none
abbrev pub MakingKeeps : {C : Type 0} → (C → ℕ) → Type 0
MakingKeeps {C} number = (s : Acting C) (slot : ℕ) → IsConsistent number s → label_at s.labels slot ≡ None → IsConsistent number (mover_made slot s)

-- nothing at all is consistent
abbrev pub EmptyIsConsistent : {C : Type 0} → (C → ℕ) → Type 0
EmptyIsConsistent {C} number = (lists : List (List (Member C))) → IsColouring number lists → all_members lists ≡ [] → let empty : Acting C = record { ties = []; labels = []; lists = lists } in IsConsistent number empty

-- ---- the sleep phase

-- an awake island may be split
abbrev pub SplittingKeeps : {C : Type 0} → (C → ℕ) → Type 0
SplittingKeeps {C} number = (s : Acting C) (name : ℕ) (l : Label) → IsConsistent number s → label_at s.labels name ≡ Some l → l.name ≡ name → is_asleep l.state ≡ false → IsConsistent number (split_at name s)

abbrev pub SleepPhaseKeeps : {C : Type 0} → (C → ℕ) → Type 0
SleepPhaseKeeps {C} number = (s : Acting C) (timers : List ℕ) → IsConsistent number s → IsConsistent number (sleep_phase number timers s)

-- islands may wake by their names
abbrev pub WakingNamedKeeps : {C : Type 0} → (C → ℕ) → Type 0
WakingNamedKeeps {C} number = (s : Acting C) (names : List ℕ) → IsConsistent number s → IsConsistent number (islands_woken number names s)

-- several constraints may begin, one after the other
abbrev pub BeginningEachKeeps : {C : Type 0} → (C → ℕ) → Type 0
BeginningEachKeeps {C} number = (s : Acting C) (ms : List (Member C)) → IsConsistent number s → CanBegin number ms s → IsConsistent number (each_begun number ms s)

-- several constraints may end, one after the other
abbrev pub EndingEachKeeps : {C : Type 0} → (C → ℕ) → Type 0
EndingEachKeeps {C} number = (s : Acting C) (ms : List (Member C)) → IsConsistent number s → CanEnd number ms s → IsConsistent number (each_ended number ms s)

-- a mover may be put to sleep
abbrev pub SleepKeeps : {C : Type 0} → (C → ℕ) → Type 0
SleepKeeps {C} number = (s : Acting C) (slot : ℕ) → IsConsistent number s → IsConsistent number (slept_at number slot s)

-- ---- who is a mover

-- there are movers in the same slots
abbrev pub HaveSameMovers : {C : Type 0} → Acting C → Acting C → Type 0
HaveSameMovers old new = (slot : ℕ) → is_some (label_at new.labels slot) ≡ is_some (label_at old.labels slot)

-- whoever wakes or sleeps, and whatever begins or ends
pub record MoversStay {C : Type 0} (number : C → ℕ) : Type 0 where
  pub waking : (s : Acting C) (names : List ℕ) → HaveSameMovers s (islands_woken number names s)
  pub begun : (s : Acting C) (ms : List (Member C)) → HaveSameMovers s (each_begun number ms s)
  pub ended : (s : Acting C) (ms : List (Member C)) → HaveSameMovers s (each_ended number ms s)
  pub after_changes : (s : Acting C) (changes : List (Change C)) → HaveSameMovers s (after_changes number changes s)
  pub slept : (s : Acting C) (slot : ℕ) → IsConsistent number s → HaveSameMovers s (slept_at number slot s)
  pub phase : (s : Acting C) (timers : List ℕ) → IsConsistent number s → HaveSameMovers s (sleep_phase number timers s)

-- one that comes is a mover, and one that goes isn't
pub record MoversComeAndGo {C : Type 0} (number : C → ℕ) : Type 0 where
  pub made : (s : Acting C) (slot other : ℕ) → is_some (label_at (mover_made slot s).labels other) ≡ ((other == slot) || is_some (label_at s.labels other))
  pub gone : (s : Acting C) (slot other : ℕ) → is_some (label_at (mover_gone number slot s).labels other) ≡ (not (other == slot) && is_some (label_at s.labels other))

-- ---- who is awake

-- whoever is awake stays so
abbrev pub NobodyFallsAsleep : {C : Type 0} → Acting C → Acting C → Type 0
NobodyFallsAsleep old new = (slot : ℕ) → is_mover_awake old.labels slot ≡ true → is_mover_awake new.labels slot ≡ true

-- nobody falls asleep where islands wake, or constraints begin and end
pub record AwakeStayAwake {C : Type 0} (number : C → ℕ) : Type 0 where
  pub waking : (s : Acting C) (names : List ℕ) → IsConsistent number s → NobodyFallsAsleep s (islands_woken number names s)
  pub begun : (s : Acting C) (ms : List (Member C)) → IsConsistent number s → CanBegin number ms s → NobodyFallsAsleep s (each_begun number ms s)
  pub ended : (s : Acting C) (ms : List (Member C)) → IsConsistent number s → CanEnd number ms s → NobodyFallsAsleep s (each_ended number ms s)
  pub after_changes : (s : Acting C) (changes : List (Change C)) → IsConsistent number s → AreChanges number s.labels s.ties changes → NobodyFallsAsleep s (after_changes number changes s)

-- The label of an awake mover stays as it is where others wake.
abbrev pub WakingLeavesTheAwake : {C : Type 0} → (C → ℕ) → Type 0
WakingLeavesTheAwake {C} number = (s : Acting C) (names : List ℕ) (slot : ℕ) → IsConsistent number s → is_mover_awake s.labels slot ≡ true → label_at (islands_woken number names s).labels slot ≡ label_at s.labels slot

-- Once the islands of some movers were woken by their names, all of these are awake.
abbrev pub TheNamedAreAwake : {C : Type 0} → (C → ℕ) → Type 0
TheNamedAreAwake {C} number = (s : Acting C) (slots : List ℕ) (slot : ℕ) → IsConsistent number s → Contains slots slot → is_some (label_at s.labels slot) ≡ true → is_mover_awake (islands_woken number (sleeping_names s.labels slots) s).labels slot ≡ true

-- A constraint has a colour just while all its movers are awake.
abbrev pub TheAwakeAct : {C : Type 0} → (C → ℕ) → Type 0
TheAwakeAct {C} number = (s : Acting C) (m : Member C) → IsConsistent number s → Contains s.ties m → Contains (all_members s.lists) m ↔ (are_awake s.labels m.movers ≡ true)
