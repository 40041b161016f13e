-- What is known of the ties of any world, and what changes of its bodies, joints and contacts do to them.
use Rattle.std.specs.Prelude.{◌≡◌, ℕ, ◌<◌, ◌≤◌, true, false, List, [], Option, Some, None, All, Contains, length, slice_set, ◌++◌}
use Rattle.body_handles.specs.declared.handle.Handle.{Handle}
use Rattle.body_handles.specs.declared.slot_table.SlotEntry.{SlotEntry}
use Rattle.body_handles.specs.declared.slot_table.TheConstants.{MAX_SLOTS}
use Rattle.body_handles.specs.SlotEntries.{IsLive, lowest}
use Rattle.graph_colours.specs.declared.member.Movers.{Movers}
use Rattle.graph_colours.specs.declared.member.Member.{Member}
use Rattle.graph_colours.specs.Members.{AreRising, inserted, without_member}
use Rattle.graph_colours.specs.FoundMembers.{has_id}
use Rattle.graph_colours.specs.Movers.{has_mover}
use Rattle.graph_colours.specs.Colours.{all_members, ids_of}
use Rattle.contacts_base.specs.declared.key.ContactKey.{ContactKey}
use Rattle.contacts_base.specs.declared.contact.ContactEntry.{ContactEntry}
use Rattle.contacts_base.specs.Contacts.{AreKeysRising, contacts_without}
use Rattle.contacts_base.specs.Keys.{key_number}
use Rattle.plain_world.specs.declared.constraint.Constraint.{Constraint}
use Rattle.plain_world.specs.declared.constraint.Constraint.TheVariants.{Joint}
use Rattle.plain_world.specs.Constraints.{constraint_number}
use Rattle.contacts_base.specs.Changes.{keys_touching_only_in}
use Rattle.islands.specs.Labels.{Labels}
use Rattle.sleep_wake.specs.Acting.{Acting, AreMovers, IsConsistent}
use Rattle.sleep_wake.specs.ChangeLists.{AreChanges, begin_count, changes_between, each_inserted, each_without}
use Rattle.plain_world.specs.declared.body.Body.{Body}
use Rattle.plain_world.specs.declared.joint.BodyJoint.{BodyJoint}
use Rattle.plain_world.specs.Joints.{AreJoints, joint_at}
use Rattle.plain_world.specs.Sleep.{told}
use Rattle.plain_world.specs.Slots.{AreMatched, body_at, with_body}
use Rattle.solver_sets.specs.Census.{IsCensus, Standing, census_in, census_of}
use Rattle.solver_sets.specs.EachOnce.{ListsEachOnce}
use Rattle.solver_sets.specs.Beside.{stirred_by, joined_to, touched_by}
use Rattle.solver_sets.specs.BesideByTies.{ShowMoving, stirred_among, ties_among}
use Rattle.solver_sets.specs.Joining.{handle_at, joined_with, unjoined, unjoined_all}
use Rattle.solver_sets.specs.Slept.{asleep_only_in}
use Rattle.solver_sets.specs.SinceTold.{newly_asleep, newly_awake}
use Rattle.solver_sets.specs.Tied.{AreTied}
use Rattle.solver_sets.specs.Alike.{AreAlike, AreAlikeBeside, AreJointSlots, AreTiedAndTold, HaveSameEnds, IsBetweenEnabled, OnlyMoversSleep}
use Rattle.plain_world.specs.Bodies.{moves}
use Rattle.solver_sets.specs.Ties.{IsKeyWithin, IsConstraintWithin, JointSlots, Lists, is_enabled, joint_movers, joint_ties_at, key_changes, members_of, movers_with, slots_of, ties_at, ties_of, touching_keys}

-- ---- what ties are

-- joints and contacts that ascend make ties that ascend
abbrev pub TiesRise : Type 0
TiesRise = (bodies : List (Option Body)) (s : JointSlots) (contacts : List ContactEntry) → AreJointSlots s → AreKeysRising contacts → AreRising constraint_number (ties_of bodies s contacts)

-- their names are within their ranges
abbrev pub TiesAreWithin : Type 0
TiesAreWithin = (bodies : List (Option Body)) (s : JointSlots) (contacts : List ContactEntry) (m : Member Constraint) → AreJointSlots s → All (λ (e : ContactEntry). IsKeyWithin e.key) contacts → Contains (ties_of bodies s contacts) m → IsConstraintWithin m.id

-- no two contacts have keys with one number, where the keys are within their ranges
abbrev pub KeyNumbersAreUnique : Type 0
KeyNumbersAreUnique = (a b : ContactKey) → IsKeyWithin a → IsKeyWithin b → key_number a ≡ key_number b → a ≡ b

-- and no two constraints have one number
abbrev pub ConstraintNumbersAreUnique : Type 0
ConstraintNumbersAreUnique = (a b : Constraint) → IsConstraintWithin a → IsConstraintWithin b → constraint_number a ≡ constraint_number b → a ≡ b

-- movers of two bodies have labels
abbrev pub MoversHaveLabels : Type 0
MoversHaveLabels = (bodies : List (Option Body)) (labels : Labels) (a b : ℕ) (m : Movers) → AreTied bodies labels → movers_with bodies a b ≡ Some m → AreMovers labels m

abbrev pub TiesHaveLabels : Type 0
TiesHaveLabels = (bodies : List (Option Body)) (s : JointSlots) (contacts : List ContactEntry) (labels : Labels) (m : Member Constraint) → AreTied bodies labels → Contains (ties_of bodies s contacts) m → AreMovers labels m.movers

-- lists of ties are those of their names
abbrev pub ListsAreMembers : Type 0
ListsAreMembers = (bodies : List (Option Body)) (s : JointSlots) (contacts : List ContactEntry) (lists : Lists) → ((m : Member Constraint) → Contains (all_members lists) m → Contains (ties_of bodies s contacts) m) → members_of bodies s (ids_of lists) ≡ lists

-- ---- changes that no tie sees

-- bodies that are enabled and movers in the same slots
abbrev pub AlikeBodiesKeepTies : Type 0
AlikeBodiesKeepTies = (old new : List (Option Body)) (s : JointSlots) (contacts : List ContactEntry) → AreAlike old new → ties_of new s contacts ≡ ties_of old s contacts

-- joints with other impulses
abbrev pub ImpulsesKeepTies : Type 0
ImpulsesKeepTies = (bodies : List (Option Body)) (old new : JointSlots) (contacts : List ContactEntry) → new.slot_entries ≡ old.slot_entries → HaveSameEnds old.joints new.joints → ties_of bodies new contacts ≡ ties_of bodies old contacts

-- contacts of which the same touch
abbrev pub SameTouchingKeepTies : Type 0
SameTouchingKeepTies = (bodies : List (Option Body)) (s : JointSlots) (old new : List ContactEntry) → touching_keys new ≡ touching_keys old → ties_of bodies s new ≡ ties_of bodies s old

-- a body that comes into a slot that was free, of which no joint and no contact is
abbrev pub ComingKeepsTies : Type 0
ComingKeepsTies = (bodies : List (Option Body)) (s : JointSlots) (contacts : List ContactEntry) (slot : ℕ) (b : Body) → body_at bodies slot ≡ None → slot ≤ length bodies → AreJoints bodies s.joints → All (IsBetweenEnabled bodies) contacts
    → ties_of (with_body bodies slot b) s contacts ≡ ties_of bodies s contacts

-- bodies that are told who sleeps are alike, and told so
abbrev pub TellingKeepsTies : Type 0
TellingKeepsTies = (bodies : List (Option Body)) (labels : Labels) → AreAlike bodies (told labels bodies)

abbrev pub ToldAreTold : Type 0
ToldAreTold = (bodies : List (Option Body)) (labels : Labels) → AreTied bodies labels → OnlyMoversSleep bodies → AreTiedAndTold (told labels bodies) labels

-- bodies that were told labels fall asleep and wake as these and the labels now differ
abbrev pub ToldBodiesTell : Type 0
ToldBodiesTell = (slot_entries : List SlotEntry) (bodies : List (Option Body)) (old labels : Labels) → AreTiedAndTold bodies old → (newly_asleep slot_entries bodies labels ≡ asleep_only_in slot_entries old labels) × (newly_awake slot_entries bodies labels ≡ asleep_only_in slot_entries labels old)

-- ---- who is beside a body that moves

-- just the movers that a constraint which acts holds to it
abbrev pub ActingShowMoving : Type 0
ActingShowMoving = (bodies : List (Option Body)) (s : JointSlots) (contacts : List ContactEntry) (a : Acting Constraint) → AreTied bodies a.labels → length s.slot_entries ≡ length s.joints → IsConsistent constraint_number a → a.ties ≡ ties_of bodies s contacts
    → ShowMoving bodies s.joints contacts a.labels a.lists

-- ---- joints

-- with a constraint that has movers, or as they were where it has none
abbrev pub with_tie : Constraint → Option Movers → List (Member Constraint) → List (Member Constraint)
with_tie id None ties = ties
with_tie id (Some m) ties = inserted constraint_number (record { id = id; movers = m }) ties

abbrev pub without_tie : Constraint → Option Movers → List (Member Constraint) → List (Member Constraint)
without_tie id None ties = ties
without_tie id (Some m) ties = without_member constraint_number id ties

-- what a joint that is made does
pub record IsJoined (bodies : List (Option Body)) (s : JointSlots) (contacts : List ContactEntry) (h : Handle) (j : BodyJoint) (new : JointSlots) : Type 0 where
  pub slots : AreJointSlots new
  pub fresh : has_id constraint_number (Joint h) (ties_of bodies s contacts) ≡ false
  pub ties : ties_of bodies new contacts ≡ with_tie (Joint h) (joint_movers bodies j) (ties_of bodies s contacts)

abbrev pub JoiningAddsTies : Type 0
JoiningAddsTies = (bodies : List (Option Body)) (s : JointSlots) (contacts : List ContactEntry) (j : BodyJoint) → AreJointSlots s → AreKeysRising contacts → lowest s.slot_entries < MAX_SLOTS → IsJoined bodies s contacts (handle_at s.slot_entries (lowest s.slot_entries)) j (joined_with j s)

-- what a joint that goes does
pub record IsUnjoined (bodies : List (Option Body)) (s : JointSlots) (contacts : List ContactEntry) (h : Handle) (j : BodyJoint) (new : JointSlots) : Type 0 where
  pub slots : AreJointSlots new
  pub there : (m : Movers) → joint_movers bodies j ≡ Some m → Contains (ties_of bodies s contacts) (record { id = Joint h; movers = m })
  pub ties : ties_of bodies new contacts ≡ without_tie (Joint h) (joint_movers bodies j) (ties_of bodies s contacts)

abbrev pub UnjoiningTakesTies : Type 0
UnjoiningTakesTies = (bodies : List (Option Body)) (s : JointSlots) (contacts : List ContactEntry) (h : Handle) (j : BodyJoint) → AreJointSlots s → AreKeysRising contacts → IsLive s.slot_entries h → joint_at s.joints h.slot ≡ Some j → IsUnjoined bodies s contacts h j (unjoined h s)

-- ---- bodies

-- the ties of a body ascend, and are ties
pub record AreTiesAt (slot : ℕ) (bodies : List (Option Body)) (s : JointSlots) (contacts : List ContactEntry) : Type 0 where
  pub rising : AreRising constraint_number (ties_at slot bodies s contacts)
  pub there : (m : Member Constraint) → Contains (ties_at slot bodies s contacts) m → Contains (ties_of bodies s contacts) m

abbrev pub TiesAtAreTies : Type 0
TiesAtAreTies = (slot : ℕ) (bodies : List (Option Body)) (s : JointSlots) (contacts : List ContactEntry) → AreJointSlots s → AreKeysRising contacts → AreTiesAt slot bodies s contacts

-- a body that goes with its joints and its contacts takes just its ties along
abbrev pub GoingTakesTies : Type 0
GoingTakesTies = (slot : ℕ) (bodies : List (Option Body)) (s : JointSlots) (contacts : List ContactEntry) → AreJointSlots s → AreKeysRising contacts
    → AreJointSlots (unjoined_all slot s) × (ties_of (slice_set bodies slot None) (unjoined_all slot s) (contacts_without slot contacts) ≡ each_without constraint_number (ties_at slot bodies s contacts) (ties_of bodies s contacts))

-- so does one that is disabled, and loses its contacts; its joints stay, and may lose their impulses
abbrev pub DisablingTakesTies : Type 0
DisablingTakesTies = (slot : ℕ) (old new : List (Option Body)) (s : JointSlots) (joints : List (Option BodyJoint)) (contacts : List ContactEntry) → AreJointSlots s → AreKeysRising contacts
    → AreAlikeBeside slot old new → is_enabled new slot ≡ false → HaveSameEnds s.joints joints
    → ties_of new (slots_of s.slot_entries joints) (contacts_without slot contacts) ≡ each_without constraint_number (ties_at slot old s contacts) (ties_of old s contacts)

-- a body that is enabled: its joints begin
pub record IsTakenUp (slot : ℕ) (old new : List (Option Body)) (s : JointSlots) (contacts : List ContactEntry) : Type 0 where
  pub rising : AreRising constraint_number (joint_ties_at slot new s)
  pub fresh : (m : Member Constraint) → Contains (joint_ties_at slot new s) m → has_id constraint_number m.id (ties_of old s contacts) ≡ false
  pub ties : ties_of new s contacts ≡ each_inserted constraint_number (joint_ties_at slot new s) (ties_of old s contacts)

abbrev pub EnablingAddsTies : Type 0
EnablingAddsTies = (slot : ℕ) (old new : List (Option Body)) (s : JointSlots) (contacts : List ContactEntry) → AreJointSlots s → AreKeysRising contacts
    → AreAlikeBeside slot old new → is_enabled old slot ≡ false → All (IsBetweenEnabled old) contacts → IsTakenUp slot old new s contacts

-- ---- who is woken before

-- a mover is a mover of each of its ties
abbrev pub TiesOfAMover : Type 0
TiesOfAMover = (slot : ℕ) (bodies : List (Option Body)) (s : JointSlots) (contacts : List ContactEntry) (m : Member Constraint) → moves bodies slot ≡ true → Contains (ties_at slot bodies s contacts) m → has_mover m.movers slot ≡ true

-- the ties of a body that is no mover have one mover each, which is beside it
abbrev pub TiesOfNoMover : Type 0
TiesOfNoMover = (slot : ℕ) (bodies : List (Option Body)) (s : JointSlots) (contacts : List ContactEntry) (m : Member Constraint) → moves bodies slot ≡ false → Contains (ties_at slot bodies s contacts) m → (m.movers.second ≡ None) × Contains (joined_to bodies s.joints slot ++ touched_by bodies contacts slot) m.movers.first

-- the ties of a body are picked of all ties that there are
abbrev pub TiesArePicked : Type 0
TiesArePicked = (slot : ℕ) (bodies : List (Option Body)) (s : JointSlots) (contacts : List ContactEntry) → ties_among slot s.joints (ties_of bodies s contacts) ≡ ties_at slot bodies s contacts

-- and so are those whom a change of it wakes
abbrev pub StirredArePicked : Type 0
StirredArePicked = (slot : ℕ) (bodies : List (Option Body)) (s : JointSlots) (contacts : List ContactEntry) → AreMatched s.slot_entries s.joints → stirred_among bodies s.joints (ties_of bodies s contacts) slot ≡ stirred_by bodies s.joints contacts slot

-- one that isn't enabled has none
abbrev pub NoTiesOfDisabled : Type 0
NoTiesOfDisabled = (slot : ℕ) (bodies : List (Option Body)) (s : JointSlots) (contacts : List ContactEntry) → is_enabled bodies slot ≡ false → ties_at slot bodies s contacts ≡ []

-- ---- the collide

-- What begins and ends to touch is what begins and ends between the ties before and after.
abbrev pub KeysChange : Type 0
KeysChange = (bodies : List (Option Body)) (s : JointSlots) (old new : List ContactEntry) → AreJointSlots s → AreKeysRising old → AreKeysRising new → All (λ (e : ContactEntry). IsKeyWithin e.key) old → All (λ (e : ContactEntry). IsKeyWithin e.key) new
    → key_changes bodies (keys_touching_only_in old new) (keys_touching_only_in new old) ≡ changes_between constraint_number (ties_of bodies s old) (ties_of bodies s new)

-- a constraint that is a tie before and after has the same movers
abbrev pub SameIdsSameTies : Type 0
SameIdsSameTies = (bodies : List (Option Body)) (s : JointSlots) (old new : List ContactEntry) (x y : Member Constraint) → AreJointSlots s → All (λ (e : ContactEntry). IsKeyWithin e.key) old → All (λ (e : ContactEntry). IsKeyWithin e.key) new
    → Contains (ties_of bodies s old) x → Contains (ties_of bodies s new) y → constraint_number x.id ≡ constraint_number y.id → x ≡ y

-- each that ends is there at its turn, and each that begins isn't, and has movers
abbrev pub KeysCanChange : Type 0
KeysCanChange = (bodies : List (Option Body)) (s : JointSlots) (old new : List ContactEntry) (labels : Labels) → AreJointSlots s → AreKeysRising old → AreKeysRising new → All (λ (e : ContactEntry). IsKeyWithin e.key) old → All (λ (e : ContactEntry). IsKeyWithin e.key) new → AreTied bodies labels
    → AreChanges constraint_number labels (ties_of bodies s old) (key_changes bodies (keys_touching_only_in old new) (keys_touching_only_in new old))

-- no more begin than begin to touch
abbrev pub FewBegin : Type 0
FewBegin = (bodies : List (Option Body)) (begins ends : List ContactKey) → begin_count (key_changes bodies begins ends) ≤ length begins

-- ---- the census

abbrev pub ListsAreCensus : Type 0
ListsAreCensus = (standings : List Standing) → IsCensus standings (census_in standings)

-- Where bodies and joints are just in the slots that are taken, the contacts ascend and only movers sleep, each body,
-- joint and contact stands in one set and is listed there, once.
abbrev pub CensusListsEachOnce : Type 0
CensusListsEachOnce = (slot_entries : List SlotEntry) (bodies : List (Option Body)) (s : JointSlots) (contacts : List ContactEntry) → AreMatched slot_entries bodies → AreMatched s.slot_entries s.joints → AreKeysRising contacts → OnlyMoversSleep bodies
    → ListsEachOnce slot_entries bodies s contacts (census_of slot_entries bodies s contacts)
