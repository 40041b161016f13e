-- The constraints, islands and colours that a command leaves, put into the world with its bodies told: they are those
-- of the new world, and it is consistent.
use Rattle.std.proofs.Common.{◌≡◌, ℕ, ◌+◌, ◌*◌, ◌^◌, ◌≤◌, List, [], ◌∷◌, length, All, Bool, true, false, cond, is_some, Option, Some, None, refl, sym, ap, ◌∙◌, subst}
use Rattle.std.specs.Prelude.{Contains, not}
use Rattle.std.specs.Option.{is_none, option_map_or}
use Rattle.fixed_geom.specs.Vectors.{IsWithin}
use Rattle.body_handles.specs.SlotEntries.{IsSlotEntry}
use Rattle.impulse_ledger.specs.Sums.{total}
use Rattle.contacts_base.specs.Contacts.{AreKeysRising}
use Rattle.plain_world.specs.Constraints.{constraint_number}
use Rattle.plain_world.specs.declared.constraint.Constraint.{Constraint}
use Rattle.graph_colours.specs.Colours.{ids_of}
use Rattle.graph_colours.specs.declared.member.Member.{Member}
use Rattle.islands.specs.Labels.{Labels, is_asleep, label_at, sleeping_name}
use Rattle.islands.specs.declared.label.Label.{Label}
use Rattle.colour_solver.proofs.VectorLaws.{same_x, same_y}
use Rattle.plain_world.specs.declared.body.Body.{Body}
use Rattle.plain_world.specs.Bodies.{AreBodies, is_awake, is_mover, is_mover_in}
use Rattle.plain_world.specs.Momentum.{momentum}
use Rattle.plain_world.specs.Joints.{AreJoints}
use Rattle.plain_world.specs.Plain.{Plain}
use Rattle.plain_world.specs.Sleep as sleep
use Rattle.plain_world.specs.Formed.{AreFiltered}
use Rattle.plain_world.specs.Slots.{AreMatched, body_at}
use Rattle.plain_world.specs.InSlots.{HaveSameSlots}
use Rattle.sleep_wake.specs.Acting.{Acting, IsConsistent}
use Rattle.sleep_wake.specs.Acting as acting
use Rattle.sleep_wake.specs.Sleeping.{islands_woken, sleeping_names}
use Rattle.sleep_wake.specs.Sleeping as naming
use Rattle.sleep_wake.specs.Waking.{set_woken, woken_at}
use Rattle.solver_sets.specs.Tied.{AreTied}
use Rattle.solver_sets.specs.Alike.{AreAlike}
use Rattle.solver_sets.specs.Ties.{members_of, ties_of}
use Rattle.world_core_base.specs.ContactBodies.{AreContactsOf}
use Rattle.world_rules.specs.Sets.{acting_of, with_acting, with_woken}
use Rattle.world_rules.specs.Sound.{AreSmall, AreTimers, AreTold, HasBodies}
use Rattle.world_rules.specs.World.{World, book_of, joints_in_slots}
use Rattle.world_rules.proofs.LowerLaws.{alike_bodies_keep_ties, awake_stay_awake, lists_are_members, movers_stay, waking_named_keeps}
use Rattle.sleep_wake.proofs.LengthLemmas.{waking_long}
use Rattle.world_rules.proofs.KeptContacts.{contacts_of_same, has_bodies_same, joints_same, moves_alike}
use Rattle.world_rules.proofs.ShapeLaws.{filters_same}
use Rattle.world_rules.proofs.SlotLemmas.{AreMatched-same}
use Rattle.world_rules.proofs.SoundLaws.{IsKept}
use Rattle.world_rules.proofs.ToldLaws.{NobodyFallsAsleep, length_told, told_alike, told_are_bodies, told_are_told, told_same_shapes, told_same_slots, told_stays, told_tied, told_timers, waking_momentum}

-- the constraints, islands and colours s are those of the lists of w, but for who sleeps
pub record IsActing (w : Plain) (s : Acting Constraint) : Type 0 where
  pub consistent : IsConsistent constraint_number s
  pub ties : s.ties ≡ ties_of w.bodies (joints_in_slots w) w.contacts
  pub tied : AreTied w.bodies s.labels
  pub long : length s.labels ≡ length w.bodies

-- what follows of the world with them
pub record IsActed (w : Plain) (s : Acting Constraint) : Type 0 where
  pub acting : acting_of (with_acting s w) ≡ s
  pub consistent : IsConsistent constraint_number (acting_of (with_acting s w))
  pub tied : AreTied (sleep.told s.labels w.bodies) s.labels
  pub told : AreTold (sleep.told s.labels w.bodies) s.labels
  pub labels : length s.labels ≡ length (sleep.told s.labels w.bodies)
  pub moved : ids_of (members_of (sleep.told s.labels w.bodies) (joints_in_slots w) (ids_of s.lists)) ≡ ids_of s.lists

-- bodies told keep the ties
told_ties : (w : Plain) (s : Acting Constraint) → IsActing w s → ties_of (sleep.told s.labels w.bodies) (joints_in_slots w) w.contacts ≡ s.ties
told_ties w s is = alike_bodies_keep_ties w.bodies (sleep.told s.labels w.bodies) (joints_in_slots w) w.contacts (told_alike s.labels w.bodies) ∙ sym is.ties

-- and the colours are those of the lists' names
told_lists : (w : Plain) (s : Acting Constraint) → IsActing w s → members_of (sleep.told s.labels w.bodies) (joints_in_slots w) (ids_of s.lists) ≡ s.lists
told_lists w s is =
    lists_are_members (sleep.told s.labels w.bodies) (joints_in_slots w) w.contacts s.lists
    (λ m h. subst (λ (ts : List (Member Constraint)). Contains ts m) (sym (told_ties w s is)) (((is.consistent.acting m).0 h).0))

same_acting : (w : Plain) (s : Acting Constraint) → IsActing w s → acting_of (with_acting s w) ≡ s
unfolding acting_of
same_acting w s is = λ j. record { ties = told_ties w s is j; labels = s.labels; lists = told_lists w s is j }

pub acted : (w : Plain) (s : Acting Constraint) → AreBodies w.bodies → IsActing w s → IsActed w s
acted w s bodies is = record {
  acting = same_acting w s is;
  consistent = subst (IsConsistent constraint_number) (sym (same_acting w s is)) is.consistent;
  tied = told_tied s.labels w.bodies is.tied;
  told = told_are_told s.labels w.bodies bodies is.tied;
  labels = is.long ∙ sym (length_told s.labels w.bodies);
  moved = ap ids_of (told_lists w s is);
}

-- ---- the lists of a world, beside its islands and its colours

-- what a kept world keeps of them, whoever sleeps
pub record AreLists (w : World) : Type 0 where
  pub total_x : (momentum w.plain.bodies).x ≡ (total (book_of w)).x
  pub total_y : (momentum w.plain.bodies).y ≡ (total (book_of w)).y
  pub causes : AreSmall (2 ^ 126 + w.plain.calls * 2 ^ 83) (book_of w)
  pub bodies : AreBodies w.plain.bodies
  pub filters : AreFiltered w.plain.bodies
  pub timers : AreTimers w.plain.steps w.plain.bodies
  pub matched : AreMatched w.plain.slot_entries w.plain.bodies
  pub slot_entries : All IsSlotEntry w.plain.slot_entries
  pub joint_slots : AreMatched w.plain.joint_entries w.plain.joints
  pub joint_entries : All IsSlotEntry w.plain.joint_entries
  pub joints : AreJoints w.plain.bodies w.plain.joints
  pub contacts : AreKeysRising w.plain.contacts
  pub pairs : AreContactsOf w.plain.bodies w.plain.contacts
  pub there : All (HasBodies w.plain.bodies) w.plain.contacts
  pub gravity : IsWithin (2 ^ 16) w.plain.gravity
  pub steps : w.plain.steps ≤ w.plain.calls
  pub calls : w.plain.calls ≤ 2 ^ 40

pub lists_kept : (w : World) → IsKept w → AreLists w
lists_kept w k = record {
  total_x = k.total_x;
  total_y = k.total_y;
  causes = k.causes;
  bodies = k.bodies;
  filters = k.filters;
  timers = k.timers;
  matched = k.matched;
  slot_entries = k.slot_entries;
  joint_slots = k.joint_slots;
  joint_entries = k.joint_entries;
  joints = k.joints;
  contacts = k.contacts;
  pairs = k.pairs;
  there = k.there;
  gravity = k.gravity;
  steps = k.steps;
  calls = k.calls;
}

-- a world is kept if its lists are, and its islands and colours go with them
pub kept_of : (w : World) → AreLists w → IsConsistent constraint_number (acting_of w.plain) → AreTied w.plain.bodies w.plain.islands → AreTold w.plain.bodies w.plain.islands
    → length w.plain.islands ≡ length w.plain.bodies → ids_of (members_of w.plain.bodies (joints_in_slots w.plain) w.plain.colours) ≡ w.plain.colours → IsKept w
kept_of w l consistent tied told labels moved = record {
  total_x = l.total_x;
  total_y = l.total_y;
  causes = l.causes;
  bodies = l.bodies;
  filters = l.filters;
  timers = l.timers;
  matched = l.matched;
  slot_entries = l.slot_entries;
  joint_slots = l.joint_slots;
  joint_entries = l.joint_entries;
  joints = l.joints;
  contacts = l.contacts;
  pairs = l.pairs;
  there = l.there;
  consistent = consistent;
  tied = tied;
  told = told;
  labels = labels;
  moved = moved;
  gravity = l.gravity;
  steps = l.steps;
  calls = l.calls;
}

-- the lists with the bodies told, if that leaves the momentum as it is
lists_told : (w : World) (s : Acting Constraint) → AreLists w → momentum (sleep.told s.labels w.plain.bodies) ≡ momentum w.plain.bodies
    → AreLists (record w { plain = with_acting s w.plain })
lists_told w s l still =
    let old = w.plain.bodies in
    let new = sleep.told s.labels old in
    let slots = told_same_slots s.labels old in
    let shapes = told_same_shapes s.labels old in
    let moves = moves_alike old new (told_alike s.labels old) slots in
    record {
      total_x = same_x still ∙ l.total_x;
      total_y = same_y still ∙ l.total_y;
      causes = l.causes;
      bodies = told_are_bodies s.labels old l.bodies;
      filters = filters_same old new shapes l.filters;
      timers = told_timers s.labels old w.plain.steps l.timers;
      matched = AreMatched-same w.plain.slot_entries old new slots l.matched;
      slot_entries = l.slot_entries;
      joint_slots = l.joint_slots;
      joint_entries = l.joint_entries;
      joints = joints_same old new w.plain.joints slots l.joints;
      contacts = l.contacts;
      pairs = contacts_of_same old new w.plain.contacts moves l.pairs;
      there = has_bodies_same old new w.plain.contacts slots (told_alike s.labels old) shapes l.there;
      gravity = l.gravity;
      steps = l.steps;
      calls = l.calls;
    }

-- lists with the constraints, islands and colours that go with them make a kept world
pub acting_put : (w : World) (s : Acting Constraint) → AreLists w → IsActing w.plain s → momentum (sleep.told s.labels w.plain.bodies) ≡ momentum w.plain.bodies
    → IsKept (record w { plain = with_acting s w.plain })
acting_put w s l is still =
    let a = acted w.plain s l.bodies is in
    kept_of (record w { plain = with_acting s w.plain }) (lists_told w s l still) a.consistent a.tied a.told a.labels a.moved

-- the same where nobody falls asleep
pub awake_put : (w : World) (s : Acting Constraint) → AreLists w → IsActing w.plain s → NobodyFallsAsleep w.plain.bodies s.labels → IsKept (record w { plain = with_acting s w.plain })
awake_put w s l is h = acting_put w s l is (waking_momentum s.labels w.plain.bodies l.bodies h)

-- ---- bodies and labels that are awake

no_name : (t : Bool) (name : ℕ) → not t ≡ true → cond t (Some name) None ≡ None
no_name false name h = refl
no_name true name h = cc

-- an awake label has no name under which to sleep
pub awake_name : (o : Option Label) → acting.awake_label o ≡ true → sleeping_name o ≡ None
awake_name None h = refl
awake_name (Some l) h = no_name (is_asleep l.state) l.name h

not_asleep : (t : Bool) (name : ℕ) → cond t (Some name) None ≡ None → not t ≡ true
not_asleep false name h = refl
not_asleep true name h = cc

pub name_awake : (o : Option Label) → is_some o ≡ true → sleeping_name o ≡ None → acting.awake_label o ≡ true
name_awake None some h = cc
name_awake (Some l) some h = not_asleep (is_asleep l.state) l.name h

awake_mover : (m : Bool) (a : Option ℕ) → cond m (is_none a) false ≡ true → (m ≡ true) × (a ≡ None)
awake_mover true None h = (refl, refl)
awake_mover true (Some name) h = cc
awake_mover false a h = cc

-- the island of an awake body is awake
pub awake_label : (bodies : List (Option Body)) (labels : Labels) (slot : ℕ) (b : Body) → AreTied bodies labels → AreTold bodies labels → body_at bodies slot ≡ Some b → is_awake b ≡ true → acting.is_mover_awake labels slot ≡ true
awake_label bodies labels slot b tied told at up =
    let m = awake_mover (is_mover b) b.asleep up in
    name_awake (label_at labels slot) (tied slot ∙ ap is_mover_in at ∙ m.0) (sym (told slot b at) ∙ m.1)

-- nobody falls asleep whose island stays awake
pub stay_awake : (bodies : List (Option Body)) (old new : Labels) → AreTied bodies old → AreTold bodies old → ((slot : ℕ) → acting.is_mover_awake old slot ≡ true → acting.is_mover_awake new slot ≡ true) → NobodyFallsAsleep bodies new
stay_awake bodies old new tied told h slot b at up = awake_name (label_at new slot) (h slot (awake_label bodies old slot b tied told at up))

-- ---- waking first

-- what is known of a world in which some islands were woken first
pub record IsWoken (w : World) (movers : List ℕ) : Type 0 where
  pub kept : IsKept (record w { plain = with_woken w.plain movers })
  pub acting : acting_of (with_woken w.plain movers) ≡ islands_woken constraint_number (sleeping_names w.plain.islands movers) (acting_of w.plain)
  pub alike : AreAlike w.plain.bodies (with_woken w.plain movers).bodies
  pub slots : HaveSameSlots w.plain.bodies (with_woken w.plain movers).bodies

woken_ties : (slot : ℕ) (s : Acting Constraint) → (woken_at constraint_number slot s).ties ≡ s.ties
unfolding woken_at set_woken
woken_ties slot s = by_label (label_at s.labels slot)
  where
    by_sleep : (t : Bool) (name : ℕ) → (cond t (set_woken constraint_number name s) s).ties ≡ s.ties
    by_sleep true name = refl
    by_sleep false name = refl

    by_label : (o : Option Label) → (option_map_or (λ (l : Label). cond (is_asleep l.state) (set_woken constraint_number l.name s) s) o s).ties ≡ s.ties
    by_label None = refl
    by_label (Some l) = by_sleep (is_asleep l.state) l.name

-- waking leaves the constraints as they are
pub islands_woken_ties : (names : List ℕ) (s : Acting Constraint) → (islands_woken constraint_number names s).ties ≡ s.ties
islands_woken_ties [] s = refl
islands_woken_ties (name ∷ names) s = islands_woken_ties names (woken_at constraint_number name s) ∙ woken_ties name s

-- the constraints and islands once some islands were woken
pub woken_acting : (w : World) (names : List ℕ) → IsKept w → IsActing w.plain (islands_woken constraint_number names (acting_of w.plain))
unfolding acting_of
woken_acting w names k =
    let s = acting_of w.plain in
    record {
      consistent = waking_named_keeps s names k.consistent;
      ties = islands_woken_ties names s;
      tied = λ slot. movers_stay.waking s names slot ∙ k.tied slot;
      long = waking_long constraint_number names s ∙ k.labels;
    }

woken_awake : (w : World) (names : List ℕ) → IsKept w → NobodyFallsAsleep w.plain.bodies (islands_woken constraint_number names (acting_of w.plain)).labels
unfolding acting_of
woken_awake w names k = let s = acting_of w.plain in stay_awake w.plain.bodies w.plain.islands (islands_woken constraint_number names s).labels k.tied k.told (awake_stay_awake.waking s names k.consistent)

pub waking_kept : (w : World) (slots : List ℕ) → IsKept w → IsWoken w slots
waking_kept w slots k =
    let names = sleeping_names w.plain.islands slots in
    let s = islands_woken constraint_number names (acting_of w.plain) in
    record {
      kept = awake_put w s (lists_kept w k) (woken_acting w names k) (woken_awake w names k);
      acting = (acted w.plain s k.bodies (woken_acting w names k)).acting;
      alike = told_alike s.labels w.plain.bodies;
      slots = told_same_slots s.labels w.plain.bodies;
    }

-- the bodies of a kept world are told already
pub told_kept : (w : World) → IsKept w → sleep.told w.plain.islands w.plain.bodies ≡ w.plain.bodies
told_kept w k = told_stays w.plain.islands w.plain.bodies k.bodies k.told
