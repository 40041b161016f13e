-- What begins or ends to touch has movers that are awake once all constraints that change had their turn: so its
-- contact sleeps with nobody.
use Rattle.std.proofs.Common.{◌≡◌, ◌∙◌, ◌==◌, ◌&&◌, ◌⊎◌, ℕ, ◌<◌, All, Bool, true, false, cond, List, [], ◌∷◌, length, map, Option, Some, None, nat_lt, inl, inr, refl, sym, ap, subst, arith}
use Rattle.std.specs.Prelude.{Contains, filter_map, option_map}
use Rattle.std.specs.List.{cons_option}
use Rattle.std.proofs.lemmas.Bool.{false≢true}
use Rattle.std.proofs.lemmas.List.Elements.{All-contains, All-weaker}
use Rattle.std.specs.Option.{option_map_or}
use Rattle.contacts_base.specs.Changes.{key_if_new, key_if_touching, keys_touching_only_in}
use Rattle.plain_world.specs.Constraints.{constraint_number}
use Rattle.plain_world.specs.declared.constraint.Constraint.{Constraint}
use Rattle.plain_world.specs.declared.constraint.Constraint.TheVariants.{Contact}
use Rattle.contacts.specs.Touching.{TouchesOnlyIn}
use Rattle.contacts_base.specs.declared.contact.ContactEntry.{ContactEntry}
use Rattle.contacts_base.specs.declared.key.ContactKey.{ContactKey}
use Rattle.contacts_base.specs.Contacts.{AreKeysRising, is_touching, lookup, number_of}
use Rattle.contacts_base.specs.Evaluate.{touches}
use Rattle.contacts_base.specs.Keys.{key_number}
use Rattle.graph_colours.proofs.PlaceLemmas.{same_from}
use Rattle.graph_colours.specs.declared.member.Member.{Member}
use Rattle.graph_colours.specs.declared.member.Movers.{Movers}
use Rattle.islands.proofs.JoinLemmas.{contains_cases, contains_head, contains_tail}
use Rattle.islands.specs.Labels.{Labels, label_at, sleeping_name}
use Rattle.packed_sets.proofs.ItemLaws.{none_in}
use Rattle.plain_world.specs.declared.body.Body.{Body}
use Rattle.plain_world.specs.declared.kind.Kind.{Kind}
use Rattle.plain_world.specs.declared.kind.Kind.TheVariants.{Static, Kinematic, Dynamic}
use Rattle.plain_world.specs.Bodies.{is_mover, is_mover_in, moves}
use Rattle.plain_world.specs.Kinds.{is_dynamic}
use Rattle.plain_world.specs.Sleep.{told, told_body}
use Rattle.plain_world.specs.Slots.{body_at, shapes_in}
use Rattle.sleep_wake.proofs.ChangeOwn.{IsReady, change_keeps, ready_for}
use Rattle.sleep_wake.proofs.FoldLemmas.{Labelled, change_next, change_now, changed_labelled, woken_ready}
use Rattle.sleep_wake.specs.Acting.{Acting, IsConsistent, are_awake, is_mover_awake}
use Rattle.sleep_wake.specs.ChangeLists.{AreChanges, IsChange}
use Rattle.sleep_wake.specs.Changes.{after_change, after_changes, begins_inserted, begun, change_inserted, change_number, ended}
use Rattle.sleep_wake.specs.declared.change.Change.{Change}
use Rattle.sleep_wake.specs.declared.change.Change.TheVariants.{Begin, End}
use Rattle.sleep_wake.specs.Waking.{movers_woken}
use Rattle.solver_sets.proofs.CollideLaws.{same_key}
use Rattle.solver_sets.specs.Alike.{AreAlike}
use Rattle.solver_sets.specs.Ties.{IsKeyWithin, contact_bond, contact_movers, is_enabled, is_enabled_in, key_changes, key_ties, movers_if, movers_with, tie_of}
use Rattle.world_core.proofs.ContactSetLaws.{and_first, and_second}
use Rattle.world_core.proofs.KeepLaws.{named_low, tie_up}
use Rattle.world_core.proofs.PartLaws.{kept_of}
use Rattle.world_core.proofs.RisingLaws.{contacts_after_rise}
use Rattle.world_core.proofs.StepLaws.{AreFound, HasChanged, has_changed}
use Rattle.world_core.proofs.TellingLaws.{HaveSlept, after_changes_slept}
use Rattle.world_core.specs.Inside.{IsWhole}
use Rattle.world_core_base.proofs.AsleepLaws.{mover_below, told_moves, told_under}
use Rattle.world_core_base.proofs.TellLaws.{length-told}
use Rattle.world_core_base.specs.Turned.{AreTurned}
use Rattle.world_core_base.specs.ContactBodies.{AreContactsOf, IsContactOf}
use Rattle.world_core_base.specs.Asleep.{AreNamedAsleep, sleep_with}
use Rattle.world_rules.proofs.ActingLaws.{awake_name}
use Rattle.world_rules.proofs.KeptStep.{changed_in, collide_kept, collided_in, collided_world}
use Rattle.world_rules.proofs.PairLaws.{contacts_of_after, has_bodies_after}
use Rattle.world_rules.proofs.QuietLaws.{SleepAlike, begun_alike, ended_alike}
use Rattle.world_rules.proofs.SoundLaws.{IsKept}
use Rattle.world_rules.proofs.StepCalls.{can_change}
use Rattle.world_rules.proofs.ToldLaws.{told_alike}
use Rattle.world_rules.specs.Sets.{acting_of}
use Rattle.world_rules.specs.Sound.{AreTold, HasBodies}
use Rattle.world_rules.specs.World.{World}

-- ---- what changes is awake

-- no mover of a constraint sleeps
pub record AreUp (labels : Labels) (m : Movers) : Type 0 where
  pub first : sleeping_name (label_at labels m.first) ≡ None
  pub second : (slot : ℕ) → m.second ≡ Some slot → sleeping_name (label_at labels slot) ≡ None

abbrev movers_of : Change Constraint → Movers
movers_of (Begin m) = m.movers
movers_of (End m) = m.movers

pub awake_up : (labels : Labels) (m : Movers) → are_awake labels m ≡ true → AreUp labels m
awake_up labels m h = record {
  first = awake_name (label_at labels m.first) (and_first (is_mover_awake labels m.first) (option_map_or (is_mover_awake labels) m.second true) h);
  second = λ slot e. awake_name (label_at labels slot) (sym (ap (λ (o : Option ℕ). option_map_or (is_mover_awake labels) o true) e) ∙ and_second (is_mover_awake labels m.first) (option_map_or (is_mover_awake labels) m.second true) h);
}

alike_up : (old new : Labels) (m : Movers) → SleepAlike old new → AreUp old m → AreUp new m
alike_up old new m same up = record { first = same m.first ∙ up.first; second = λ slot e. same slot ∙ up.second slot e }

one_up : (old new : Labels) (slot : ℕ) → HaveSlept old new → sleeping_name (label_at old slot) ≡ None → sleeping_name (label_at new slot) ≡ None
one_up old new slot slept up = by (sleeping_name (label_at new slot)) refl
  where
    by : (o : Option ℕ) → sleeping_name (label_at new slot) ≡ o → sleeping_name (label_at new slot) ≡ None
    by None e = e
    by (Some n) e = let both : Some n ≡ None = sym e ∙ ap sleeping_name (slept slot n e) ∙ up in cc

slept_up : (old new : Labels) (m : Movers) → HaveSlept old new → AreUp old m → AreUp new m
slept_up old new m slept up = record { first = one_up old new m.first slept up.first; second = λ slot e. one_up old new slot slept (up.second slot e) }

changed_up : (c : Change Constraint) (s : Acting Constraint) → IsConsistent constraint_number s → IsChange constraint_number s.labels s.ties c → AreUp (after_change constraint_number c s).labels (movers_of c)
changed_up (Begin m) s w can =
    let now : Acting Constraint = movers_woken constraint_number m.movers s in
    let ready : IsReady constraint_number m.movers s now = ready_for constraint_number m.movers s now w can.1 refl in
    let up = woken_ready constraint_number m.movers s w can.1 in
    alike_up now.labels (begun constraint_number m now).labels m.movers (begun_alike m now ready.consistent.islands.partition up) (awake_up now.labels m.movers up)
changed_up (End m) s w can =
    let now : Acting Constraint = movers_woken constraint_number m.movers s in
    let ready : IsReady constraint_number m.movers s now = ready_for constraint_number m.movers s now w (w.movers m can) refl in
    let up = woken_ready constraint_number m.movers s w (w.movers m can) in
    alike_up now.labels (ended constraint_number m now).labels m.movers (ended_alike m now ready.consistent.islands.partition up) (awake_up now.labels m.movers up)

-- once all had their turn, no mover of one of them sleeps
pub changes_up : (old : Labels) (changes : List (Change Constraint)) (s : Acting Constraint) → IsConsistent constraint_number s → Labelled old s.labels → AreChanges constraint_number old s.ties changes → (c : Change Constraint) → Contains changes c
    → AreUp (after_changes constraint_number changes s).labels (movers_of c)
changes_up old [] s w on can c there = absurd (none_in c there)
changes_up old (d ∷ changes) s w on can c there =
    let now : Acting Constraint = after_change constraint_number d s in
    let here : IsChange constraint_number s.labels s.ties d = change_now constraint_number old s.labels s.ties d changes on can in
    elim (contains_cases d changes c there) [
      | inl same ↦ slept_up now.labels (after_changes constraint_number changes now).labels (movers_of c) (after_changes_slept changes now) (subst (λ (x : Change Constraint). AreUp now.labels (movers_of x)) same (changed_up d s w here))
      | inr later ↦ changes_up old changes now (change_keeps constraint_number d s w here) (λ t h. changed_labelled constraint_number d s t (on t h)) (change_next constraint_number old s d changes can) c later
    ]

-- ---- which changes there are

inserted_own_by : (c d : Change Constraint) (ds : List (Change Constraint)) (t : Bool) → Contains (change_inserted constraint_number c ds) c → Contains (cond t (d ∷ change_inserted constraint_number c ds) (c ∷ d ∷ ds)) c
inserted_own_by c d ds true h = contains_tail d (change_inserted constraint_number c ds) c h
inserted_own_by c d ds false h = contains_head c (d ∷ ds)

inserted_own : (c : Change Constraint) (ds : List (Change Constraint)) → Contains (change_inserted constraint_number c ds) c
inserted_own c [] = contains_head c []
inserted_own c (d ∷ ds) = inserted_own_by c d ds (nat_lt (change_number constraint_number d) (change_number constraint_number c)) (inserted_own c ds)

inserted_rest_by : (c d x : Change Constraint) (ds : List (Change Constraint)) (t : Bool) → Contains (d ∷ ds) x → (Contains ds x → Contains (change_inserted constraint_number c ds) x) → Contains (cond t (d ∷ change_inserted constraint_number c ds) (c ∷ d ∷ ds)) x
inserted_rest_by c d x ds true h rest = elim (contains_cases d ds x h) [
  | inl same ↦ subst (λ (y : Change Constraint). Contains (d ∷ change_inserted constraint_number c ds) y) same (contains_head d (change_inserted constraint_number c ds))
  | inr later ↦ contains_tail d (change_inserted constraint_number c ds) x (rest later)
]
inserted_rest_by c d x ds false h rest = contains_tail c (d ∷ ds) x h

inserted_rest : (c x : Change Constraint) (ds : List (Change Constraint)) → Contains ds x → Contains (change_inserted constraint_number c ds) x
inserted_rest c x [] h = absurd (none_in x h)
inserted_rest c x (d ∷ ds) h = inserted_rest_by c d x ds (nat_lt (change_number constraint_number d) (change_number constraint_number c)) h (λ k. inserted_rest c x ds k)

begins_own : (ms : List (Member Constraint)) (ds : List (Change Constraint)) (m : Member Constraint) → Contains ms m → Contains (begins_inserted constraint_number ms ds) (Begin m)
begins_own [] ds m h = absurd (none_in m h)
begins_own (k ∷ ms) ds m h = elim (contains_cases k ms m h) [
  | inl same ↦ subst (λ (x : Member Constraint). Contains (begins_inserted constraint_number (k ∷ ms) ds) (Begin x)) same (inserted_own (Begin k) (begins_inserted constraint_number ms ds))
  | inr later ↦ inserted_rest (Begin k) (Begin m) (begins_inserted constraint_number ms ds) (begins_own ms ds m later)
]

begins_rest : (ms : List (Member Constraint)) (ds : List (Change Constraint)) (x : Change Constraint) → Contains ds x → Contains (begins_inserted constraint_number ms ds) x
begins_rest [] ds x h = h
begins_rest (k ∷ ms) ds x h = inserted_rest (Begin k) x (begins_inserted constraint_number ms ds) (begins_rest ms ds x h)

in_map : {X Y : Type 0} (f : X → Y) (xs : List X) (x : X) → Contains xs x → Contains (map f xs) (f x)
in_map f [] x h = absurd (none_in x h)
in_map {X} {Y} f (y ∷ xs) x h = elim (contains_cases y xs x h) [
  | inl same ↦ subst (λ (z : X). Contains (map f (y ∷ xs)) (f z)) same (contains_head (f y) (map f xs))
  | inr later ↦ contains_tail (f y) (map f xs) (f x) (in_map f xs x later)
]

kept_here : {Y : Type 0} (o : Option Y) (ys : List Y) (y : Y) → o ≡ Some y → Contains (cons_option o ys) y
kept_here {Y} o ys y e = subst (λ (p : Option Y). Contains (cons_option p ys) y) (sym e) (contains_head y ys)

kept_later : {Y : Type 0} (o : Option Y) (ys : List Y) (y : Y) → Contains ys y → Contains (cons_option o ys) y
kept_later None ys y h = h
kept_later (Some x) ys y h = contains_tail x ys y h

in_filter_map : {X Y : Type 0} (f : X → Option Y) (xs : List X) (x : X) (y : Y) → Contains xs x → f x ≡ Some y → Contains (filter_map f xs) y
in_filter_map f [] x y h e = absurd (none_in x h)
in_filter_map f (z ∷ xs) x y h e = elim (contains_cases z xs x h) [
  | inl same ↦ kept_here (f z) (filter_map f xs) y (ap f same ∙ e)
  | inr later ↦ kept_later (f z) (filter_map f xs) y (in_filter_map f xs x y later e)
]

-- the constraint of a contact with movers
abbrev tie_for : ContactKey → Movers → Member Constraint
tie_for key m = record { id = Contact key; movers = m }

key_tied : (bodies : List (Option Body)) (keys : List ContactKey) (key : ContactKey) (m : Movers) → Contains keys key → movers_with bodies key.first.slot key.second.slot ≡ Some m → Contains (key_ties bodies keys) (tie_for key m)
key_tied bodies keys key m there e =
    in_filter_map (tie_of bodies) (map contact_bond keys) (contact_bond key) (tie_for key m) (in_map contact_bond keys key there) (ap (option_map (λ (x : Movers). tie_for key x)) e)

key_begins : (bodies : List (Option Body)) (begins ends : List ContactKey) (key : ContactKey) (m : Movers) → Contains begins key → movers_with bodies key.first.slot key.second.slot ≡ Some m → Contains (key_changes bodies begins ends) (Begin (tie_for key m))
unfolding key_changes
key_begins bodies begins ends key m there e = begins_own (key_ties bodies begins) (map (λ (x : Member Constraint). End x) (key_ties bodies ends)) (tie_for key m) (key_tied bodies begins key m there e)

key_ends : (bodies : List (Option Body)) (begins ends : List ContactKey) (key : ContactKey) (m : Movers) → Contains ends key → movers_with bodies key.first.slot key.second.slot ≡ Some m → Contains (key_changes bodies begins ends) (End (tie_for key m))
unfolding key_changes
key_ends bodies begins ends key m there e =
    begins_rest (key_ties bodies begins) (map (λ (x : Member Constraint). End x) (key_ties bodies ends)) (End (tie_for key m)) (in_map (λ (x : Member Constraint). End x) (key_ties bodies ends) (tie_for key m) (key_tied bodies ends key m there e))

-- ---- which keys there are

record IsFound (contacts : List ContactEntry) (key : ContactKey) (f : ContactEntry) : Type 0 where
  pub there : Contains contacts f
  pub has : number_of f ≡ key_number key

found_by : (c f : ContactEntry) (contacts : List ContactEntry) (key : ContactKey) (t : Bool) → (number_of c == key_number key) ≡ t → cond t (Some c) (lookup contacts key) ≡ Some f → (lookup contacts key ≡ Some f → IsFound contacts key f) → IsFound (c ∷ contacts) key f
found_by c f contacts key true k h rest = let same : c ≡ f = cc in subst (IsFound (c ∷ contacts) key) same (record { there = contains_head c contacts; has = same_from (number_of c) (key_number key) k })
found_by c f contacts key false k h rest = let o = rest h in record { there = contains_tail c contacts f o.there; has = o.has }

found_in : (contacts : List ContactEntry) (key : ContactKey) (f : ContactEntry) → lookup contacts key ≡ Some f → IsFound contacts key f
found_in [] key f h = cc
found_in (c ∷ contacts) key f h = found_by c f contacts key (number_of c == key_number key) refl h (found_in contacts key f)

abbrev AreWithin : List ContactEntry → Type 0
AreWithin contacts = All (λ (e : ContactEntry). IsKeyWithin e.key) contacts

key_picked : (o : Option ContactEntry) (e : ContactEntry) → touches e.contact ≡ true → is_touching o ≡ false → key_if_new o e ≡ Some e.key
unfolding key_if_new
key_picked o e touch off = ap (λ (t : Bool). cond t (cond (is_touching o) None (Some e.key)) None) touch ∙ ap (λ (t : Bool). cond t None (Some e.key)) off

picked : (others : List ContactEntry) (e : ContactEntry) → touches e.contact ≡ true → is_touching (lookup others e.key) ≡ false → key_if_touching others e ≡ Some e.key
unfolding key_if_touching
picked others e touch off = key_picked (lookup others e.key) e touch off

-- a key that touches in the one list alone is among those that the collide finds
pub key_found : (others contacts : List ContactEntry) (key : ContactKey) → AreWithin others → AreWithin contacts → TouchesOnlyIn others contacts key → Contains (keys_touching_only_in others contacts) key
key_found others contacts key all own only =
    in_filter_map (key_if_touching others) contacts only.entry key only.there (picked others only.entry only.touching (by (lookup others only.entry.key) refl) ∙ ap Some only.has)
  where
    within : IsKeyWithin only.entry.key
    within = All-contains (λ (e : ContactEntry). IsKeyWithin e.key) contacts only.entry own only.there

    by : (o : Option ContactEntry) → lookup others only.entry.key ≡ o → is_touching (lookup others only.entry.key) ≡ false
    by None e = ap is_touching e
    by (Some f) e =
        let it = found_in others only.entry.key f e in
        let same : f.key ≡ only.entry.key = same_key f.key only.entry.key (All-contains (λ (x : ContactEntry). IsKeyWithin x.key) others f all it.there) within it.has in
        ap is_touching e ∙ only.off f it.there (same ∙ only.has)

-- ---- the bodies of a contact

-- a body with shapes that take part is enabled
pub shapes_on : (o : Option Body) (index : ℕ) → index < shapes_in o → is_enabled_in o ≡ true
shapes_on None index lt = absurd (omega (arith, lt))
shapes_on (Some b) index lt = by b.enabled refl lt
  where
    by : (t : Bool) → b.enabled ≡ t → index < cond t (length b.shapes) 0 → b.enabled ≡ true
    by true e k = e
    by false e k = absurd (omega (arith, k))

-- ---- a step

-- the changes that the collide of a world makes due
abbrev changes_in : World → List (Change Constraint)
changes_in w = key_changes w.plain.bodies (collided_in w).begin (collided_in w).end

-- a contact that begins or ends to touch
entry_up : (w : World) (e : ContactEntry) → IsKept w → AreKeysRising (collided_in w).now
    → ((m : Movers) → movers_with w.plain.bodies e.key.first.slot e.key.second.slot ≡ Some m → Contains (changes_in w) (Begin (tie_for e.key m)) ⊎ Contains (changes_in w) (End (tie_for e.key m))) → sleep_with (collided_world w).plain.bodies (contact_movers (collided_world w).plain.bodies e.key) ≡ None
entry_up w e k rises due = tie_up (collided_world w).plain.bodies (changed_in w).labels a b (collide_kept w k rises).kept.told
    (λ m at. elim (due m (sym same ∙ at)) [ inl begins ↦ (up (Begin (tie_for e.key m)) begins).first | inr ends ↦ (up (End (tie_for e.key m)) ends).first ])
  where
    a : ℕ
    a = e.key.first.slot

    b : ℕ
    b = e.key.second.slot

    alike : AreAlike w.plain.bodies (collided_world w).plain.bodies
    alike = told_alike (changed_in w).labels w.plain.bodies

    same : movers_with (collided_world w).plain.bodies a b ≡ movers_with w.plain.bodies a b
    same = λ i. cond (alike.enabled a i && alike.enabled b i) (movers_if (alike.movers a i) (alike.movers b i) a b) None

    up : (c : Change Constraint) → Contains (changes_in w) c → AreUp (changed_in w).labels (movers_of c)
    up = changes_up (acting_of w.plain).labels (changes_in w) (acting_of w.plain) k.consistent (λ t h. h) (can_change w k rises).changes

within_all : (bodies : List (Option Body)) (contacts : List ContactEntry) → All (HasBodies bodies) contacts → AreWithin contacts
within_all bodies contacts there = All-weaker (HasBodies bodies) (λ e. IsKeyWithin e.key) (λ e h. h.named) contacts there

-- what the collide of a world finds to begin or to end to touch sleeps with nobody
pub world_turned : (w : World) → IsKept w → AreKeysRising (collided_in w).now → AreTurned (collided_world w).plain.bodies w.plain.contacts (collided_in w).now
world_turned w k rises key only = elim only [ inl ends ↦ up_end ends | inr begins ↦ up_begin begins ]
  where
    after : All (HasBodies w.plain.bodies) (collided_in w).now
    after = has_bodies_after w.plain.bodies w.plain.joints w.plain.contacts k.bodies k.matched.few k.there

    old_within : AreWithin w.plain.contacts
    old_within = within_all w.plain.bodies w.plain.contacts k.there

    new_within : AreWithin (collided_in w).now
    new_within = within_all w.plain.bodies (collided_in w).now after

    up_end : TouchesOnlyIn (collided_in w).now w.plain.contacts key → sleep_with (collided_world w).plain.bodies (contact_movers (collided_world w).plain.bodies key) ≡ None
    up_end only =
        let e = only.entry in
        let found : Contains (collided_in w).end e.key = subst (Contains (collided_in w).end) (sym only.has) (key_found (collided_in w).now w.plain.contacts key new_within old_within only) in
        subst (λ (at : ContactKey). sleep_with (collided_world w).plain.bodies (contact_movers (collided_world w).plain.bodies at) ≡ None) only.has
        (entry_up w e k rises (λ m at. inr (key_ends w.plain.bodies (collided_in w).begin (collided_in w).end e.key m found at)))

    up_begin : TouchesOnlyIn w.plain.contacts (collided_in w).now key → sleep_with (collided_world w).plain.bodies (contact_movers (collided_world w).plain.bodies key) ≡ None
    up_begin only =
        let e = only.entry in
        let found : Contains (collided_in w).begin e.key = subst (Contains (collided_in w).begin) (sym only.has) (key_found w.plain.contacts (collided_in w).now key old_within new_within only) in
        subst (λ (at : ContactKey). sleep_with (collided_world w).plain.bodies (contact_movers (collided_world w).plain.bodies at) ≡ None) only.has
        (entry_up w e k rises (λ m at. inl (key_begins w.plain.bodies (collided_in w).begin (collided_in w).end e.key m found at)))

-- ---- the same of what a step has found

rises_in : (w : World) (s : Acting Constraint) → IsWhole w s → AreKeysRising (collided_in w).now
rises_in w s is = contacts_after_rise w.plain.bodies w.plain.joints w.plain.contacts (kept_of w s is).matched.few (kept_of w s is).bodies

pub turned_found : (w : World) (s t : Acting Constraint) (changes : List (Change Constraint)) (pending : List ContactEntry) → IsWhole w s → t ≡ s → AreFound w changes → pending ≡ (collided_in w).now
    → AreTurned (told (after_changes constraint_number changes t).labels w.plain.bodies) w.plain.contacts pending
turned_found w s t changes pending is same found collided =
    let now : Acting Constraint = after_changes constraint_number changes t in
    let h : HasChanged w now (told now.labels w.plain.bodies) pending = has_changed w s t now changes (told now.labels w.plain.bodies) pending is same found refl refl collided in
    subst (λ (bodies : List (Option Body)). AreTurned bodies w.plain.contacts pending) (sym h.bodies) (subst (AreTurned (collided_world w).plain.bodies w.plain.contacts) (sym h.contacts) (world_turned w (kept_of w s is) (rises_in w s is)))

-- ---- bodies that were told

-- whoever sleeps then does so under the name of a body's slot
pub told_named : (bodies : List (Option Body)) (s : Acting Constraint) → IsConsistent constraint_number s → AreNamedAsleep (told s.labels bodies)
told_named bodies s consistent slot name mover h =
    let moved : moves bodies slot ≡ true = sym (told_moves s.labels bodies slot) ∙ mover in
    let below = named_low s (length bodies) slot name consistent (mover_below bodies slot moved) (sym (told_under s.labels bodies slot moved) ∙ h) in
    let long = length-told s.labels bodies in
    omega (arith, below, long)
