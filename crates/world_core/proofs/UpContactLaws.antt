-- Contacts of a body that is changed or leaves sleep with nobody, once those are awake whom that wakes; and the sets of
-- the contacts where those come and go.
use Rattle.std.proofs.Common.{◌≡◌, ◌≢◌, ◌≤◌, ◌==◌, ◌||◌, ℕ, All, Bool, true, false, List, [], length, Option, Some, None, inr, refl, sym, ap, ◌∙◌, subst, ◌∷◌, ◌⊎◌, ◌<◌, cond, is_some, inl, arith}
use Rattle.std.specs.Prelude.{Contains, option_map}
use Rattle.std.proofs.lemmas.Bool.{cases_eq, false≢true}
use Rattle.std.proofs.lemmas.List.Elements.{All-contains}
use Rattle.contacts_base.proofs.Members.{contains_from_in, in_from_contains}
use Rattle.contacts.specs.Numbered.{AreNumbered, IsTurnover, contact_at, key_of, numbered_of}
use Rattle.plain_world.specs.declared.constraint.Constraint.{Constraint}
use Rattle.plain_world.specs.declared.constraint.Constraint.TheVariants.{Contact}
use Rattle.contacts.specs.declared.number_book.NumberedContact.{NumberedContact}
use Rattle.contacts_base.specs.Contacts.{contacts_without, has_slot}
use Rattle.contacts_base.specs.Evaluate.{touches}
use Rattle.contacts_base.specs.declared.contact.ContactEntry.{ContactEntry}
use Rattle.graph_colours.proofs.PlaceLemmas.{same_from}
use Rattle.graph_colours.specs.declared.member.Member.{Member}
use Rattle.graph_colours.specs.declared.member.Movers.{Movers}
use Rattle.plain_world.specs.declared.body.Body.{Body}
use Rattle.plain_world.specs.Slots.{body_at}
use Rattle.sleep_wake.specs.Acting.{Acting, are_awake}
use Rattle.solver_sets.proofs.BodyLaws.{ties_at_in}
use Rattle.solver_sets.proofs.BondLaws.{bonds_in}
use Rattle.solver_sets.specs.Ties.{JointSlots, contact_bond, contact_movers, is_enabled, movers_with, ties_at}
use Rattle.contacts.proofs.NumberedLaws.{dropped_has, entry_at, gone_touching, key_at, left_same, number_for, stayed_touching, without_end, without_within}
use Rattle.contacts.specs.Touching.{TouchesOnlyIn}
use Rattle.islands.proofs.JoinLemmas.{contains_cases, contains_head, contains_tail}
use Rattle.world_core_base.proofs.ContactAsleepLaws.{contact_alike, contact_past, contacts_as}
use Rattle.world_core_base.proofs.TieSleepLaws.{both_far, there_below}
use Rattle.world_core_base.proofs.FollowLaws.{none_contained}
use Rattle.world_core_base.specs.Turned.{AreTurned}
use Rattle.world_core_base.specs.Asleep.{AreContactSets, IsSleepAlike, contact_sleep, is_contact_end, movers_of_contact, sleep_with}
use Rattle.world_core_base.specs.Sleeping.{Sleeping, sleep_at}
use Rattle.world_rules.proofs.ActingLaws.{waking_kept}
use Rattle.world_rules.proofs.PartsLeft.{stirred_slots, woken_bodies}
use Rattle.world_rules.proofs.SoundLaws.{IsKept}
use Rattle.world_rules.proofs.StirLaws.{stirred_can_end}
use Rattle.world_rules.specs.Sets.{acting_of, stirred}
use Rattle.world_rules.specs.Sound.{HasBodies}
use Rattle.world_rules.specs.World.{World, joints_in_slots}
use Rattle.world_core.proofs.ContactTurnLaws.{awake_up, shapes_on}
use Rattle.world_core.proofs.KeepLaws.{tie_up}
use Rattle.world_core.proofs.PartLaws.{kept_of}
use Rattle.world_core.specs.Inside.{IsWhole}

-- ---- contacts of a body whose ties are awake

-- a contact that touches is among the ties of its bodies, if one of them is a mover and both take part
own_tie : (slot : ℕ) (e : ContactEntry) (bodies : List (Option Body)) (s : JointSlots) (contacts : List ContactEntry) (m : Movers) → Contains contacts e → has_slot slot e ≡ true → touches e.contact ≡ true → movers_with bodies e.key.first.slot e.key.second.slot ≡ Some m
    → Contains (ties_at slot bodies s contacts) (record { id = Contact e.key; movers = m })
own_tie slot e bodies s contacts m there own touch at =
    contains_from_in (ties_at slot bodies s contacts) (record { id = Contact e.key; movers = m }) (ties_at_in slot bodies s contacts (record { id = Contact e.key; movers = m }) (record {
      of = contact_bond e.key;
      there = bonds_in s contacts (contact_bond e.key) (inr (record { entry = e; there = in_from_contains contacts e there; touching = touch; is = refl }));
      here = own;
      gives = ap (option_map (λ (x : Movers). record { id = Contact e.key; movers = x })) at;
    }))

-- the movers of each of its ties are awake
tie_awake : (w : World) (slot : ℕ) (m : Member Constraint) → IsKept w → Contains (ties_at slot (stirred w.plain slot).bodies (joints_in_slots w.plain) w.plain.contacts) m → are_awake (stirred w.plain slot).islands m.movers ≡ true
unfolding acting_of
tie_awake w slot m kept h = (stirred_can_end w slot kept).awake m h

own_up : (w : World) (slot : ℕ) (e : ContactEntry) → IsKept w → Contains w.plain.contacts e → has_slot slot e ≡ true → touches e.contact ≡ true → sleep_with (stirred w.plain slot).bodies (contact_movers (stirred w.plain slot).bodies e.key) ≡ None
own_up w slot e kept there own touch = tie_up (stirred w.plain slot).bodies (stirred w.plain slot).islands e.key.first.slot e.key.second.slot (waking_kept w (stirred_slots w.plain slot) kept).kept.told
    (λ m at. (awake_up (stirred w.plain slot).islands m (tie_awake w slot (record { id = Contact e.key; movers = m }) kept (own_tie slot e (stirred w.plain slot).bodies (joints_in_slots w.plain) w.plain.contacts m there own touch at))).first)

-- the same of what acts
pub own_contact_up : (w : World) (s : Acting Constraint) (slot : ℕ) (e : ContactEntry) → IsWhole w s → Contains w.plain.contacts e → has_slot slot e ≡ true → touches e.contact ≡ true → sleep_with (woken_bodies w.plain s (stirred_slots w.plain slot)) (contact_movers (woken_bodies w.plain s (stirred_slots w.plain slot)) e.key) ≡ None
own_contact_up w s slot e is there own touch = subst (λ (a : Acting Constraint). sleep_with (woken_bodies w.plain a (stirred_slots w.plain slot)) (contact_movers (woken_bodies w.plain a (stirred_slots w.plain slot)) e.key) ≡ None) (sym is.same) (own_up w slot e (kept_of w s is) there own touch)

-- ---- no contact of what isn't there, or takes no part

end_off : (bodies : List (Option Body)) (slot end : ℕ) → is_enabled bodies slot ≡ false → is_enabled bodies end ≡ true → (end == slot) ≡ false
end_off bodies slot end off on = by (end == slot) refl
  where
    by : (t : Bool) → (end == slot) ≡ t → (end == slot) ≡ false
    by true e = absurd (false≢true (sym off ∙ ap (is_enabled bodies) (sym (same_from end slot e)) ∙ on))
    by false e = e

pub no_contact_at : (bodies : List (Option Body)) (contacts : List ContactEntry) (slot : ℕ) → All (HasBodies bodies) contacts → is_enabled bodies slot ≡ false → (e : ContactEntry) → Contains contacts e → has_slot slot e ≡ false
no_contact_at bodies contacts slot all off e there =
    let has : HasBodies bodies e = All-contains (HasBodies bodies) contacts e all there in
    ap (λ (t : Bool). t || (e.key.second.slot == slot)) (end_off bodies slot e.key.first.slot off (shapes_on (body_at bodies e.key.first.slot) e.key.first.index has.first_shape)) ∙ end_off bodies slot e.key.second.slot off (shapes_on (body_at bodies e.key.second.slot) e.key.second.index has.second_shape)

-- ---- the sets of the contacts, where a body leaves or comes

-- no contact of the list has the body in a slot: none that has a number does
pub no_end : (slot : ℕ) (contacts : List ContactEntry) (numbered : List (Option NumberedContact)) (number : ℕ) → AreNumbered contacts numbered → ((e : ContactEntry) → Contains contacts e → has_slot slot e ≡ false) → is_contact_end slot (contact_at numbered number) ≡ false
no_end slot contacts numbered number are none = by (contact_at numbered number) refl
  where
    by : (o : Option NumberedContact) → contact_at numbered number ≡ o → is_contact_end slot (contact_at numbered number) ≡ false
    by None at = ap (is_contact_end slot) at
    by (Some c) at =
        let own = entry_at contacts numbered number c are at in
        ap (is_contact_end slot) (at ∙ ap Some (sym own.is)) ∙ none own.entry own.there

-- a contact that doesn't have the body in the slot in which that is another
pub contact_far : (old new : List (Option Body)) (slot : ℕ) (o : Option NumberedContact) → ((other : ℕ) → other ≢ slot → IsSleepAlike (body_at old other) (body_at new other)) → is_contact_end slot o ≡ false → sleep_with new (movers_of_contact new o) ≡ sleep_with old (movers_of_contact old o)
contact_far old new slot o others off = contact_alike old new o (λ c at. both_far old new slot c.key.first.slot c.key.second.slot others (ap (is_contact_end slot) (sym at) ∙ off))

contains_or : (ids : List ℕ) (id : ℕ) → Contains ids id ⊎ (Contains ids id → ⊥)
contains_or [] id = inr (λ h. none_contained id h)
contains_or (x ∷ ids) id = elim (cases_eq x id) [
  | inl same ↦ inl (subst (λ (k : ℕ). Contains (x ∷ ids) k) same (contains_head x ids))
  | inr apart ↦ elim (contains_or ids id) [
    | inl there ↦ inl (contains_tail x ids id there)
    | inr off ↦ inr (λ h. elim (contains_cases x ids id h) [ inl same ↦ apart same | inr there ↦ off there ])
  ]
]

-- the body in a slot is changed or leaves, and its contacts go, of which none sleeps
pub contacts_leave : (woke now : List (Option Body)) (slot : ℕ) (contacts : List ContactEntry) (old new : List (Option NumberedContact)) (made gone : List ℕ) (sets : Sleeping) → AreNumbered contacts old → AreNumbered (contacts_without slot contacts) new → IsTurnover old new made gone → made ≡ []
    → ((e : ContactEntry) → Contains contacts e → has_slot slot e ≡ true → touches e.contact ≡ true → sleep_with woke (contact_movers woke e.key) ≡ None) → ((other : ℕ) → other ≢ slot → IsSleepAlike (body_at woke other) (body_at now other)) → length now ≤ length woke → AreContactSets woke old sets → AreContactSets now new sets
contacts_leave woke now slot contacts old new made gone sets was is turn none up others long are = contacts_as woke now old new sets sets (λ number. each number (contains_or gone number)) (λ number. refl) (λ number. items number (contains_or gone number)) (let room = are.named in omega (arith, long, room)) are
  where
    stays : (number : ℕ) → (Contains gone number → ⊥) → contact_at new number ≡ contact_at old number
    stays number kept = left_same contacts (contacts_without slot contacts) old new number was is (without_within slot contacts) (turn.stay number (λ come. none_contained number (subst (λ (l : List ℕ). Contains l number) none come)) kept)

    over : (e : ContactEntry) → Contains contacts e → has_slot slot e ≡ true → (t : Bool) → touches e.contact ≡ t → sleep_with woke (cond (touches e.contact) (contact_movers woke e.key) None) ≡ None
    over e there end true t = ap (λ (u : Bool). sleep_with woke (cond u (contact_movers woke e.key) None)) t ∙ up e there end t
    over e there end false t = ap (λ (u : Bool). sleep_with woke (cond u (contact_movers woke e.key) None)) t

    each : (number : ℕ) → Contains gone number ⊎ (Contains gone number → ⊥) → contact_sleep now new number ≡ contact_sleep woke old number
    each number (inl went) =
        let own = dropped_has slot contacts old new made gone number was is turn went in
        ap (λ (o : Option NumberedContact). sleep_with now (movers_of_contact now o)) (turn.gone number went) ∙ sym (ap (λ (o : Option NumberedContact). sleep_with woke (movers_of_contact woke o)) own.at ∙ over own.entry own.there own.end (touches own.entry.contact) refl)
    each number (inr kept) =
        contact_far woke now slot (contact_at new number) others (no_end slot (contacts_without slot contacts) new number is (λ e h. without_end slot contacts e h))
        ∙ ap (λ (o : Option NumberedContact). sleep_with woke (movers_of_contact woke o)) (stays number kept)

    items : (number : ℕ) → Contains gone number ⊎ (Contains gone number → ⊥) → is_some (contact_at new number) ≡ true → number < length sets.names
    items number (inl went) on = absurd (false≢true (sym (ap (λ (o : Option NumberedContact). is_some o) (turn.gone number went)) ∙ on))
    items number (inr kept) on = are.items number (sym (ap (λ (o : Option NumberedContact). is_some o) (stays number kept)) ∙ on)

-- a body comes into a slot, or one takes part again
pub contacts_stay : (old now : List (Option Body)) (slot : ℕ) (contacts : List ContactEntry) (numbered : List (Option NumberedContact)) (before after : Sleeping) → All (HasBodies old) contacts → is_enabled old slot ≡ false → AreNumbered contacts numbered
    → ((other : ℕ) → other ≢ slot → IsSleepAlike (body_at old other) (body_at now other)) → ((number : ℕ) → sleep_at after.names number ≡ sleep_at before.names number) → length before.names ≤ length after.names → length now ≤ length after.sets → AreContactSets old numbered before → AreContactSets now numbered after
contacts_stay old now slot contacts numbered before after all off are others same more long sleep = contacts_as old now numbered numbered before after
    (λ number. contact_far old now slot (contact_at numbered number) others (no_end slot contacts numbered number are (no_contact_at old contacts slot all off))) same (λ number on. let lt = sleep.items number on in omega (arith, lt, more)) long sleep

-- ---- a change of the contacts

-- one that touches, and had no number before
made_touching : (before after : List ContactEntry) (old new : List (Option NumberedContact)) (made gone : List ℕ) (number : ℕ) (d : NumberedContact) → AreNumbered before old → AreNumbered after new → IsTurnover old new made gone → contact_at new number ≡ Some d → d.touching ≡ true → contact_at old number ≡ None → TouchesOnlyIn before after d.key
made_touching before after old new made gone number d was is turn now touch none =
    let own = entry_at after new number d is now in
    record {
      entry = own.entry;
      there = own.there;
      has = ap (λ (x : NumberedContact). x.key) own.is;
      touching = ap (λ (x : NumberedContact). x.touching) own.is ∙ touch;
      off = λ e there keys. absurd (never e there keys);
    }
  where
    never : (e : ContactEntry) → Contains before e → e.key ≡ d.key → ⊥
    never e there keys =
        let own = number_for before old e was there in
        let same : own.number ≡ number = turn.same own.number number d.key (key_at old own.number (numbered_of e) own.at ∙ ap Some keys) (key_at new number d now) in
        let both : None ≡ Some (numbered_of e) = sym none ∙ ap (contact_at old) (sym same) ∙ own.at in
        cc

-- once a change of the contacts is carried out the sets are as they were: what it made, ended or let begin or end to
-- touch sleeps with nobody
pub contacts_turned : (bodies : List (Option Body)) (before after : List ContactEntry) (old new : List (Option NumberedContact)) (made gone : List ℕ) (sets : Sleeping) → AreNumbered before old → AreNumbered after new → IsTurnover old new made gone → AreTurned bodies before after → length new ≤ length sets.names
    → AreContactSets bodies old sets → AreContactSets bodies new sets
contacts_turned bodies before after old new made gone sets was is turn up room are = contacts_as bodies bodies old new sets sets each (λ number. refl) (λ number on. let below = there_below (contact_at new) (length new) (contact_past new) number on in omega (arith, below, room)) are.named are
  where
    sleeps : NumberedContact → Option ℕ
    sleeps c = sleep_with bodies (cond c.touching (contact_movers bodies c.key) None)

    touching : (c : NumberedContact) → (c.touching ≡ true → sleep_with bodies (contact_movers bodies c.key) ≡ None) → sleeps c ≡ None
    touching c h = by c.touching refl
      where
        by : (t : Bool) → c.touching ≡ t → sleep_with bodies (cond c.touching (contact_movers bodies c.key) None) ≡ None
        by true t = ap (λ (u : Bool). sleep_with bodies (cond u (contact_movers bodies c.key) None)) t ∙ h t
        by false t = ap (λ (u : Bool). sleep_with bodies (cond u (contact_movers bodies c.key) None)) t

    went : (number : ℕ) → Contains gone number → (o : Option NumberedContact) → contact_at old number ≡ o → sleep_with bodies (movers_of_contact bodies o) ≡ None
    went number go None at = refl
    went number go (Some c) at = touching c (λ t. up c.key (inl (gone_touching before after old new made gone number c was is turn at t (turn.gone number go))))

    came : (number : ℕ) → Contains made number → (o : Option NumberedContact) → contact_at new number ≡ o → sleep_with bodies (movers_of_contact bodies o) ≡ None
    came number come None now = refl
    came number come (Some d) now = touching d (λ t. up d.key (inr (made_touching before after old new made gone number d was is turn now t (turn.fresh number come))))

    stay_touch : (number : ℕ) (c d : NumberedContact) → contact_at old number ≡ Some c → contact_at new number ≡ Some d → d.key ≡ c.key → (t u : Bool) → c.touching ≡ t → d.touching ≡ u → sleeps d ≡ sleeps c
    stay_touch number c d at now keys true true e f = λ i. sleep_with bodies (cond ((f ∙ sym e) i) (contact_movers bodies (keys i)) None)
    stay_touch number c d at now keys false false e f = λ i. sleep_with bodies (cond ((f ∙ sym e) i) (contact_movers bodies (keys i)) None)
    stay_touch number c d at now keys true false e f =
        ap (λ (u : Bool). sleep_with bodies (cond u (contact_movers bodies d.key) None)) f ∙ sym (touching c (λ t. up c.key (inl (stayed_touching before after old new number c d was is at now keys e f))))
    stay_touch number c d at now keys false true e f =
        touching d (λ t. up d.key (inr (stayed_touching after before new old number d c is was now at (sym keys) f e))) ∙ sym (ap (λ (u : Bool). sleep_with bodies (cond u (contact_movers bodies c.key) None)) e)

    stay : (number : ℕ) (o p : Option NumberedContact) → contact_at old number ≡ o → contact_at new number ≡ p → key_of p ≡ key_of o → sleep_with bodies (movers_of_contact bodies p) ≡ sleep_with bodies (movers_of_contact bodies o)
    stay number None None at now keys = refl
    stay number None (Some d) at now keys = cc
    stay number (Some c) None at now keys = cc
    stay number (Some c) (Some d) at now keys = let q : Some d.key ≡ Some c.key = keys in let own : d.key ≡ c.key = cc in stay_touch number c d at now own c.touching d.touching refl refl

    each : (number : ℕ) → contact_sleep bodies new number ≡ contact_sleep bodies old number
    each number = elim (contains_or gone number) [
      | inl go ↦ ap (λ (o : Option NumberedContact). sleep_with bodies (movers_of_contact bodies o)) (turn.gone number go) ∙ sym (went number go (contact_at old number) refl)
      | inr kept ↦ elim (contains_or made number) [
        | inl come ↦ came number come (contact_at new number) refl ∙ sym (ap (λ (o : Option NumberedContact). sleep_with bodies (movers_of_contact bodies o)) (turn.fresh number come))
        | inr stays ↦ stay number (contact_at old number) (contact_at new number) refl refl (turn.stay number stays kept)
      ]
    ]
