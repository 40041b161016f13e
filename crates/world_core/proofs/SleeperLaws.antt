-- Who wakes as constraints begin and end: movers of the sleeping islands of the constraints' movers alone.
use Rattle.std.proofs.Common.{◌≡◌, ℕ, ◌&&◌, ◌⊎◌, Bool, true, false, not, cond, is_some, List, [], ◌∷◌, ◌++◌, Option, Some, None, inl, inr, refl, sym, ap, ◌∙◌, subst}
use Rattle.std.specs.Prelude.{Contains}
use Rattle.std.specs.Option.{option_to_list, option_map_or}
use Rattle.std.proofs.lemmas.Bool.{false≢true}
use Rattle.std.proofs.lemmas.List.Elements.{All-head, All-tail, All-weaker, Contains-append_right}
use Rattle.plain_world.specs.Constraints.{constraint_number}
use Rattle.plain_world.specs.declared.constraint.Constraint.{Constraint}
use Rattle.graph_colours.specs.declared.member.Movers.{Movers}
use Rattle.islands.specs.declared.label.IslandState.TheVariants.{Whole}
use Rattle.islands.specs.declared.label.Label.{Label}
use Rattle.islands.specs.Labels.{Labels, is_asleep, is_in, label_at, sleeping_name, woken}
use Rattle.islands.specs.Partition.{IsPartition}
use Rattle.islands.proofs.JoinLemmas.{contains_head}
use Rattle.islands.proofs.LabelLemmas.{in_case, in_of}
use Rattle.plain_world.specs.declared.body.Body.{Body}
use Rattle.plain_world.specs.Slots.{body_at}
use Rattle.sleep_wake.specs.Acting.{Acting, IsConsistent}
use Rattle.sleep_wake.specs.Changes.{begun, after_change, ended, after_changes}
use Rattle.sleep_wake.specs.ChangeLists.{AreChanges, IsChange}
use Rattle.sleep_wake.specs.Waking.{movers_woken, set_woken, woken_at}
use Rattle.sleep_wake.specs.declared.change.Change.{Change}
use Rattle.sleep_wake.specs.declared.change.Change.TheVariants.{Begin, End}
use Rattle.sleep_wake.proofs.AwakeLemmas.{and_is}
use Rattle.sleep_wake.proofs.FoldLemmas.{Labelled, change_next, change_now, changed_labelled, woken_ready}
use Rattle.sleep_wake.proofs.ChangeOwn.{IsReady, change_keeps, ready_for}
use Rattle.solver_sets.specs.Slept.{sleeps}
use Rattle.solver_sets.specs.SinceTold.{is_asleep_in, was_asleep}
use Rattle.world_rules.specs.Sound.{AreTold}
use Rattle.world_rules.proofs.QuietLaws.{SleepAlike, begun_alike, ended_alike}
use Rattle.world_core.specs.Waking.{HasIslands, HasName, HasSleepers, IsExtended, OfAll, OfBoth, OfSecond, movers_in}
use Rattle.world_core.proofs.TellingLaws.{HaveSlept, changed_slept, label_with, name_tells, slept_then, woken_slept}

-- ---- islands wake

-- whoever sleeps by the first labels does so by the others under the same name, or is listed
abbrev SleepOrListed : List ℕ → Labels → Labels → Type 0
SleepOrListed slots old now = (t n : ℕ) → sleeping_name (label_at old t) ≡ Some n → (sleeping_name (label_at now t) ≡ Some n) ⊎ Contains slots t

woken_set : (slots : List ℕ) (old : Labels) (s : Acting Constraint) (slot : ℕ) (l : Label) → HasSleepers old slots slot → HaveSlept old s.labels → label_at s.labels slot ≡ Some l → is_asleep l.state ≡ true → SleepOrListed slots old s.labels
    → SleepOrListed slots old (set_woken constraint_number l.name s).labels
unfolding set_woken woken
woken_set slots old s slot l has slept e a kept t n q =
    let asleep : sleeping_name (label_at s.labels slot) ≡ Some l.name = ap sleeping_name e ∙ ap (λ (u : Bool). cond u (Some l.name) None) a in
    let named : sleeping_name (label_at old slot) ≡ Some l.name = ap sleeping_name (sym (slept slot l.name asleep)) ∙ asleep in
    elim (kept t n q) [
      | inl here ↦ elim (in_case (label_at s.labels t) l.name) [
        | inl h ↦ inr (has l.name t named (ap (λ (o : Option Label). is_in o l.name) (sym (slept t n here)) ∙ h))
        | inr out ↦ inl (ap sleeping_name (label_with l.name Whole s.labels t out) ∙ here)
      ]
      | inr c ↦ inr c
    ]

woken_label : (slots : List ℕ) (old : Labels) (s : Acting Constraint) (slot : ℕ) (o : Option Label) → HasSleepers old slots slot → HaveSlept old s.labels → label_at s.labels slot ≡ o → SleepOrListed slots old s.labels → SleepOrListed slots old (option_map_or (λ (l : Label). cond (is_asleep l.state) (set_woken constraint_number l.name s) s) o s).labels
woken_label slots old s slot None has slept e kept = kept
woken_label slots old s slot (Some l) has slept e kept = by_asleep (is_asleep l.state) refl
  where
    by_asleep : (t : Bool) → is_asleep l.state ≡ t → SleepOrListed slots old (cond t (set_woken constraint_number l.name s) s).labels
    by_asleep true a = woken_set slots old s slot l has slept e a kept
    by_asleep false a = kept

woken_kept : (slots : List ℕ) (old : Labels) (s : Acting Constraint) (slot : ℕ) → HasSleepers old slots slot → HaveSlept old s.labels → SleepOrListed slots old s.labels → SleepOrListed slots old (woken_at constraint_number slot s).labels
unfolding woken_at
woken_kept slots old s slot has slept kept = woken_label slots old s slot (label_at s.labels slot) has slept refl kept

second_kept : (slots : List ℕ) (old : Labels) (s : Acting Constraint) (o : Option ℕ) → OfSecond (HasSleepers old slots) o → HaveSlept old s.labels → SleepOrListed slots old s.labels → SleepOrListed slots old (option_map_or (λ slot. woken_at constraint_number slot s) o s).labels
second_kept slots old s None has slept kept = kept
second_kept slots old s (Some slot) has slept kept = woken_kept slots old s slot has slept kept

movers_kept : (slots : List ℕ) (old : Labels) (s : Acting Constraint) (m : Movers) → OfBoth (HasSleepers old slots) m → HaveSlept old s.labels → SleepOrListed slots old s.labels → SleepOrListed slots old (movers_woken constraint_number m s).labels
movers_kept slots old s m has slept kept =
    let now : Acting Constraint = woken_at constraint_number m.first s in
    second_kept slots old now m.second has.1 (slept_then old s.labels now.labels slept (woken_slept s m.first)) (woken_kept slots old s m.first has.0 slept kept)

-- ---- constraints begin and end

alike_kept : (slots : List ℕ) (old now new : Labels) → SleepOrListed slots old now → SleepAlike now new → SleepOrListed slots old new
alike_kept slots old now new kept same t n q = elim (kept t n q) [ inl here ↦ inl (same t ∙ here) | inr c ↦ inr c ]

changed_kept : (slots : List ℕ) (old : Labels) (c : Change Constraint) (s : Acting Constraint) → IsConsistent constraint_number s → IsChange constraint_number s.labels s.ties c → OfBoth (HasSleepers old slots) (movers_in c) → HaveSlept old s.labels → SleepOrListed slots old s.labels
    → SleepOrListed slots old (after_change constraint_number c s).labels
changed_kept slots old (Begin m) s w can has slept kept =
    let now : Acting Constraint = movers_woken constraint_number m.movers s in
    let ready : IsReady constraint_number m.movers s now = ready_for constraint_number m.movers s now w can.1 refl in
    alike_kept slots old now.labels (begun constraint_number m now).labels (movers_kept slots old s m.movers has slept kept) (begun_alike m now ready.consistent.islands.partition (woken_ready constraint_number m.movers s w can.1))
changed_kept slots old (End m) s w can has slept kept =
    let now : Acting Constraint = movers_woken constraint_number m.movers s in
    let ready : IsReady constraint_number m.movers s now = ready_for constraint_number m.movers s now w (w.movers m can) refl in
    alike_kept slots old now.labels (ended constraint_number m now).labels (movers_kept slots old s m.movers has slept kept) (ended_alike m now ready.consistent.islands.partition (woken_ready constraint_number m.movers s w (w.movers m can)))

after_changes_kept : (slots : List ℕ) (old : Labels) (changes : List (Change Constraint)) (s : Acting Constraint) → IsConsistent constraint_number s → Labelled old s.labels → AreChanges constraint_number old s.ties changes → OfAll (HasSleepers old slots) changes → HaveSlept old s.labels
    → SleepOrListed slots old s.labels → SleepOrListed slots old (after_changes constraint_number changes s).labels
after_changes_kept slots old [] s w on can has slept kept = kept
after_changes_kept slots old (c ∷ cs) s w on can has slept kept =
    let P : Change Constraint → Type 0 = λ d. OfBoth (HasSleepers old slots) (movers_in d) in
    let now : Acting Constraint = after_change constraint_number c s in
    let here : IsChange constraint_number s.labels s.ties c = change_now constraint_number old s.labels s.ties c cs on can in
    after_changes_kept slots old cs now (change_keeps constraint_number c s w here) (λ t h. changed_labelled constraint_number c s t (on t h)) (change_next constraint_number old s c cs can) (All-tail P c cs has) (slept_then old s.labels now.labels slept (changed_slept c s))
    (changed_kept slots old c s w here (All-head P c cs has) slept kept)

some_there : (o : Option ℕ) → is_some o ≡ true → (n : ℕ) × (o ≡ Some n)
some_there None e = cc
some_there (Some n) e = (n, refl)

asleep_there : (o : Option Body) → is_asleep_in o ≡ true → (b : Body) × (n : ℕ) × (o ≡ Some b) × (b.asleep ≡ Some n)
asleep_there None e = cc
asleep_there (Some b) e = let it = some_there b.asleep e in (b, it.0, refl, it.1)

-- who was told that they sleep and are awake by then is listed
pub woken_listed : (slots : List ℕ) (bodies : List (Option Body)) (changes : List (Change Constraint)) (s : Acting Constraint) → IsConsistent constraint_number s → AreTold bodies s.labels → AreChanges constraint_number s.labels s.ties changes → OfAll (HasSleepers s.labels slots) changes
    → (slot : ℕ) → (was_asleep bodies slot && not (sleeps (after_changes constraint_number changes s).labels slot)) ≡ true → Contains slots slot
woken_listed slots bodies changes s w are can has slot h =
    let new : Labels = (after_changes constraint_number changes s).labels in
    let both = and_is (was_asleep bodies slot) (not (sleeps new slot)) h in
    let it = asleep_there (body_at bodies slot) both.0 in
    let slept : sleeping_name (label_at s.labels slot) ≡ Some it.1 = sym (are slot it.0 it.2) ∙ it.3 in
    elim (after_changes_kept slots s.labels changes s w (λ t k. k) can has (λ t n e. refl) (λ t n e. inl e) slot it.1 slept) [
      | inl here ↦ (let still : sleeps new slot ≡ true = name_tells (label_at new slot) (Some it.1) here in absurd (false≢true (sym (ap not still) ∙ both.1)))
      | inr c ↦ c
    ]

-- ---- who may wake is listed

pub name_pushed : (labels : Labels) (slot : ℕ) (o : Option ℕ) (old new : List ℕ) → o ≡ sleeping_name (label_at labels slot) → new ≡ old ++ option_to_list o → HasName labels new slot
name_pushed labels slot o old new is pushed name e =
    let added : new ≡ old ++ (name ∷ []) = pushed ∙ ap (λ (v : Option ℕ). old ++ option_to_list v) (is ∙ e) in
    subst (λ (l : List ℕ). Contains l name) (sym added) (Contains-append_right old (name ∷ []) name (contains_head name []))

pub name_kept : (labels : Labels) (slot : ℕ) (old new : List ℕ) → IsExtended old new → HasName labels old slot → HasName labels new slot
name_kept labels slot old new more has name e = more name (has name e)

-- what implies another of each slot does so of the movers of all constraints
second_weaker : (P Q : ℕ → Type 0) (o : Option ℕ) → ((slot : ℕ) → P slot → Q slot) → OfSecond P o → OfSecond Q o
second_weaker P Q None f h = tt
second_weaker P Q (Some slot) f h = f slot h

pub all_weaker : (P Q : ℕ → Type 0) (changes : List (Change Constraint)) → ((slot : ℕ) → P slot → Q slot) → OfAll P changes → OfAll Q changes
all_weaker P Q changes f = All-weaker (λ (c : Change Constraint). OfBoth P (movers_in c)) (λ (c : Change Constraint). OfBoth Q (movers_in c)) (λ c h. (f (movers_in c).first h.0, second_weaker P Q (movers_in c).second f h.1)) changes

pub names_kept : (labels : Labels) (changes : List (Change Constraint)) (old new : List ℕ) → IsExtended old new → OfAll (HasName labels old) changes → OfAll (HasName labels new) changes
names_kept labels changes old new more = all_weaker (HasName labels old) (HasName labels new) changes (λ slot. name_kept labels slot old new more)

sleeping_label : (o : Option Label) (n : ℕ) → sleeping_name o ≡ Some n → (l : Label) × (o ≡ Some l) × (l.name ≡ n)
sleeping_label None n e = cc
sleeping_label (Some l) n e = (l, refl, by_asleep (is_asleep l.state) e)
  where
    by_asleep : (t : Bool) → cond t (Some l.name) None ≡ Some n → l.name ≡ n
    by_asleep true f = cc
    by_asleep false f = cc

-- the islands of the names are those of the movers that sleep
pub sleepers_listed : (labels : Labels) (names movers slots : List ℕ) (changes : List (Change Constraint)) → IsPartition labels → OfAll (HasName labels names) changes → HasIslands labels names movers → IsExtended movers slots → OfAll (HasSleepers labels slots) changes
sleepers_listed labels names movers slots changes p named islands more = all_weaker (HasName labels names) (HasSleepers labels slots) changes sleepers named
  where
    sleepers : (slot : ℕ) → HasName labels names slot → HasSleepers labels slots slot
    sleepers slot has name mover e inside =
        let own = sleeping_label (label_at labels slot) name e in
        let there : label_at labels name ≡ Some own.0 = subst (λ (k : ℕ). label_at labels k ≡ Some own.0) own.2 (p.named slot own.0 own.1) in
        more mover (islands name (has name e) name mover (in_of (label_at labels name) own.0 name there own.2) inside)
