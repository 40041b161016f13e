-- Which bodies are to be told: labels change in few islands, and whoever sleeps as before stays as it is.
use Rattle.std.proofs.Common.{◌≡◌, ℕ, zero, suc, ◌+◌, ◌<◌, ◌≤◌, ◌==◌, ◌&&◌, ◌||◌, Bool, true, false, not, cond, is_some, List, [], ◌∷◌, ◌++◌, length, map, drop, get_or, Option, Some, None, inl, inr, refl, sym, ap, ◌∙◌, subst, arith, add-one}
use Rattle.std.specs.Prelude.{◌↔◌, Contains, option_map, fold}
use Rattle.std.proofs.Math.Seq.{drop-cons}
use Rattle.std.proofs.lemmas.Bool.{cases_eq}
use Rattle.std.proofs.lemmas.List.{append-nil, append_assoc}
use Rattle.std.proofs.lemmas.List.Elements.{Contains-append_left, Contains-append_right}
use Rattle.std.specs.Option.{option_map_or}
use Rattle.body_handles.specs.declared.handle.Handle.{Handle}
use Rattle.body_handles.specs.declared.slot_table.SlotEntry.{SlotEntry}
use Rattle.plain_world.specs.Constraints.{constraint_number}
use Rattle.plain_world.specs.declared.constraint.Constraint.{Constraint}
use Rattle.graph_colours.specs.declared.member.Member.{Member}
use Rattle.graph_colours.proofs.PlaceLemmas.{is_same, not_same}
use Rattle.islands.specs.declared.label.IslandState.{IslandState}
use Rattle.islands.specs.declared.label.IslandState.TheVariants.{Whole, Loose, Asleep}
use Rattle.islands.specs.declared.label.Label.{Label}
use Rattle.islands.specs.Labels.{IsIn, Labels, is_asleep, is_in, is_loose, label_at, loosened, merged, merged_by, own_label, relabel, relabelled, rested, sleeping_name, union_label, with_state, woken}
use Rattle.islands.specs.Links.{Edges, Linked}
use Rattle.islands.specs.Partition.{Inside, IsPartition, IsSplit}
use Rattle.islands.proofs.JoinLemmas.{contains_head, contains_tail, joined_within}
use Rattle.islands.proofs.LabelLemmas.{in_case, in_is, in_of, of_either, others_stay, relabel_at}
use Rattle.islands.proofs.SplitLemmas.{split_is}
use Rattle.body_handles.specs.Orders.{slot_of}
use Rattle.plain_world.specs.declared.body.Body.{Body}
use Rattle.plain_world.specs.Bodies.{AreBodies, is_mover}
use Rattle.plain_world.specs.Sleep.{roused, told, told_body, told_by}
use Rattle.plain_world.specs.Slots.{body_at}
use Rattle.sleep_wake.specs.Acting.{Acting, IsConsistent}
use Rattle.sleep_wake.specs.Changes.{begun, after_change, ended, parted, after_changes, united}
use Rattle.sleep_wake.specs.SleepPhase.{is_island, picked_to_split, ready, sleep_phase, split_at, split_picked, edges_in}
use Rattle.sleep_wake.specs.Sleeping.{islands_woken, rested_at, slept_at, split_if_loose}
use Rattle.sleep_wake.specs.Waking.{movers_woken, put_to_rest, set_woken, woken_at}
use Rattle.sleep_wake.specs.declared.change.Change.{Change}
use Rattle.sleep_wake.specs.declared.change.Change.TheVariants.{Begin, End}
use Rattle.sleep_wake.proofs.EdgeLemmas.{edges_inside}
use Rattle.sleep_wake.proofs.AwakeLemmas.{and_is}
use Rattle.sleep_wake.proofs.PhaseLemmas.{picked_is}
use Rattle.solver_sets.specs.Slept.{handles_where, sleeps}
use Rattle.solver_sets.specs.SinceTold.{is_asleep_in, newly_asleep, was_asleep}
use Rattle.world_core_base.specs.Telling.{AreToldBeside}
use Rattle.world_rules.specs.Sound.{AreTold}
use Rattle.world_rules.proofs.ToldLaws.{body_told, told_stays}
use Rattle.world_core.specs.Waking.{HasIsland, HasIslands, IsExtended, slots_of}

-- ---- movers that are listed by their islands

-- the members of the island of this name are added
pub island_added : (labels : Labels) (slot n : ℕ) (island old new : List ℕ) → Some n ≡ option_map (λ (l : Label). l.name) (label_at labels slot) → ((s : ℕ) → Contains island s ↔ IsIn labels n s) → new ≡ old ++ island → HasIsland labels new slot
island_added labels slot n island old new e members is name mover a b =
    let same : name ≡ n = named (label_at labels slot) e a in
    let listed : Contains island mover = (members mover).1 (subst (λ (k : ℕ). IsIn labels k mover) same b) in
    subst (λ (l : List ℕ). Contains l mover) (sym is) (Contains-append_right old island mover listed)
  where
    named : (o : Option Label) → Some n ≡ option_map (λ (l : Label). l.name) o → is_in o name ≡ true → name ≡ n
    named None f h = cc
    named (Some l) f h = let i = in_is (Some l) name h in let same : i.0 ≡ l = cc in let own : n ≡ l.name = cc in sym i.2 ∙ ap (λ (m : Label). m.name) same ∙ sym own

pub added_extends : (island old new : List ℕ) → new ≡ old ++ island → IsExtended old new
added_extends island old new is mover h = subst (λ (l : List ℕ). Contains l mover) (sym is) (Contains-append_left old island mover h)

-- the islands of the first slots are listed
abbrev pub HasFirst : Labels → List ℕ → ℕ → List ℕ → Type 0
HasFirst labels slots place movers = (k d : ℕ) → k < place → HasIsland labels movers (get_or slots k d)

pub first_none : (labels : Labels) (slots movers : List ℕ) → HasFirst labels slots 0 movers
first_none labels slots movers k d h = absurd (omega (arith, h))

pub first_more : (labels : Labels) (slots old new : List ℕ) (place slot : ℕ) → place < length slots → ((d : ℕ) → get_or slots place d ≡ slot) → HasFirst labels slots place old → HasIsland labels new slot → IsExtended old new → HasFirst labels slots (place + 1) new
first_more labels slots old new place slot lt at known island more k d h = elim (cases_eq k place) [
  | inl same ↦ subst (λ (s : ℕ). HasIsland labels new s) (sym (ap (λ (j : ℕ). get_or slots j d) same ∙ at d)) island
  | inr apart ↦ (λ name mover a b. more mover (known k d (omega (arith, h, apart)) name mover a b))
]

pub first_all : (labels : Labels) (slots movers : List ℕ) (place : ℕ) → length slots ≤ place → HasFirst labels slots place movers → HasIslands labels slots movers
first_all labels slots movers place h known slot c =
    let lt = c.1 in
    subst (λ (s : ℕ). HasIsland labels movers s) c.2 (known c.0 slot (omega (arith, h, lt)))

-- ---- bodies that were told before

-- what the bodies were told is what they are told by the same labels
stays_at : (labels : Labels) (bodies : List (Option Body)) (slot : ℕ) → told labels bodies ≡ bodies → option_map (told_body (label_at labels slot)) (body_at bodies slot) ≡ body_at bodies slot
stays_at labels bodies slot e = sym (body_told labels bodies slot) ∙ ap (λ (os : List (Option Body)). body_at os slot) e

stays_by : (old new : Labels) (bodies : List (Option Body)) (slot : ℕ) → told old bodies ≡ bodies → label_at new slot ≡ label_at old slot → option_map (told_body (label_at new slot)) (body_at bodies slot) ≡ body_at bodies slot
stays_by old new bodies slot e same = ap (λ (l : Option Label). option_map (told_body l) (body_at bodies slot)) same ∙ stays_at old bodies slot e

-- ---- an island gets another state

is_in_by : (a n : ℕ) (state : IslandState) (o : Option Label) → is_in (relabel a a (record { name = a; state = state }) o) n ≡ is_in o n
is_in_by a n state None = refl
is_in_by a n state (Some l) =
    let to : Label = record { name = a; state = state } in
    elim (cases_eq l.name a) [
      | inl e ↦ (let t : ((l.name == a) || (l.name == a)) ≡ true = rw (is_same l.name a e) refl in ap (λ (t : Bool). is_in (cond t (Some to) (Some l)) n) t ∙ ap (λ (m : ℕ). m == n) (sym e))
      | inr e ↦ (let t : ((l.name == a) || (l.name == a)) ≡ false = rw (not_same l.name a e) refl in ap (λ (t : Bool). is_in (cond t (Some to) (Some l)) n) t)
    ]

is_in_with : (name n : ℕ) (state : IslandState) (labels : Labels) (t : ℕ) → is_in (label_at (with_state name state labels) t) n ≡ is_in (label_at labels t) n
is_in_with name n state labels t = ap (λ (o : Option Label). is_in o n) (relabel_at name name (record { name = name; state = state }) labels t) ∙ is_in_by name n state (label_at labels t)

none_of : (o : Option Label) (name : ℕ) → is_in o name ≡ false → of_either name name o ≡ false
none_of o name h = ap (λ (t : Bool). t || t) h

pub label_with : (name : ℕ) (state : IslandState) (labels : Labels) (t : ℕ) → is_in (label_at labels t) name ≡ false → label_at (with_state name state labels) t ≡ label_at labels t
label_with name state labels t h = others_stay name name (record { name = name; state = state }) labels t (none_of (label_at labels t) name h)

not_in : (o : Option Label) (name : ℕ) → (is_in o name ≡ true → ⊥) → is_in o name ≡ false
not_in o name off = elim (in_case o name) [ inl h ↦ absurd (off h) | inr h ↦ h ]

-- no island has both
abbrev AreApart : Labels → ℕ → ℕ → Type 0
AreApart labels slot t = (n : ℕ) → IsIn labels n slot → IsIn labels n t → ⊥

-- ---- islands that wake

-- the island of the mover in the slot may have woken: all islands have the same movers, and others the same labels
record IsWokenIn (labels now : Labels) (slot : ℕ) : Type 0 where
  same : (n t : ℕ) → is_in (label_at now t) n ≡ is_in (label_at labels t) n
  others : (t : ℕ) → AreApart labels slot t → label_at now t ≡ label_at labels t

set_in : (s : Acting Constraint) (slot : ℕ) (l : Label) → label_at s.labels slot ≡ Some l → IsWokenIn s.labels (set_woken constraint_number l.name s).labels slot
unfolding set_woken woken
set_in s slot l e = record {
  same = λ n t. is_in_with l.name n Whole s.labels t;
  others = λ t off. label_with l.name Whole s.labels t (not_in (label_at s.labels t) l.name (off l.name (in_of (label_at s.labels slot) l l.name e refl)));
}

woken_if : (s : Acting Constraint) (slot : ℕ) (l : Label) (t : Bool) → label_at s.labels slot ≡ Some l → IsWokenIn s.labels (cond t (set_woken constraint_number l.name s) s).labels slot
woken_if s slot l true e = set_in s slot l e
woken_if s slot l false e = record { same = λ n t. refl; others = λ t off. refl }

woken_label : (s : Acting Constraint) (slot : ℕ) (o : Option Label) → label_at s.labels slot ≡ o → IsWokenIn s.labels (option_map_or (λ (l : Label). cond (is_asleep l.state) (set_woken constraint_number l.name s) s) o s).labels slot
woken_label s slot None e = record { same = λ n t. refl; others = λ t off. refl }
woken_label s slot (Some l) e = woken_if s slot l (is_asleep l.state) e

woken_in : (s : Acting Constraint) (slot : ℕ) → IsWokenIn s.labels (woken_at constraint_number slot s).labels slot
unfolding woken_at
woken_in s slot = woken_label s slot (label_at s.labels slot) refl

woken_others : (names : List ℕ) (s : Acting Constraint) (t : ℕ) → ((slot : ℕ) → Contains names slot → AreApart s.labels slot t) → label_at (islands_woken constraint_number names s).labels t ≡ label_at s.labels t
woken_others [] s t off = refl
woken_others (name ∷ names) s t off =
    let now : Acting Constraint = woken_at constraint_number name s in
    let one : IsWokenIn s.labels now.labels name = woken_in s name in
    woken_others names now t (λ slot c n a b. off slot (contains_tail name names slot c) n (sym (one.same n slot) ∙ a) (sym (one.same n t) ∙ b)) ∙ one.others t (off name (contains_head name names))

pub woken_beside : (names movers : List ℕ) (s : Acting Constraint) (bodies : List (Option Body)) → HasIslands s.labels names movers → told s.labels bodies ≡ bodies → AreToldBeside movers (islands_woken constraint_number names s).labels bodies
woken_beside names movers s bodies listed e slot off =
    stays_by s.labels (islands_woken constraint_number names s).labels bodies slot e (woken_others names s slot (λ other c n a b. off (listed other c n slot a b)))

-- ---- one mover falls asleep with its island

-- an island that may have been split, of which the mover in the slot was
record IsSplitIn (labels now : Labels) (slot : ℕ) : Type 0 where
  others : (t : ℕ) → AreApart labels slot t → label_at now t ≡ label_at labels t
  apart : (t : ℕ) → AreApart labels slot t → AreApart now slot t

-- the name of a component is that of a mover of the island that was split
component_in : (labels now : Labels) (name slot t n : ℕ) (edges : Edges) → IsPartition labels → Inside labels name edges → IsSplit labels name edges now → IsIn labels name slot → IsIn now n slot → label_at now t ≡ label_at labels t → IsIn now n t → IsIn labels name t
component_in labels now name slot t n edges p inside parts in_name a same b =
    let part = parts.members slot in_name in
    let own = in_is (label_at now slot) n a in
    let named : part.name ≡ n = let both : Some (own_label part.name) ≡ Some own.0 = sym part.label ∙ own.1 in let alike : own_label part.name ≡ own.0 = cc in ap (λ (l : Label). l.name) alike ∙ own.2 in
    let home : IsIn labels name part.name = (joined_within (Linked edges) (Linked edges) (λ (k : ℕ). IsIn labels name k) slot part.name (λ i j h k. (h, elim h [ inl q ↦ (inside i j q).1 | inr q ↦ (inside j i q).0 ])) in_name part.joined).1 in
    let there = in_is (label_at labels t) n (ap (λ (o : Option Label). is_in o n) (sym same) ∙ b) in
    let leads : label_at labels n ≡ Some there.0 = subst (λ (k : ℕ). label_at labels k ≡ Some there.0) there.2 (p.named t there.0 there.1) in
    let here : IsIn labels name n = subst (λ (k : ℕ). IsIn labels name k) named home in
    ap (λ (o : Option Label). is_in o name) (there.1 ∙ sym leads) ∙ here

split_in : (s : Acting Constraint) (slot : ℕ) (l : Label) → IsConsistent constraint_number s → label_at s.labels slot ≡ Some l → IsSplitIn s.labels (split_at l.name s).labels slot
unfolding split_at
split_in s slot l w e =
    let edges : Edges = edges_in s.labels l.name s.ties in
    let inside : Inside s.labels l.name edges = edges_inside s.labels l.name s.ties w.islands in
    let parts = split_is s.labels l.name edges w.islands.partition inside in
    let own : IsIn s.labels l.name slot = in_of (label_at s.labels slot) l l.name e refl in
    let others : (t : ℕ) → AreApart s.labels slot t → label_at (split_at l.name s).labels t ≡ label_at s.labels t = λ t off. parts.others t (not_in (label_at s.labels t) l.name (off l.name own)) in
    record {
      others = others;
      apart = λ t off n a b. off l.name own (component_in s.labels (split_at l.name s).labels l.name slot t n edges w.islands.partition inside parts own a (others t off) b);
    }

split_if : (s : Acting Constraint) (slot : ℕ) (l : Label) (t : Bool) → IsConsistent constraint_number s → label_at s.labels slot ≡ Some l → IsSplitIn s.labels (cond t (split_at l.name s) s).labels slot
split_if s slot l true w e = split_in s slot l w e
split_if s slot l false w e = record { others = λ t off. refl; apart = λ t off. off }

rested_others : (s : Acting Constraint) (slot t : ℕ) (o : Option Label) → label_at s.labels slot ≡ o → AreApart s.labels slot t → label_at (option_map_or (λ (l : Label). put_to_rest constraint_number l.name s) o s).labels t ≡ label_at s.labels t
unfolding put_to_rest rested
rested_others s slot t None e off = refl
rested_others s slot t (Some l) e off = label_with l.name Asleep s.labels t (not_in (label_at s.labels t) l.name (off l.name (in_of (label_at s.labels slot) l l.name e refl)))

slept_if : (s : Acting Constraint) (slot t : ℕ) (l : Label) (a : Bool) → IsConsistent constraint_number s → label_at s.labels slot ≡ Some l → AreApart s.labels slot t → label_at (cond a s (rested_at constraint_number slot (split_if_loose l s))).labels t ≡ label_at s.labels t
slept_if s slot t l true w e off = refl
slept_if s slot t l false w e off =
    let now : Acting Constraint = split_if_loose l s in
    let parts : IsSplitIn s.labels now.labels slot = split_if s slot l (is_loose l.state) w e in
    rested_others now slot t (label_at now.labels slot) refl (parts.apart t off) ∙ parts.others t off

slept_label : (s : Acting Constraint) (slot t : ℕ) (o : Option Label) → IsConsistent constraint_number s → label_at s.labels slot ≡ o → AreApart s.labels slot t → label_at (option_map_or (λ (l : Label). cond (is_asleep l.state) s (rested_at constraint_number slot (split_if_loose l s))) o s).labels t ≡ label_at s.labels t
slept_label s slot t None w e off = refl
slept_label s slot t (Some l) w e off = slept_if s slot t l (is_asleep l.state) w e off

slept_others : (s : Acting Constraint) (slot t : ℕ) → IsConsistent constraint_number s → AreApart s.labels slot t → label_at (slept_at constraint_number slot s).labels t ≡ label_at s.labels t
unfolding slept_at
slept_others s slot t w off = slept_label s slot t (label_at s.labels slot) w refl off

pub slept_beside : (slot : ℕ) (movers : List ℕ) (s : Acting Constraint) (bodies : List (Option Body)) → IsConsistent constraint_number s → HasIsland s.labels movers slot → told s.labels bodies ≡ bodies → AreToldBeside movers (slept_at constraint_number slot s).labels bodies
slept_beside slot movers s bodies w listed e other off = stays_by s.labels (slept_at constraint_number slot s).labels bodies other e (slept_others s slot other w (λ n a b. off (listed n other a b)))

-- ---- handles that are listed

-- the slot of one handle more
pub slots_more : (handles : List Handle) (i : ℕ) (d : Handle) (now next : List ℕ) → i < length handles → next ≡ now ++ (slot_of (get_or handles i d) ∷ []) → next ++ map slot_of (drop (i + 1) handles) ≡ now ++ map slot_of (drop i handles)
slots_more handles i d now next lt pushed =
    let left : drop i handles ≡ get_or handles i d ∷ drop (i + 1) handles = drop-cons handles i d lt ∙ ap (λ (k : ℕ). get_or handles i d ∷ drop k handles) (sym (add-one i)) in
    rw (pushed, left) (append_assoc now (slot_of (get_or handles i d) ∷ []) (map slot_of (drop (i + 1) handles)))

slots_past : (handles : List Handle) (i : ℕ) → length handles ≤ i → drop i handles ≡ []
slots_past [] zero le = refl
slots_past [] (suc i) le = refl
slots_past (h ∷ hs) zero le = absurd (omega (arith, le))
slots_past (h ∷ hs) (suc i) le = slots_past hs i (omega (arith, le))

-- all are listed past the end
pub slots_all : (handles : List Handle) (i : ℕ) (now : List ℕ) → length handles ≤ i → now ++ map slot_of (drop i handles) ≡ map slot_of handles → now ≡ map slot_of handles
slots_all handles i now le e = sym (append-nil now) ∙ ap (λ (hs : List Handle). now ++ map slot_of hs) (sym (slots_past handles i le)) ∙ e

listed_if : (t : Bool) (slot : ℕ) (h : Handle) (rest : List Handle) → Contains (slots_of rest) slot → Contains (slots_of (cond t (h ∷ rest) rest)) slot
listed_if true slot h rest c = contains_tail h.slot (slots_of rest) slot c
listed_if false slot h rest c = c

listed_where : (test : ℕ → Bool) (n : ℕ) (slot_entries : List SlotEntry) (k slot : ℕ) → slot ≡ n + k → k < length slot_entries → test slot ≡ true → Contains (slots_of (handles_where test n slot_entries)) slot
listed_where test n [] k slot e lt on = absurd (omega (arith, lt))
listed_where test n (p ∷ slot_entries) zero slot e lt on =
    let here : n ≡ slot = omega (arith, e) in
    let rest : List Handle = handles_where test (suc n) slot_entries in
    let h : Handle = record { slot = n; generation = p.generation } in
    subst (λ (t : Bool). Contains (slots_of (cond t (h ∷ rest) rest)) slot) (sym (ap test here ∙ on)) (subst (λ (m : ℕ). Contains (m ∷ slots_of rest) slot) (sym here) (contains_head slot (slots_of rest)))
listed_where test n (p ∷ slot_entries) (suc k) slot e lt on =
    listed_if (test n) slot (record { slot = n; generation = p.generation }) (handles_where test (suc n) slot_entries) (listed_where test (suc n) slot_entries k slot (omega (arith, e)) (omega (arith, lt)) on)

fewer_if : (t : Bool) (h : Handle) (rest : List Handle) (n : ℕ) → length rest ≤ n → length (cond t (h ∷ rest) rest) ≤ suc n
fewer_if true h rest n le = omega (arith, le)
fewer_if false h rest n le = omega (arith, le)

fewer_where : (test : ℕ → Bool) (n : ℕ) (slot_entries : List SlotEntry) → length (handles_where test n slot_entries) ≤ length slot_entries
fewer_where test n [] = omega arith
fewer_where test n (p ∷ slot_entries) = fewer_if (test n) (record { slot = n; generation = p.generation }) (handles_where test (suc n) slot_entries) (length slot_entries) (fewer_where test (suc n) slot_entries)

pub fewer_asleep : (slot_entries : List SlotEntry) (bodies : List (Option Body)) (labels : Labels) → length (newly_asleep slot_entries bodies labels) ≤ length slot_entries
unfolding newly_asleep
fewer_asleep slot_entries bodies labels = fewer_where (λ slot. sleeps labels slot && not (was_asleep bodies slot)) 0 slot_entries

-- ---- a body that is awake, and is told so

pub name_tells : (o : Option Label) (n : Option ℕ) → sleeping_name o ≡ n → option_map_or (λ (label : Label). is_asleep label.state) o false ≡ is_some n
name_tells None n e = ap (λ (m : Option ℕ). is_some m) e
name_tells (Some l) n e = by_state (is_asleep l.state) ∙ ap (λ (m : Option ℕ). is_some m) e
  where
    by_state : (t : Bool) → t ≡ is_some (cond t (Some l.name) None)
    by_state true = refl
    by_state false = refl

awake_stays : (o : Option Label) (b : Body) → sleeping_name o ≡ None → b.asleep ≡ None → told_body o b ≡ b
awake_stays o b e f = ap (λ (n : Option ℕ). cond (is_mover b) (told_by n b) b) e ∙ ap (λ (a : Option ℕ). cond (is_mover b) (cond (is_some a) (roused b) b) b) f ∙ both (is_mover b)
  where
    both : (t : Bool) → cond t b b ≡ b
    both true = refl
    both false = refl

-- ---- who sleeps after changes slept before

abbrev pub HaveSlept : Labels → Labels → Type 0
HaveSlept old new = (t n : ℕ) → sleeping_name (label_at new t) ≡ Some n → label_at new t ≡ label_at old t

pub slept_then : (old now new : Labels) → HaveSlept old now → HaveSlept now new → HaveSlept old new
slept_then old now new h k t n e =
    let same : label_at new t ≡ label_at now t = k t n e in
    same ∙ h t n (ap sleeping_name (sym same) ∙ e)

awake_none : (l : Label) (n : ℕ) → is_asleep l.state ≡ false → sleeping_name (Some l) ≡ Some n → ⊥
awake_none l n a e = let none : None ≡ Some n = sym (ap (λ (t : Bool). cond t (Some l.name) None) a) ∙ e in cc

relabel_slept : (t : Bool) (to : Label) (o : Option Label) (n : ℕ) → is_asleep to.state ≡ false → sleeping_name (cond t (Some to) o) ≡ Some n → cond t (Some to) o ≡ o
relabel_slept true to o n a e = absurd (awake_none to n a e)
relabel_slept false to o n a e = refl

relabelled_slept : (a b : ℕ) (to : Label) (labels : Labels) → is_asleep to.state ≡ false → HaveSlept labels (relabelled a b to labels)
relabelled_slept a b to labels up t n e =
    let at : label_at (relabelled a b to labels) t ≡ relabel_by (label_at labels t) = relabel_at a b to labels t ∙ by (label_at labels t) in
    at ∙ relabel_slept (of_either a b (label_at labels t)) to (label_at labels t) n up (ap sleeping_name (sym at) ∙ e)
  where
    relabel_by : Option Label → Option Label
    relabel_by o = cond (of_either a b o) (Some to) o

    by : (o : Option Label) → relabel a b to o ≡ relabel_by o
    by o = refl

pub woken_slept : (s : Acting Constraint) (slot : ℕ) → HaveSlept s.labels (woken_at constraint_number slot s).labels
unfolding woken_at set_woken woken
woken_slept s slot = by_label (label_at s.labels slot)
  where
    by_asleep : (l : Label) (t : Bool) → HaveSlept s.labels (cond t (set_woken constraint_number l.name s) s).labels
    by_asleep l true = relabelled_slept l.name l.name (record { name = l.name; state = Whole }) s.labels refl
    by_asleep l false = λ t n e. refl

    by_label : (o : Option Label) → HaveSlept s.labels (option_map_or (λ (l : Label). cond (is_asleep l.state) (set_woken constraint_number l.name s) s) o s).labels
    by_label None = λ t n e. refl
    by_label (Some l) = by_asleep l (is_asleep l.state)

second_slept : (s : Acting Constraint) (o : Option ℕ) → HaveSlept s.labels (option_map_or (λ slot. woken_at constraint_number slot s) o s).labels
second_slept s None = λ t n e. refl
second_slept s (Some slot) = woken_slept s slot

movers_slept : (s : Acting Constraint) (m : Member Constraint) → HaveSlept s.labels (movers_woken constraint_number m.movers s).labels
movers_slept s m =
    let now : Acting Constraint = woken_at constraint_number m.movers.first s in
    slept_then s.labels now.labels (movers_woken constraint_number m.movers s).labels (woken_slept s m.movers.first) (second_slept now m.movers.second)

either_up : (t : Bool) → is_asleep (cond t Loose Whole) ≡ false
either_up true = refl
either_up false = refl

merged_slept : (labels : Labels) (x y : Option Label) → HaveSlept labels (merged_by x y labels)
merged_slept labels None y = λ t n e. refl
merged_slept labels (Some x) None = λ t n e. refl
merged_slept labels (Some x) (Some y) = relabelled_slept x.name y.name (union_label x y) labels (either_up (is_loose x.state || is_loose y.state))

united_slept : (labels : Labels) (first : ℕ) (o : Option ℕ) → HaveSlept labels (united o first labels)
unfolding merged
united_slept labels first None = λ t n e. refl
united_slept labels first (Some second) = merged_slept labels (label_at labels first) (label_at labels second)

loosened_slept : (labels : Labels) (o : Option Label) → HaveSlept labels (option_map_or (λ (label : Label). with_state label.name Loose labels) o labels)
loosened_slept labels None = λ t n e. refl
loosened_slept labels (Some l) = relabelled_slept l.name l.name (record { name = l.name; state = Loose }) labels refl

parted_slept : (labels : Labels) (first : ℕ) (o : Option ℕ) → HaveSlept labels (parted o first labels)
unfolding loosened
parted_slept labels first None = λ t n e. refl
parted_slept labels first (Some second) = loosened_slept labels (label_at labels first)

pub changed_slept : (c : Change Constraint) (s : Acting Constraint) → HaveSlept s.labels (after_change constraint_number c s).labels
unfolding begun ended
changed_slept (Begin m) s =
    let now : Acting Constraint = movers_woken constraint_number m.movers s in
    slept_then s.labels now.labels (united m.movers.second m.movers.first now.labels) (movers_slept s m) (united_slept now.labels m.movers.first m.movers.second)
changed_slept (End m) s =
    let now : Acting Constraint = movers_woken constraint_number m.movers s in
    slept_then s.labels now.labels (parted m.movers.second m.movers.first now.labels) (movers_slept s m) (parted_slept now.labels m.movers.first m.movers.second)

pub after_changes_slept : (changes : List (Change Constraint)) (s : Acting Constraint) → HaveSlept s.labels (after_changes constraint_number changes s).labels
after_changes_slept [] s = λ t n e. refl
after_changes_slept (c ∷ changes) s =
    let now : Acting Constraint = after_change constraint_number c s in
    slept_then s.labels now.labels (after_changes constraint_number changes now).labels (changed_slept c s) (after_changes_slept changes now)

is_below : (bodies : List (Option Body)) (slot : ℕ) (b : Body) → body_at bodies slot ≡ Some b → slot < length bodies
is_below [] slot b e = cc
is_below (o ∷ os) zero b e = omega arith
is_below (o ∷ os) (suc slot) b e = let rest = is_below os slot b e in omega (arith, rest)

-- where those who woke are listed, these are all that are to be told
pub awake_beside : (movers : List ℕ) (bodies : List (Option Body)) (old new : Labels) → told old bodies ≡ bodies → HaveSlept old new → ((s : ℕ) → (was_asleep bodies s && not (sleeps new s)) ≡ true → Contains movers s) → AreToldBeside movers new bodies
awake_beside movers bodies old new e slept all slot off = by_name (sleeping_name (label_at new slot)) refl (body_at bodies slot) refl
  where
    listed : (b : Body) (n : ℕ) → body_at bodies slot ≡ Some b → b.asleep ≡ Some n → sleeping_name (label_at new slot) ≡ None → ⊥
    listed b n at a up =
        let was : was_asleep bodies slot ≡ true = ap is_asleep_in at ∙ ap (λ (m : Option ℕ). is_some m) a in
        let now : sleeps new slot ≡ false = name_tells (label_at new slot) None up in
        off (all slot (λ j. was j && not (now j)))

    by_body : (b : Body) (a : Option ℕ) → b.asleep ≡ a → body_at bodies slot ≡ Some b → sleeping_name (label_at new slot) ≡ None → told_body (label_at new slot) b ≡ b
    by_body b None f at up = awake_stays (label_at new slot) b up f
    by_body b (Some n) f at up = absurd (listed b n at f up)

    by_name : (a : Option ℕ) → sleeping_name (label_at new slot) ≡ a → (o : Option Body) → body_at bodies slot ≡ o → option_map (told_body (label_at new slot)) (body_at bodies slot) ≡ body_at bodies slot
    by_name (Some n) f o at = stays_by old new bodies slot e (slept slot n f)
    by_name None f None at = ap (option_map (told_body (label_at new slot))) at ∙ sym at
    by_name None f (Some b) at = ap (option_map (told_body (label_at new slot))) at ∙ ap Some (by_body b b.asleep refl at f) ∙ sym at

-- ---- who slept before a sleep phase sleeps on

abbrev pub SleepOn : Labels → Labels → Type 0
SleepOn old new = (t n : ℕ) → sleeping_name (label_at old t) ≡ Some n → label_at new t ≡ label_at old t

asleep_label : (o : Option Label) (n : ℕ) → sleeping_name o ≡ Some n → (l : Label) × (o ≡ Some l) × (l.state ≡ Asleep)
asleep_label None n e = cc
asleep_label (Some l) n e = (l, refl, by_state l.state e)
  where
    by_state : (state : IslandState) → cond (is_asleep state) (Some l.name) None ≡ Some n → state ≡ Asleep
    by_state Whole f = cc
    by_state Loose f = cc
    by_state Asleep f = refl

rested_on : (name : ℕ) (labels : Labels) → SleepOn labels (rested labels name)
unfolding rested
rested_on name labels t n e =
    let own = asleep_label (label_at labels t) n e in
    relabel_at name name (record { name = name; state = Asleep }) labels t ∙ ap (relabel name name (record { name = name; state = Asleep })) own.1 ∙ by own.0 own.2 ∙ sym own.1
  where
    by : (l : Label) → l.state ≡ Asleep → relabel name name (record { name = name; state = Asleep }) (Some l) ≡ Some l
    by l f = elim (cases_eq l.name name) [
      | inl same ↦ (let u : ((l.name == name) || (l.name == name)) ≡ true = rw (is_same l.name name same) refl in
          ap (λ (t : Bool). cond t (Some (record { name = name; state = Asleep })) (Some l)) u ∙ (λ j. Some (record { name = sym same j; state = sym f j })))
      | inr apart ↦ (let u : ((l.name == name) || (l.name == name)) ≡ false = rw (not_same l.name name apart) refl in ap (λ (t : Bool). cond t (Some (record { name = name; state = Asleep })) (Some l)) u)
    ]

on_then : (old now new : Labels) → SleepOn old now → SleepOn now new → SleepOn old new
on_then old now new h k t n e =
    let same : label_at now t ≡ label_at old t = h t n e in
    k t n (ap sleeping_name same ∙ e) ∙ same

all_rested_on : (names : List ℕ) (s : Acting Constraint) → SleepOn s.labels (fold (λ now name. put_to_rest constraint_number name now) s names).labels
unfolding put_to_rest
all_rested_on [] s = λ t n e. refl
all_rested_on (name ∷ names) s =
    let now : Acting Constraint = put_to_rest constraint_number name s in
    on_then s.labels now.labels (fold (λ now name. put_to_rest constraint_number name now) now names).labels (rested_on name s.labels) (all_rested_on names now)

loose_named : (name : ℕ) (o : Option Label) → is_island true name o ≡ true → (l : Label) × (o ≡ Some l) × (is_loose l.state ≡ true)
loose_named name None h = cc
loose_named name (Some l) h = (l, refl, (and_is (l.name == name) (is_loose l.state) h).1)

split_on : (name : ℕ) (s : Acting Constraint) → IsConsistent constraint_number s → is_island true name (label_at s.labels name) ≡ true → SleepOn s.labels (split_at name s).labels
unfolding split_at
split_on name s w island t n e =
    let inside : Inside s.labels name (edges_in s.labels name s.ties) = edges_inside s.labels name s.ties w.islands in
    let parts = split_is s.labels name (edges_in s.labels name s.ties) w.islands.partition inside in
    let own = asleep_label (label_at s.labels t) n e in
    let loose = loose_named name (label_at s.labels name) island in
    let clash : (l : Label) → l.state ≡ Asleep → is_loose l.state ≡ true → ⊥ = λ l a b. let no_more : false ≡ true = sym (ap is_loose a) ∙ b in cc in
    parts.others t (not_in (label_at s.labels t) name (λ h.
    let it = in_is (label_at s.labels t) name h in
    let same : it.0 ≡ own.0 = let both : Some it.0 ≡ Some own.0 = sym it.1 ∙ own.1 in cc in
    let named : label_at s.labels name ≡ Some own.0 = subst (λ (k : ℕ). label_at s.labels k ≡ Some own.0) (ap (λ (l : Label). l.name) (sym same) ∙ it.2) (w.islands.partition.named t own.0 own.1) in
    let is : loose.0 ≡ own.0 = let both : Some loose.0 ≡ Some own.0 = sym loose.1 ∙ named in cc in
    clash own.0 own.2 (subst (λ (l : Label). is_loose l.state ≡ true) is loose.2)))

picked_on : (o : Option ℕ) (s : Acting Constraint) → IsConsistent constraint_number s → ((name : ℕ) → o ≡ Some name → is_island true name (label_at s.labels name) ≡ true) → SleepOn s.labels (split_picked o s).labels
picked_on None s w island = λ t n e. refl
picked_on (Some name) s w island = split_on name s w (island name refl)

pub phase_on : (timers : List ℕ) (s : Acting Constraint) → IsConsistent constraint_number s → SleepOn s.labels (sleep_phase constraint_number timers s).labels
phase_on timers s w =
    let now : Acting Constraint = split_picked (picked_to_split s.labels timers) s in
    on_then s.labels now.labels (sleep_phase constraint_number timers s).labels (picked_on (picked_to_split s.labels timers) s w (λ name e. picked_is s.labels timers name e)) (all_rested_on (ready false now.labels timers) now)

-- and before one mover is put to sleep with its island
pub slept_on : (slot : ℕ) (s : Acting Constraint) → IsConsistent constraint_number s → SleepOn s.labels (slept_at constraint_number slot s).labels
unfolding slept_at put_to_rest
slept_on slot s w = by_label (label_at s.labels slot) refl
  where
    rested_by_on : (now : Acting Constraint) (o : Option Label) → SleepOn now.labels (option_map_or (λ (l : Label). put_to_rest constraint_number l.name now) o now).labels
    rested_by_on now None = λ t n e. refl
    rested_by_on now (Some l) = rested_on l.name now.labels

    by_loose : (l : Label) (t : Bool) → is_loose l.state ≡ t → label_at s.labels slot ≡ Some l → SleepOn s.labels (cond t (split_at l.name s) s).labels
    by_loose l false f e = λ t n h. refl
    by_loose l true f e =
        let own : is_island true l.name (Some l) ≡ true = ap (λ (t : Bool). t && is_loose l.state) (is_same l.name l.name refl) ∙ f in
        split_on l.name s w (ap (is_island true l.name) (w.islands.partition.named slot l e) ∙ own)

    by_asleep : (l : Label) (a : Bool) → label_at s.labels slot ≡ Some l → SleepOn s.labels (cond a s (rested_at constraint_number slot (split_if_loose l s))).labels
    by_asleep l true e = λ t n h. refl
    by_asleep l false e =
        let now : Acting Constraint = split_if_loose l s in
        on_then s.labels now.labels (rested_at constraint_number slot now).labels (by_loose l (is_loose l.state) refl e) (rested_by_on now (label_at now.labels slot))

    by_label : (o : Option Label) → label_at s.labels slot ≡ o → SleepOn s.labels (option_map_or (λ (l : Label). cond (is_asleep l.state) s (rested_at constraint_number slot (split_if_loose l s))) o s).labels
    by_label None e = λ t n h. refl
    by_label (Some l) e = by_asleep l (is_asleep l.state) e

-- those who fell asleep are all that are to be told
pub asleep_beside : (slot_entries : List SlotEntry) (bodies : List (Option Body)) (old new : Labels) → length bodies ≤ length slot_entries → told old bodies ≡ bodies → AreTold bodies old → SleepOn old new → AreToldBeside (slots_of (newly_asleep slot_entries bodies new)) new bodies
unfolding newly_asleep
asleep_beside slot_entries bodies old new long e are on slot off = by_body (body_at bodies slot) refl
  where
    test : ℕ → Bool
    test s = sleeps new s && not (was_asleep bodies s)

    listed : (b : Body) (n : ℕ) → body_at bodies slot ≡ Some b → b.asleep ≡ None → sleeping_name (label_at new slot) ≡ Some n → ⊥
    listed b n at a down =
        let below = is_below bodies slot b at in
        let was : was_asleep bodies slot ≡ false = ap is_asleep_in at ∙ ap (λ (m : Option ℕ). is_some m) a in
        let now : sleeps new slot ≡ true = name_tells (label_at new slot) (Some n) down in
        off (listed_where test 0 slot_entries slot slot (omega arith) (omega (arith, below, long)) (λ j. now j && not (was j)))

    by_name : (b : Body) (a : Option ℕ) → sleeping_name (label_at new slot) ≡ a → body_at bodies slot ≡ Some b → b.asleep ≡ None → told_body (label_at new slot) b ≡ b
    by_name b None f at up = awake_stays (label_at new slot) b f up
    by_name b (Some n) f at up = absurd (listed b n at up f)

    by_asleep : (b : Body) (a : Option ℕ) → b.asleep ≡ a → body_at bodies slot ≡ Some b → option_map (told_body (label_at new slot)) (body_at bodies slot) ≡ body_at bodies slot
    by_asleep b (Some n) f at = stays_by old new bodies slot e (on slot n (sym (are slot b at) ∙ f))
    by_asleep b None f at = ap (option_map (told_body (label_at new slot))) at ∙ ap Some (by_name b (sleeping_name (label_at new slot)) refl at f) ∙ sym at

    by_body : (o : Option Body) → body_at bodies slot ≡ o → option_map (told_body (label_at new slot)) (body_at bodies slot) ≡ body_at bodies slot
    by_body None at = ap (option_map (told_body (label_at new slot))) at ∙ sym at
    by_body (Some b) at = by_asleep b b.asleep refl at

-- the sleep phase tells those alone
pub rested_beside : (slot_entries : List SlotEntry) (bodies : List (Option Body)) (s new : Acting Constraint) (timers : List ℕ) → length bodies ≤ length slot_entries → AreBodies bodies → AreTold bodies s.labels → IsConsistent constraint_number s → new ≡ sleep_phase constraint_number timers s
    → AreToldBeside (slots_of (newly_asleep slot_entries bodies new.labels)) new.labels bodies
rested_beside slot_entries bodies s new timers long are told consistent e =
    asleep_beside slot_entries bodies s.labels new.labels long (told_stays s.labels bodies are told) told (subst (λ (a : Acting Constraint). SleepOn s.labels a.labels) (sym e) (phase_on timers s consistent))
