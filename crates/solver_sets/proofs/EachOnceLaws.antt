-- What stands somewhere in a world is each body, joint and contact that there is, once, in its set; so its census lists
-- each once.
use Rattle.std.proofs.Common.{◌≡◌, ◌⊎◌, ℕ, zero, suc, ◌+◌, ◌<◌, ◌==◌, ◌&&◌, ◌||◌, Bool, true, false, cond, List, [], ◌∷◌, ◌++◌, map, Option, Some, None, option_map, is_some, slice_get, inl, inr, refl, sym, ap, ap₂, ◌∙◌, subst, arith}
use Rattle.std.specs.List.{cons_option, find}
use Rattle.std.proofs.lemmas.Option.{none-some, same_Some}
use Rattle.body_handles.specs.declared.handle.Handle.{Handle}
use Rattle.body_handles.specs.declared.slot_table.SlotEntry.{SlotEntry}
use Rattle.body_handles.specs.SlotEntries.{IsLive, is_live, is_live_at}
use Rattle.contacts_base.proofs.Members.{IsIn, contains_from_in, in_append, in_from_contains, in_left, in_right}
use Rattle.contacts_base.specs.declared.key.ShapeId.{ShapeId}
use Rattle.contacts_base.specs.declared.key.ContactKey.{ContactKey}
use Rattle.contacts_base.specs.declared.contact.ContactEntry.{ContactEntry}
use Rattle.contacts_base.specs.Contacts.{number_of}
use Rattle.contacts_base.specs.Evaluate.{touches}
use Rattle.contacts_base.specs.Keys.{key_number}
use Rattle.graph_colours.proofs.Cases.{true_or_false}
use Rattle.graph_colours.proofs.PlaceLemmas.{is_same, same_from}
use Rattle.plain_world.specs.declared.body.Body.{Body}
use Rattle.plain_world.specs.declared.kind.Kind.{Kind}
use Rattle.plain_world.specs.declared.kind.Kind.TheVariants.{Static, Kinematic, Dynamic}
use Rattle.plain_world.specs.declared.body.SetName.{SetName}
use Rattle.plain_world.specs.declared.body.SetName.TheVariants as sets
use Rattle.plain_world.specs.Bodies.{is_mover, set_of, standing_of}
use Rattle.plain_world.specs.Changes.{is_awake_in}
use Rattle.plain_world.specs.Kinds.{is_dynamic}
use Rattle.plain_world.specs.Slots.{AreMatched, body_at, item_at, is_taken_entry}
use Rattle.solver_sets.specs.declared.census.Item.{Item}
use Rattle.solver_sets.specs.declared.census.Item.TheVariants as items
use Rattle.solver_sets.specs.Laws as laws
use Rattle.solver_sets.specs.Census.{Standing, body_standings, census_in, census_of, contact_standing, contact_standings, in_set, joint_standings, listed, mover_set, set_with, standing_apart, standing_between, standing_if, standing_of_contact, standing_of_joint, standings_from, standings_of}
use Rattle.solver_sets.specs.EachOnce.{HasSleeper, IsPresent, ListsEachOnce, has_key, is_same_shape, list_of, sleeping_set_names, stand}
use Rattle.solver_sets.specs.Alike.{OnlyMoversSleep}
use Rattle.solver_sets.specs.Ties.{JointSlots, is_enabled}
use Rattle.solver_sets.proofs.BondLaws.{rises_from_keys}
use Rattle.solver_sets.proofs.CensusLaws.{lists_are_census}
use Rattle.solver_sets.proofs.ListLaws.{Rises, in_mapped, in_some, mapped_in, only_one}
use Rattle.solver_sets.proofs.ListedOnce.{Apart, IsNameOf, StandsIn, all_distinct, all_in, apart_append, in_all, in_list, in_names, list_in, list_is, names_in, pairs_from_distinct}

-- ---- what a handle names

abbrev named : {X : Type 0} → List SlotEntry → List (Option X) → Handle → Option X
named slot_entries xs h = cond (is_live slot_entries h) (item_at xs h.slot) None

both : (t u : Bool) → t ≡ true → u ≡ true → (t && u) ≡ true
both true u e f = f
both false u e f = e

-- the slot is taken at the generation, and the item is in it
pub record IsKeyWithin {X : Type 0} (p : Option SlotEntry) (generation : ℕ) (o : Option X) (x : X) : Type 0 where
  pub place : SlotEntry
  pub is : p ≡ Some place
  pub same : place.generation ≡ generation
  pub live : place.live ≡ true
  pub there : o ≡ Some x

named_by : {X : Type 0} (p : SlotEntry) (g : ℕ) (o : Option X) (x : X) (t u : Bool) → p.live ≡ t → (p.generation == g) ≡ u → cond (t && u) o None ≡ Some x → IsKeyWithin (Some p) g o x
named_by p g o x true true l s e = record { place = p; is = refl; same = same_from p.generation g s; live = l; there = e }
named_by p g o x true false l s e = absurd (none-some x e)
named_by p g o x false true l s e = absurd (none-some x e)
named_by p g o x false false l s e = absurd (none-some x e)

named_from : {X : Type 0} (p : Option SlotEntry) (g : ℕ) (o : Option X) (x : X) → cond (is_live_at p g) o None ≡ Some x → IsKeyWithin p g o x
named_from None g o x e = absurd (none-some x e)
named_from (Some p) g o x e = named_by p g o x p.live (p.generation == g) refl refl e

is_named : {X : Type 0} (slot_entries : List SlotEntry) (xs : List (Option X)) (h : Handle) (p : SlotEntry) (x : X) → slice_get slot_entries h.slot ≡ Some p → p.live ≡ true → p.generation ≡ h.generation → item_at xs h.slot ≡ Some x → named slot_entries xs h ≡ Some x
is_named {X} slot_entries xs h p x at live same e =
    let is : is_live slot_entries h ≡ true = ap (λ (o : Option SlotEntry). is_live_at o h.generation) at ∙ both p.live (p.generation == h.generation) live (is_same p.generation h.generation same) in
    ap (λ (t : Bool). cond t (item_at xs h.slot) None) is ∙ e

-- a slot with an item is taken, and a slot that is taken has one
taken_live : {X : Type 0} (slot_entries : List SlotEntry) (xs : List (Option X)) (k : ℕ) (p : SlotEntry) (x : X) → AreMatched slot_entries xs → slice_get slot_entries k ≡ Some p → item_at xs k ≡ Some x → p.live ≡ true
taken_live {X} slot_entries xs k p x m at e = sym (ap is_taken_entry at) ∙ sym (m.taken k) ∙ ap (λ (o : Option X). is_some o) e

pub record HasItem {X : Type 0} (o : Option X) : Type 0 where
  pub of : X
  pub is : o ≡ Some of

has_item : {X : Type 0} (o : Option X) → is_some o ≡ true → HasItem o
has_item None e = cc
has_item (Some x) e = record { of = x; is = refl }

has_place : (o : Option SlotEntry) → is_taken_entry o ≡ true → HasItem o
has_place None e = cc
has_place (Some p) e = record { of = p; is = refl }

abbrev place_with : ℕ → Bool → SlotEntry
place_with generation live = record { generation = generation; live = live }

live_is : (p : SlotEntry) (g : ℕ) → p.generation ≡ g → p.live ≡ true → Some p ≡ Some (record { generation = g; live = true })
live_is p g same live = ap₂ (λ (a : ℕ) (t : Bool). Some (place_with a t)) same live

-- ---- what stands in slots

abbrev numbered : ℕ → ℕ → Handle
numbered slot generation = record { slot = slot; generation = generation }

abbrev in_slot : {X : Type 0} → (Handle → Item) → (X → SetName) → ℕ → ℕ → X → Standing
in_slot item set slot generation x = record { item = item (numbered slot generation); set = set x }

-- it is what stands in a slot of these lists, of which the first is the slot n
pub record IsFrom {X : Type 0} (made : Handle → Item) (stands : X → SetName) (n : ℕ) (slot_entries : List SlotEntry) (xs : List (Option X)) (y : Standing) : Type 0 where
  pub index : ℕ
  pub slot : ℕ
  pub place : SlotEntry
  pub of : X
  pub at_place : slice_get slot_entries index ≡ Some place
  pub at_item : item_at xs index ≡ Some of
  pub counts : slot ≡ n + index
  pub is : y ≡ in_slot made stands slot place.generation of

shifted : {X : Type 0} (item : Handle → Item) (set : X → SetName) (n : ℕ) (p : SlotEntry) (slot_entries : List SlotEntry) (o : Option X) (xs : List (Option X)) (y : Standing) → IsFrom item set (suc n) slot_entries xs y → IsFrom item set n (p ∷ slot_entries) (o ∷ xs) y
shifted item set n p slot_entries o xs y h = record { index = suc h.index; slot = h.slot; place = h.place; of = h.of; at_place = h.at_place; at_item = h.at_item; counts = let e = h.counts in omega (arith, e); is = h.is }

in_before : {X : Type 0} (item : Handle → Item) (set : X → SetName) (n : ℕ) (p : SlotEntry) (slot_entries : List SlotEntry) (o : Option X) (xs : List (Option X)) (y : Standing) → IsIn y (cons_option (standing_if item set (numbered n p.generation) o) (standings_from item set (suc n) slot_entries xs))
    → (IsIn y (standings_from item set (suc n) slot_entries xs) → IsFrom item set (suc n) slot_entries xs y) → IsFrom item set n (p ∷ slot_entries) (o ∷ xs) y
in_before item set n p slot_entries None xs y h rest = shifted item set n p slot_entries None xs y (rest h)
in_before item set n p slot_entries (Some x) xs y h rest = elim h [
  | inl e ↦ record { index = 0; slot = n; place = p; of = x; at_place = refl; at_item = refl; counts = omega arith; is = e }
  | inr q ↦ shifted item set n p slot_entries (Some x) xs y (rest q)
]

in_from : {X : Type 0} (item : Handle → Item) (set : X → SetName) (n : ℕ) (slot_entries : List SlotEntry) (xs : List (Option X)) (y : Standing) → IsIn y (standings_from item set n slot_entries xs) → IsFrom item set n slot_entries xs y
in_from item set n [] xs y h = absurd h
in_from item set n (p ∷ slot_entries) [] y h = absurd h
in_from item set n (p ∷ slot_entries) (o ∷ xs) y h = in_before item set n p slot_entries o xs y h (in_from item set (suc n) slot_entries xs y)

from_in : {X : Type 0} (item : Handle → Item) (set : X → SetName) (n : ℕ) (slot_entries : List SlotEntry) (xs : List (Option X)) (k m : ℕ) (p : SlotEntry) (x : X) → slice_get slot_entries k ≡ Some p → item_at xs k ≡ Some x → m ≡ n + k → IsIn (in_slot item set m p.generation x) (standings_from item set n slot_entries xs)
from_in item set n [] xs k m p x at e counts = absurd (none-some p at)
from_in item set n (q ∷ slot_entries) [] k m p x at e counts = absurd (none-some x e)
from_in {X} item set n (q ∷ slot_entries) (o ∷ xs) zero m p x at e counts =
    let same : q ≡ p = same_Some q p at in
    let here : n ≡ m = omega (arith, counts) in
    subst (λ (v : Option X). IsIn (in_slot item set m p.generation x) (cons_option (standing_if item set (numbered n q.generation) v) (standings_from item set (suc n) slot_entries xs))) (sym e)
    (inl (ap₂ (λ (s g : ℕ). in_slot item set s g x) (sym here) (sym (ap (λ (v : SlotEntry). v.generation) same))))
from_in item set n (q ∷ slot_entries) (o ∷ xs) (suc k) m p x at e counts =
    in_some (standing_if item set (numbered n q.generation) o) (standings_from item set (suc n) slot_entries xs) (in_slot item set m p.generation x)
    (from_in item set (suc n) slot_entries xs k m p x at e (omega (arith, counts)))

-- what stands in a slot is named by its handle
pub record IsSlotted {X : Type 0} (made : Handle → Item) (stands : X → SetName) (slot_entries : List SlotEntry) (xs : List (Option X)) (y : Standing) : Type 0 where
  pub handle : Handle
  pub of : X
  pub names : named slot_entries xs handle ≡ Some of
  pub at_item : item_at xs handle.slot ≡ Some of
  pub is : y ≡ record { item = made handle; set = stands of }

slotted : {X : Type 0} (item : Handle → Item) (set : X → SetName) (slot_entries : List SlotEntry) (xs : List (Option X)) (y : Standing) → AreMatched slot_entries xs → IsIn y (standings_from item set 0 slot_entries xs) → IsSlotted item set slot_entries xs y
slotted {X} item set slot_entries xs y m h =
    let o = in_from item set 0 slot_entries xs y h in
    let e : o.index ≡ o.slot = let c = o.counts in omega (arith, c) in
    let at : slice_get slot_entries o.slot ≡ Some o.place = sym (ap (slice_get slot_entries) e) ∙ o.at_place in
    let there : item_at xs o.slot ≡ Some o.of = sym (ap (λ (k : ℕ). item_at xs k) e) ∙ o.at_item in
    record {
      handle = numbered o.slot o.place.generation;
      of = o.of;
      names = is_named slot_entries xs (numbered o.slot o.place.generation) o.place o.of at (taken_live slot_entries xs o.slot o.place o.of m at there) refl there;
      at_item = there;
      is = o.is;
    }

named_stands : {X : Type 0} (item : Handle → Item) (set : X → SetName) (slot_entries : List SlotEntry) (xs : List (Option X)) (h : Handle) (x : X) → named slot_entries xs h ≡ Some x → IsIn (in_slot item set h.slot h.generation x) (standings_from item set 0 slot_entries xs)
named_stands item set slot_entries xs h x e =
    let o = named_from (slice_get slot_entries h.slot) h.generation (item_at xs h.slot) x e in
    subst (λ (g : ℕ). IsIn (in_slot item set h.slot g x) (standings_from item set 0 slot_entries xs)) o.same (from_in item set 0 slot_entries xs h.slot h.slot o.place x o.is o.there (omega arith))

-- the item in a slot
slot_stands : {X : Type 0} (item : Handle → Item) (set : X → SetName) (slot_entries : List SlotEntry) (xs : List (Option X)) (k : ℕ) (x : X) → AreMatched slot_entries xs → item_at xs k ≡ Some x → (g : ℕ) × IsIn (in_slot item set k g x) (standings_from item set 0 slot_entries xs)
slot_stands {X} item set slot_entries xs k x m e =
    let p = has_place (slice_get slot_entries k) (sym (m.taken k) ∙ ap (λ (o : Option X). is_some o) e) in
    (p.of.generation, from_in item set 0 slot_entries xs k k p.of x p.is e (omega arith))

-- ---- each slot's item stands once

abbrev slot_in : Item → ℕ
slot_in (items.Body h) = h.slot
slot_in (items.Joint h) = h.slot
slot_in (items.Contact key) = 0

before_apart : {X : Type 0} (item : Handle → Item) (set : X → SetName) (n : ℕ) (p : SlotEntry) (slot_entries : List SlotEntry) (o : Option X) (xs : List (Option X)) → ((h : Handle) → slot_in (item h) ≡ h.slot) → Apart (standings_from item set (suc n) slot_entries xs)
    → Apart (cons_option (standing_if item set (numbered n p.generation) o) (standings_from item set (suc n) slot_entries xs))
before_apart item set n p slot_entries None xs slot a = a
before_apart item set n p slot_entries (Some x) xs slot a = (
  λ y h e.
      let o = in_from item set (suc n) slot_entries xs y h in
      let same : n ≡ o.slot = sym (slot (numbered n p.generation)) ∙ ap slot_in (e ∙ ap (λ (s : Standing). s.item) o.is) ∙ slot (numbered o.slot o.place.generation) in
      let counts = o.counts in
      absurd (omega (arith, same, counts)),
  a,
)

slots_apart : {X : Type 0} (item : Handle → Item) (set : X → SetName) (n : ℕ) (slot_entries : List SlotEntry) (xs : List (Option X)) → ((h : Handle) → slot_in (item h) ≡ h.slot) → Apart (standings_from item set n slot_entries xs)
slots_apart item set n [] xs slot = tt
slots_apart item set n (p ∷ slot_entries) [] slot = tt
slots_apart item set n (p ∷ slot_entries) (o ∷ xs) slot = before_apart item set n p slot_entries o xs slot (slots_apart item set (suc n) slot_entries xs slot)

-- ---- contacts

abbrev number_in : Item → ℕ
number_in (items.Body h) = 0
number_in (items.Joint h) = 0
number_in (items.Contact key) = key_number key

not_below : (n m : ℕ) → n ≡ m → n < m → ⊥
not_below n m e lt = omega (arith, e, lt)

contacts_apart : (bodies : List (Option Body)) (contacts : List ContactEntry) → Rises number_of contacts → Apart (contact_standings bodies contacts)
contacts_apart bodies [] r = tt
contacts_apart bodies (c ∷ contacts) r = (
  λ y h e.
      let o = in_mapped (contact_standing bodies) contacts y h in
      not_below (number_of c) (number_of o.of) (ap number_in (e ∙ ap (λ (s : Standing). s.item) o.is)) (r.0 o.of o.there),
  contacts_apart bodies contacts r.1,
)

first_true : (t u : Bool) → (t && u) ≡ true → t ≡ true
first_true true u e = refl
first_true false u e = e

second_true : (t u : Bool) → (t && u) ≡ true → u ≡ true
second_true true u e = e
second_true false u e = cc

abbrev shape_with : ℕ → ℕ → ShapeId
shape_with slot index = record { slot = slot; index = index }

abbrev key_with : ShapeId → ShapeId → ContactKey
key_with first second = record { first = first; second = second }

shape_is : (a b : ShapeId) → is_same_shape a b ≡ true → a ≡ b
shape_is a b e = ap₂ (λ (s i : ℕ). shape_with s i) (same_from a.slot b.slot (first_true (a.slot == b.slot) (a.index == b.index) e)) (same_from a.index b.index (second_true (a.slot == b.slot) (a.index == b.index) e))

key_is : (key : ContactKey) (e : ContactEntry) → has_key key e ≡ true → e.key ≡ key
key_is key e h = ap₂ (λ (a b : ShapeId). key_with a b)
    (shape_is e.key.first key.first (first_true (is_same_shape e.key.first key.first) (is_same_shape e.key.second key.second) h))
    (shape_is e.key.second key.second (second_true (is_same_shape e.key.first key.first) (is_same_shape e.key.second key.second) h))

shape_same : (a : ShapeId) → is_same_shape a a ≡ true
shape_same a = both (a.slot == a.slot) (a.index == a.index) (is_same a.slot a.slot refl) (is_same a.index a.index refl)

own_key : (e : ContactEntry) → has_key e.key e ≡ true
own_key e = both (is_same_shape e.key.first e.key.first) (is_same_shape e.key.second e.key.second) (shape_same e.key.first) (shape_same e.key.second)

found_by : (c e : ContactEntry) (contacts : List ContactEntry) (t : Bool) → has_key e.key c ≡ t → Rises number_of (c ∷ contacts) → IsIn e (c ∷ contacts) → (IsIn e contacts → find (has_key e.key) contacts ≡ Some e) → cond t (Some c) (find (has_key e.key) contacts) ≡ Some e
found_by c e contacts true k r h rest = ap (λ (z : ContactEntry). Some z) (only_one number_of (c ∷ contacts) c e r (inl refl) h (ap key_number (key_is e.key c k)))
found_by c e contacts false k r h rest = elim h [
  | inl p ↦ absurd (true_or_false (has_key e.key c) (ap (λ (z : ContactEntry). has_key e.key z) (sym p) ∙ own_key e) k)
  | inr q ↦ rest q
]

contact_found : (contacts : List ContactEntry) (e : ContactEntry) → Rises number_of contacts → IsIn e contacts → find (has_key e.key) contacts ≡ Some e
contact_found [] e r h = absurd h
contact_found (c ∷ contacts) e r h = found_by c e contacts (has_key e.key c) refl r h (contact_found contacts e r.1)

-- the contact has the key
pub record IsOfKey (contacts : List ContactEntry) (wanted : ContactKey) (e : ContactEntry) : Type 0 where
  pub there : IsIn e contacts
  pub key : e.key ≡ wanted

of_key_by : (c e : ContactEntry) (contacts : List ContactEntry) (key : ContactKey) (t : Bool) → has_key key c ≡ t → cond t (Some c) (find (has_key key) contacts) ≡ Some e → (find (has_key key) contacts ≡ Some e → IsOfKey contacts key e) → IsOfKey (c ∷ contacts) key e
of_key_by c e contacts key true k h rest = let same : c ≡ e = same_Some c e h in record { there = inl (sym same); key = ap (λ (z : ContactEntry). z.key) (sym same) ∙ key_is key c k }
of_key_by c e contacts key false k h rest = let o = rest h in record { there = inr o.there; key = o.key }

of_key : (contacts : List ContactEntry) (key : ContactKey) (e : ContactEntry) → find (has_key key) contacts ≡ Some e → IsOfKey contacts key e
of_key [] key e h = absurd (none-some e h)
of_key (c ∷ contacts) key e h = of_key_by c e contacts key (has_key key c) refl h (of_key contacts key e)

-- ---- all that stands somewhere

abbrev all : List SlotEntry → List (Option Body) → JointSlots → List ContactEntry → List Standing
all slot_entries bodies s contacts = body_standings slot_entries bodies ++ (joint_standings bodies s ++ contact_standings bodies contacts)

-- what a world's lists keep
pub record AreLists (slot_entries : List SlotEntry) (bodies : List (Option Body)) (s : JointSlots) (contacts : List ContactEntry) : Type 0 where
  pub matched : AreMatched slot_entries bodies
  pub joints : AreMatched s.slot_entries s.joints
  pub rising : Rises number_of contacts

abbrev kind : Item → ℕ
kind (items.Body h) = 0
kind (items.Joint h) = 1
kind (items.Contact key) = 2

not_alike : (n m : ℕ) (a b : Item) → kind a ≡ n → kind b ≡ m → n < m → a ≡ b → ⊥
not_alike n m a b p q lt e = let same : n ≡ m = sym p ∙ ap kind e ∙ q in omega (arith, same, lt)

body_kind : (slot_entries : List SlotEntry) (bodies : List (Option Body)) (y : Standing) → IsIn y (body_standings slot_entries bodies) → kind y.item ≡ 0
body_kind slot_entries bodies y h = let o = in_from items.Body standing_of 0 slot_entries bodies y h in ap (λ (s : Standing). kind s.item) o.is

joint_kind : (bodies : List (Option Body)) (s : JointSlots) (y : Standing) → IsIn y (joint_standings bodies s) → kind y.item ≡ 1
joint_kind bodies s y h = let o = in_from items.Joint (standing_of_joint bodies) 0 s.slot_entries s.joints y h in ap (λ (z : Standing). kind z.item) o.is

contact_kind : (bodies : List (Option Body)) (contacts : List ContactEntry) (y : Standing) → IsIn y (contact_standings bodies contacts) → kind y.item ≡ 2
contact_kind bodies contacts y h = let o = in_mapped (contact_standing bodies) contacts y h in ap (λ (z : Standing). kind z.item) o.is

all_apart : (slot_entries : List SlotEntry) (bodies : List (Option Body)) (s : JointSlots) (contacts : List ContactEntry) → Rises number_of contacts → Apart (all slot_entries bodies s contacts)
all_apart slot_entries bodies s contacts r =
    apart_append (body_standings slot_entries bodies) (joint_standings bodies s ++ contact_standings bodies contacts)
    (slots_apart items.Body standing_of 0 slot_entries bodies (λ h. refl))
    (apart_append (joint_standings bodies s) (contact_standings bodies contacts)
    (slots_apart items.Joint (standing_of_joint bodies) 0 s.slot_entries s.joints (λ h. refl))
    (contacts_apart bodies contacts r)
    (λ x y h k. not_alike 1 2 x.item y.item (joint_kind bodies s x h) (contact_kind bodies contacts y k) (omega arith)))
    (λ x y h k. elim (in_append y (joint_standings bodies s) (contact_standings bodies contacts) k) [
      | inl p ↦ not_alike 0 1 x.item y.item (body_kind slot_entries bodies x h) (joint_kind bodies s y p) (omega arith)
      | inr q ↦ not_alike 0 2 x.item y.item (body_kind slot_entries bodies x h) (contact_kind bodies contacts y q) (omega arith)
    ])

-- what stands somewhere stands in its set
stands_there : (slot_entries : List SlotEntry) (bodies : List (Option Body)) (s : JointSlots) (contacts : List ContactEntry) (y : Standing) → AreLists slot_entries bodies s contacts → IsIn y (all slot_entries bodies s contacts) → stand slot_entries bodies s contacts y.item ≡ Some y.set
stands_there slot_entries bodies s contacts y are h = elim (in_append y (body_standings slot_entries bodies) (joint_standings bodies s ++ contact_standings bodies contacts) h) [
  | inl p ↦
      let o = slotted items.Body standing_of slot_entries bodies y are.matched p in
      subst (λ (z : Standing). stand slot_entries bodies s contacts z.item ≡ Some z.set) (sym o.is) (ap (option_map standing_of) o.names)
  | inr q ↦ elim (in_append y (joint_standings bodies s) (contact_standings bodies contacts) q) [
    | inl p ↦
        let o = slotted items.Joint (standing_of_joint bodies) s.slot_entries s.joints y are.joints p in
        subst (λ (z : Standing). stand slot_entries bodies s contacts z.item ≡ Some z.set) (sym o.is) (ap (option_map (standing_of_joint bodies)) o.names)
    | inr p ↦
        let o = in_mapped (contact_standing bodies) contacts y p in
        subst (λ (z : Standing). stand slot_entries bodies s contacts z.item ≡ Some z.set) (sym o.is) (ap (option_map (standing_of_contact bodies)) (contact_found contacts o.of are.rising o.there))
  ]
]

pub record ComesOf {X Y : Type 0} (f : X → Y) (o : Option X) (y : Y) : Type 0 where
  pub of : X
  pub is : o ≡ Some of
  pub gives : f of ≡ y

comes_of : {X Y : Type 0} (f : X → Y) (o : Option X) (y : Y) → option_map f o ≡ Some y → ComesOf f o y
comes_of f None y e = absurd (none-some y e)
comes_of f (Some x) y e = record { of = x; is = refl; gives = same_Some (f x) y e }

-- an item with a set stands in it
there_stands : (slot_entries : List SlotEntry) (bodies : List (Option Body)) (s : JointSlots) (contacts : List ContactEntry) (item : Item) (set : SetName) → stand slot_entries bodies s contacts item ≡ Some set → StandsIn (all slot_entries bodies s contacts) set item
there_stands slot_entries bodies s contacts (items.Body h) set e =
    let o = comes_of standing_of (named slot_entries bodies h) set e in
    let z : Standing = record { item = items.Body h; set = standing_of o.of } in
    record {
      of = z;
      there = in_left z (body_standings slot_entries bodies) (joint_standings bodies s ++ contact_standings bodies contacts) (named_stands items.Body standing_of slot_entries bodies h o.of o.is);
      item = refl;
      set = o.gives;
    }
there_stands slot_entries bodies s contacts (items.Joint h) set e =
    let o = comes_of (standing_of_joint bodies) (named s.slot_entries s.joints h) set e in
    let z : Standing = record { item = items.Joint h; set = standing_of_joint bodies o.of } in
    record {
      of = z;
      there = in_right z (body_standings slot_entries bodies) (joint_standings bodies s ++ contact_standings bodies contacts)
          (in_left z (joint_standings bodies s) (contact_standings bodies contacts) (named_stands items.Joint (standing_of_joint bodies) s.slot_entries s.joints h o.of o.is));
      item = refl;
      set = o.gives;
    }
there_stands slot_entries bodies s contacts (items.Contact key) set e =
    let o = comes_of (standing_of_contact bodies) (find (has_key key) contacts) set e in
    let k = of_key contacts key o.of o.is in
    let z : Standing = contact_standing bodies o.of in
    record {
      of = z;
      there = in_right z (body_standings slot_entries bodies) (joint_standings bodies s ++ contact_standings bodies contacts)
          (in_right z (joint_standings bodies s) (contact_standings bodies contacts) (mapped_in (contact_standing bodies) contacts o.of k.there));
      item = ap (λ (v : ContactKey). items.Contact v) k.key;
      set = o.gives;
    }

-- ---- those that are there

is_present : (slot_entries : List SlotEntry) (bodies : List (Option Body)) (s : JointSlots) (contacts : List ContactEntry) (item : Item) (set : SetName) → stand slot_entries bodies s contacts item ≡ Some set → IsPresent slot_entries s contacts item
is_present slot_entries bodies s contacts (items.Body h) set e =
    let o = comes_of standing_of (named slot_entries bodies h) set e in
    let p = named_from (slice_get slot_entries h.slot) h.generation (item_at bodies h.slot) o.of o.is in
    p.is ∙ live_is p.place h.generation p.same p.live
is_present slot_entries bodies s contacts (items.Joint h) set e =
    let o = comes_of (standing_of_joint bodies) (named s.slot_entries s.joints h) set e in
    let p = named_from (slice_get s.slot_entries h.slot) h.generation (item_at s.joints h.slot) o.of o.is in
    p.is ∙ live_is p.place h.generation p.same p.live
is_present slot_entries bodies s contacts (items.Contact key) set e =
    let o = comes_of (standing_of_contact bodies) (find (has_key key) contacts) set e in
    let k = of_key contacts key o.of o.is in
    contains_from_in (map (λ (c : ContactEntry). c.key) contacts) key (subst (λ (v : ContactKey). IsIn v (map (λ (c : ContactEntry). c.key) contacts)) k.key (mapped_in (λ (c : ContactEntry). c.key) contacts o.of k.there))

-- a handle that is live names an item
live_named : {X : Type 0} (slot_entries : List SlotEntry) (xs : List (Option X)) (h : Handle) → AreMatched slot_entries xs → IsLive slot_entries h → HasItem (named slot_entries xs h)
live_named {X} slot_entries xs h m live =
    let o = has_item (item_at xs h.slot) (m.taken h.slot ∙ ap is_taken_entry live) in
    record { of = o.of; is = is_named slot_entries xs h (record { generation = h.generation; live = true }) o.of live refl refl o.is }

present_stands : (slot_entries : List SlotEntry) (bodies : List (Option Body)) (s : JointSlots) (contacts : List ContactEntry) (item : Item) → AreLists slot_entries bodies s contacts → IsPresent slot_entries s contacts item → HasItem (stand slot_entries bodies s contacts item)
present_stands slot_entries bodies s contacts (items.Body h) are live = let o = live_named slot_entries bodies h are.matched live in record { of = standing_of o.of; is = ap (option_map standing_of) o.is }
present_stands slot_entries bodies s contacts (items.Joint h) are live = let o = live_named s.slot_entries s.joints h are.joints live in record { of = standing_of_joint bodies o.of; is = ap (option_map (standing_of_joint bodies)) o.is }
present_stands slot_entries bodies s contacts (items.Contact key) are there =
    let o = in_mapped (λ (c : ContactEntry). c.key) contacts key (in_from_contains (map (λ (c : ContactEntry). c.key) contacts) key there) in
    record { of = standing_of_contact bodies o.of; is = ap (λ (k : ContactKey). option_map (standing_of_contact bodies) (find (has_key k) contacts)) o.is ∙ ap (option_map (standing_of_contact bodies)) (contact_found contacts o.of are.rising o.there) }

-- ---- who sleeps

abbrev number : SetName → ℕ
number sets.Static = 0
number sets.Disabled = 0
number sets.Awake = 0
number (sets.Sleeping n) = n

asleep_by : (t : Bool) (k : Kind) (o : Option ℕ) (n : ℕ) → cond t (set_of k o) sets.Disabled ≡ sets.Sleeping n → o ≡ Some n
asleep_by true Static o n e = cc
asleep_by true (Kinematic course) o n e = cc
asleep_by true Dynamic None n e = cc
asleep_by true Dynamic (Some m) n e = ap (λ (z : SetName). Some (number z)) e
asleep_by false k o n e = cc

-- a body that stands in a sleeping set sleeps under its name
stands_asleep : (b : Body) (n : ℕ) → standing_of b ≡ sets.Sleeping n → b.asleep ≡ Some n
stands_asleep b n e = asleep_by b.enabled b.kind b.asleep n e

differ : (n : ℕ) (o : Option ℕ) → o ≡ None → o ≡ Some n → ⊥
differ n o p q = none-some n (sym p ∙ q)

mover_by : (t : Bool) (k : Kind) (o : Option ℕ) (n : ℕ) → (cond t (is_dynamic k) false ≡ false → o ≡ None) → o ≡ Some n → cond t (set_of k o) sets.Disabled ≡ sets.Sleeping n
mover_by true Static o n only e = absurd (differ n o (only refl) e)
mover_by true (Kinematic course) o n only e = absurd (differ n o (only refl) e)
mover_by true Dynamic o n only e = ap (λ (v : Option ℕ). set_of Dynamic v) e
mover_by false k o n only e = absurd (differ n o (only refl) e)

-- a mover that sleeps stands in the set of this name
asleep_stands : (b : Body) (n : ℕ) → (is_mover b ≡ false → b.asleep ≡ None) → b.asleep ≡ Some n → standing_of b ≡ sets.Sleeping n
asleep_stands b n only e = mover_by b.enabled b.kind b.asleep n only e

mover_in : (t : Bool) (set : SetName) (n : ℕ) → cond t (Some set) None ≡ Some (sets.Sleeping n) → set ≡ sets.Sleeping n
mover_in true set n e = same_Some set (sets.Sleeping n) e
mover_in false set n e = absurd (none-some (sets.Sleeping n) e)

sleeper_in : (bodies : List (Option Body)) (slot : ℕ) (o : Option Body) (n : ℕ) → body_at bodies slot ≡ o → mover_set o ≡ Some (sets.Sleeping n) → HasSleeper bodies n
sleeper_in bodies slot None n at e = absurd (none-some (sets.Sleeping n) e)
sleeper_in bodies slot (Some b) n at e = record { slot = slot; body = b; there = at; asleep = stands_asleep b n (mover_in (is_mover b) (standing_of b) n e) }

which : (o p : Option SetName) (n : ℕ) → set_with o p ≡ sets.Sleeping n → (o ≡ Some (sets.Sleeping n)) ⊎ (p ≡ Some (sets.Sleeping n))
which (Some set) p n e = inl (ap (λ (z : SetName). Some z) e)
which None (Some set) n e = inr (ap (λ (z : SetName). Some z) e)
which None None n e = cc

between_by : (bodies : List (Option Body)) (a b n : ℕ) (t : Bool) → cond t (set_with (mover_set (body_at bodies a)) (mover_set (body_at bodies b))) sets.Disabled ≡ sets.Sleeping n → HasSleeper bodies n
between_by bodies a b n true e = elim (which (mover_set (body_at bodies a)) (mover_set (body_at bodies b)) n e) [
  | inl p ↦ sleeper_in bodies a (body_at bodies a) n refl p
  | inr q ↦ sleeper_in bodies b (body_at bodies b) n refl q
]
between_by bodies a b n false e = cc

between : (bodies : List (Option Body)) (a b n : ℕ) → standing_between bodies a b ≡ sets.Sleeping n → HasSleeper bodies n
between bodies a b n e = between_by bodies a b n (is_enabled bodies a && is_enabled bodies b) e

awake_or_disabled : (t : Bool) (n : ℕ) → cond t sets.Awake sets.Disabled ≡ sets.Sleeping n → ⊥
awake_or_disabled true n e = cc
awake_or_disabled false n e = cc

contact_by : (bodies : List (Option Body)) (a b n : ℕ) (t : Bool) → cond t (standing_between bodies a b) (standing_apart bodies a b) ≡ sets.Sleeping n → HasSleeper bodies n
contact_by bodies a b n true e = between bodies a b n e
contact_by bodies a b n false e = absurd (awake_or_disabled (is_awake_in (body_at bodies a) || is_awake_in (body_at bodies b)) n e)

-- under the name of each sleeping set some body sleeps
someone : (slot_entries : List SlotEntry) (bodies : List (Option Body)) (s : JointSlots) (contacts : List ContactEntry) (n : ℕ) → AreLists slot_entries bodies s contacts → IsNameOf (all slot_entries bodies s contacts) n → HasSleeper bodies n
someone slot_entries bodies s contacts n are name = elim (in_append name.of (body_standings slot_entries bodies) (joint_standings bodies s ++ contact_standings bodies contacts) name.there) [
  | inl p ↦
      let o = slotted items.Body standing_of slot_entries bodies name.of are.matched p in
      record { slot = o.handle.slot; body = o.of; there = o.at_item; asleep = stands_asleep o.of n (sym (ap (λ (z : Standing). z.set) o.is) ∙ name.set) }
  | inr q ↦ elim (in_append name.of (joint_standings bodies s) (contact_standings bodies contacts) q) [
    | inl p ↦
        let o = slotted items.Joint (standing_of_joint bodies) s.slot_entries s.joints name.of are.joints p in
        between bodies o.of.a o.of.b n (sym (ap (λ (z : Standing). z.set) o.is) ∙ name.set)
    | inr p ↦
        let o = in_mapped (contact_standing bodies) contacts name.of p in
        contact_by bodies o.of.key.first.slot o.of.key.second.slot n (touches o.of.contact) (sym (ap (λ (z : Standing). z.set) o.is) ∙ name.set)
  ]
]

-- and each name under which a body sleeps is there
sleeper_named : (slot_entries : List SlotEntry) (bodies : List (Option Body)) (s : JointSlots) (contacts : List ContactEntry) (n : ℕ) → AreLists slot_entries bodies s contacts → OnlyMoversSleep bodies → HasSleeper bodies n → IsIn n (sleeping_set_names (census_in (all slot_entries bodies s contacts)))
sleeper_named slot_entries bodies s contacts n are only h =
    let there = slot_stands items.Body standing_of slot_entries bodies h.slot h.body are.matched h.there in
    let z : Standing = in_slot items.Body standing_of h.slot there.0 h.body in
    names_in (all slot_entries bodies s contacts) z n
    (in_left z (body_standings slot_entries bodies) (joint_standings bodies s ++ contact_standings bodies contacts) there.1)
    (asleep_stands h.body n (only h.slot h.body h.there) h.asleep)

-- ---- the census

pub lists_each_once : (slot_entries : List SlotEntry) (bodies : List (Option Body)) (s : JointSlots) (contacts : List ContactEntry) → AreLists slot_entries bodies s contacts → OnlyMoversSleep bodies → ListsEachOnce slot_entries bodies s contacts (census_in (all slot_entries bodies s contacts))
lists_each_once slot_entries bodies s contacts are only =
    let xs : List Standing = all slot_entries bodies s contacts in
    let apart : Apart xs = all_apart slot_entries bodies s contacts are.rising in
    record {
      once = pairs_from_distinct (listed (census_in xs)) (all_distinct xs apart);
      present = λ item. (
        (λ h. let o = in_all xs item (in_from_contains (listed (census_in xs)) item h) in
            is_present slot_entries bodies s contacts item o.of.set (ap (stand slot_entries bodies s contacts) (sym o.item) ∙ stands_there slot_entries bodies s contacts o.of are o.there)),
        (λ h. let o = present_stands slot_entries bodies s contacts item are h in
            let z = there_stands slot_entries bodies s contacts item o.of o.is in
            contains_from_in (listed (census_in xs)) item (subst (λ (v : Item). IsIn v (listed (census_in xs))) z.item (all_in xs z.of z.there))),
      );
      stands = λ set item. (
        (λ h. let o = in_list set xs item (subst (λ (l : List Item). IsIn item l) (list_is xs set) (in_from_contains (list_of (census_in xs) set) item h)) in
            ap (stand slot_entries bodies s contacts) (sym o.item) ∙ stands_there slot_entries bodies s contacts o.of are o.there ∙ ap (λ (v : SetName). Some v) o.set),
        (λ h. let z = there_stands slot_entries bodies s contacts item set h in
            contains_from_in (list_of (census_in xs) set) item (subst (λ (l : List Item). IsIn item l) (sym (list_is xs set)) (subst (λ (v : Item). IsIn v (in_set set xs)) z.item (list_in set xs z.of z.there z.set)))),
      );
      names = λ name. (
        (λ h. someone slot_entries bodies s contacts name are (in_names xs name (in_from_contains (sleeping_set_names (census_in xs)) name h))),
        (λ h. contains_from_in (sleeping_set_names (census_in xs)) name (sleeper_named slot_entries bodies s contacts name are only h)),
      );
      ascending = (lists_are_census xs).named;
    }

pub census_lists_each_once : laws.CensusListsEachOnce
unfolding census_of standings_of
census_lists_each_once slot_entries bodies s contacts matched joints rising only = lists_each_once slot_entries bodies s contacts (record { matched = matched; joints = joints; rising = rises_from_keys contacts rising }) only
