-- Just what is there stands in a solver set, and a body stands in a sleeping set just if it sleeps under its name.
use Rattle.std.proofs.Common.{◌≡◌, ◌⊎◌, ◌↔◌, ℕ, Bool, true, false, cond, List, [], ◌∷◌, map, Option, Some, None, IsSome, is_some, slice_get, inl, inr, refl, sym, ap, ap₂, ◌∙◌}
use Rattle.std.specs.Prelude.{◌==◌, ◌&&◌, option_map}
use Rattle.std.proofs.lemmas.Bool.{and_from, false≢true}
use Rattle.std.proofs.lemmas.Option.{none-some, same_Some}
use Rattle.std.specs.List.{find}
use Rattle.body_handles.specs.declared.handle.Handle.{Handle}
use Rattle.body_handles.specs.declared.slot_table.SlotEntry.{SlotEntry}
use Rattle.body_handles.specs.SlotEntries.{IsLive, is_live, is_live_at}
use Rattle.contacts_base.proofs.Members.{IsIn, contains_from_in, in_from_contains}
use Rattle.contacts_base.specs.declared.contact.ContactEntry.{ContactEntry}
use Rattle.contacts_base.specs.declared.key.ContactKey.{ContactKey}
use Rattle.contacts_base.specs.declared.key.ShapeId.{ShapeId}
use Rattle.graph_colours.proofs.PlaceLemmas.{is_same, same_from}
use Rattle.plain_world.specs.declared.body.Body.{Body}
use Rattle.plain_world.specs.declared.body.SetName.{SetName}
use Rattle.plain_world.specs.declared.body.SetName.TheVariants.{Disabled, Sleeping}
use Rattle.plain_world.specs.declared.kind.Kind.{Kind}
use Rattle.plain_world.specs.declared.kind.Kind.TheVariants.{Dynamic, Kinematic, Static}
use Rattle.plain_world.specs.Bodies.{AreBodies, is_mover, set_of, standing_of}
use Rattle.plain_world.specs.Kinds.{is_dynamic}
use Rattle.plain_world.specs.Slots.{AreMatched, body_at, is_taken_entry, item_at}
use Rattle.solver_sets.specs.declared.census.Item.{Item}
use Rattle.solver_sets.specs.declared.census.Item.TheVariants as items
use Rattle.solver_sets.specs.Census.{standing_of_contact, standing_of_joint}
use Rattle.solver_sets.specs.EachOnce.{IsPresent, has_key, is_same_shape, stand}
use Rattle.solver_sets.specs.Ties.{JointSlots}
use Rattle.world_rules.proofs.PlaceLaws.{live_at}
use Rattle.world_rules.proofs.SlotLemmas.{body_at-in}
use Rattle.world_rules.specs.Laws.{SleepsIn}

-- ---- bodies and joints

some_where : {X S : Type 0} (stands : X → S) (live : Bool) (o : Option X) → live ≡ true → IsSome o → IsSome (option_map stands (cond live o None))
some_where stands true None is there = there
some_where stands true (Some x) is there = refl
some_where stands false o is there = is

live_where : {X S : Type 0} (stands : X → S) (live : Bool) (o : Option X) → IsSome (option_map stands (cond live o None)) → live ≡ true
live_where stands true o there = refl
live_where stands false o there = there

-- a handle is live just if it names an item, which stands somewhere
named : {X S : Type 0} (slot_entries : List SlotEntry) (xs : List (Option X)) (h : Handle) (stands : X → S) → AreMatched slot_entries xs → IsLive slot_entries h ↔ IsSome (option_map stands (cond (is_live slot_entries h) (item_at xs h.slot) None))
named slot_entries xs h stands matched = (
  λ live. some_where stands (is_live slot_entries h) (item_at xs h.slot)
      (ap (λ (p : Option SlotEntry). is_live_at p h.generation) live ∙ is_same h.generation h.generation refl)
      (matched.taken h.slot ∙ ap is_taken_entry live),
  λ there. live_at (slice_get slot_entries h.slot) h.generation (live_where stands (is_live slot_entries h) (item_at xs h.slot) there),
)

-- ---- contacts

both_hold : (t u : Bool) → (t && u) ≡ true → (t ≡ true) × (u ≡ true)
both_hold true u e = (refl, e)
both_hold false u e = absurd (false≢true e)

abbrev shape_with : ℕ → ℕ → ShapeId
shape_with slot index = record { slot = slot; index = index }

same_shape : (a b : ShapeId) → is_same_shape a b ≡ true → a ≡ b
same_shape a b e =
    let o = both_hold (a.slot == b.slot) (a.index == b.index) e in
    ap₂ (λ (slot index : ℕ). shape_with slot index) (same_from a.slot b.slot o.0) (same_from a.index b.index o.1)

own_shape : (a : ShapeId) → is_same_shape a a ≡ true
own_shape a = and_from (a.slot == a.slot) (a.index == a.index) (is_same a.slot a.slot refl) (is_same a.index a.index refl)

abbrev key_with : ShapeId → ShapeId → ContactKey
key_with first second = record { first = first; second = second }

same_key : (key : ContactKey) (e : ContactEntry) → has_key key e ≡ true → key ≡ e.key
same_key key e h =
    let o = both_hold (is_same_shape e.key.first key.first) (is_same_shape e.key.second key.second) h in
    ap₂ (λ (first second : ShapeId). key_with first second) (sym (same_shape e.key.first key.first o.0)) (sym (same_shape e.key.second key.second o.1))

own_key : (key : ContactKey) (e : ContactEntry) → key ≡ e.key → has_key key e ≡ true
own_key key e same =
    ap (λ (k : ContactKey). has_key k e) same
    ∙ and_from (is_same_shape e.key.first e.key.first) (is_same_shape e.key.second e.key.second) (own_shape e.key.first) (own_shape e.key.second)

abbrev keys : List ContactEntry → List ContactKey
keys contacts = map (λ (e : ContactEntry). e.key) contacts

found_by : (t : Bool) (key : ContactKey) (e : ContactEntry) (es : List ContactEntry) → has_key key e ≡ t → (key ≡ e.key) ⊎ IsIn key (keys es) → (IsIn key (keys es) → IsSome (find (has_key key) es)) → IsSome (cond t (Some e) (find (has_key key) es))
found_by true key e es at h rest = refl
found_by false key e es at h rest = elim h [
  | inl same ↦ absurd (false≢true (sym at ∙ own_key key e same))
  | inr later ↦ rest later
]

found : (key : ContactKey) (contacts : List ContactEntry) → IsIn key (keys contacts) → IsSome (find (has_key key) contacts)
found key [] h = absurd h
found key (e ∷ es) h = found_by (has_key key e) key e es refl h (found key es)

among_by : (t : Bool) (key : ContactKey) (e : ContactEntry) (es : List ContactEntry) → has_key key e ≡ t → IsSome (cond t (Some e) (find (has_key key) es)) → (IsSome (find (has_key key) es) → IsIn key (keys es)) → (key ≡ e.key) ⊎ IsIn key (keys es)
among_by true key e es at h rest = inl (same_key key e at)
among_by false key e es at h rest = inr (rest h)

among : (key : ContactKey) (contacts : List ContactEntry) → IsSome (find (has_key key) contacts) → IsIn key (keys contacts)
among key [] h = absurd (false≢true h)
among key (e ∷ es) h = among_by (has_key key e) key e es refl h (among key es)

mapped : {X Y : Type 0} (f : X → Y) (o : Option X) → is_some (option_map f o) ≡ is_some o
mapped f None = refl
mapped f (Some x) = refl

-- ---- what is there

pub stands_there : (slot_entries : List SlotEntry) (bodies : List (Option Body)) (s : JointSlots) (contacts : List ContactEntry) (item : Item) → AreMatched slot_entries bodies → AreMatched s.slot_entries s.joints → IsPresent slot_entries s contacts item ↔ IsSome (stand slot_entries bodies s contacts item)
stands_there slot_entries bodies s contacts (items.Body h) of_bodies of_joints = named slot_entries bodies h standing_of of_bodies
stands_there slot_entries bodies s contacts (items.Joint h) of_bodies of_joints = named s.slot_entries s.joints h (standing_of_joint bodies) of_joints
stands_there slot_entries bodies s contacts (items.Contact key) of_bodies of_joints = (
  λ there. mapped (standing_of_contact bodies) (find (has_key key) contacts) ∙ found key contacts (in_from_contains (keys contacts) key there),
  λ some. contains_from_in (keys contacts) key (among key contacts (sym (mapped (standing_of_contact bodies) (find (has_key key) contacts)) ∙ some)),
)

-- ---- sleepers

asleep_by : (t : Bool) (k : Kind) (o : Option ℕ) (name : ℕ) → cond t (set_of k o) Disabled ≡ Sleeping name → o ≡ Some name
asleep_by true Static o name e = cc
asleep_by true (Kinematic course) o name e = cc
asleep_by true Dynamic None name e = cc
asleep_by true Dynamic (Some n) name e = cc
asleep_by false k o name e = cc

set_by : (t : Bool) (k : Kind) (o : Option ℕ) (name : ℕ) → (cond t (is_dynamic k) false ≡ false → o ≡ None) → o ≡ Some name → cond t (set_of k o) Disabled ≡ Sleeping name
set_by true Static o name only e = absurd (none-some name (sym (only refl) ∙ e))
set_by true (Kinematic course) o name only e = absurd (none-some name (sym (only refl) ∙ e))
set_by true Dynamic o name only e = ap (λ (v : Option ℕ). set_of Dynamic v) e
set_by false k o name only e = absurd (none-some name (sym (only refl) ∙ e))

sleeper_by : (bodies : List (Option Body)) (name slot : ℕ) (o : Option Body) → body_at bodies slot ≡ o → option_map standing_of o ≡ Some (Sleeping name) → SleepsIn bodies name slot
sleeper_by bodies name slot None at e = absurd (none-some (Sleeping name) e)
sleeper_by bodies name slot (Some b) at e = record { body = b; there = at; asleep = asleep_by b.enabled b.kind b.asleep name (same_Some (standing_of b) (Sleeping name) e) }

pub sleeps_there : (bodies : List (Option Body)) (name slot : ℕ) → AreBodies bodies → SleepsIn bodies name slot ↔ (option_map standing_of (body_at bodies slot) ≡ Some (Sleeping name))
sleeps_there bodies name slot all = (
  λ h.
      let only : is_mover h.body ≡ false → h.body.asleep ≡ None = (all slot h.body (body_at-in bodies slot h.body h.there)).asleep in
      ap (option_map standing_of) h.there ∙ ap (λ (set : SetName). Some set) (set_by h.body.enabled h.body.kind h.body.asleep name only h.asleep),
  λ e. sleeper_by bodies name slot (body_at bodies slot) refl e,
)
