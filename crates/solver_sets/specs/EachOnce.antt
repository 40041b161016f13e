-- Trusted: Where each body, joint and contact of a world stands, and that its census lists each once, there.
use Rattle.std.specs.Prelude.{◌≡◌, ◌≢◌, ◌↔◌, ℕ, ◌==◌, ◌&&◌, Bool, cond, List, [], ◌∷◌, map, Option, Some, option_map, Contains, AllPairs}
use Rattle.std.specs.List.{find}
use Rattle.body_handles.specs.declared.slot_table.SlotEntry.{SlotEntry}
use Rattle.body_handles.specs.SlotEntries.{IsLive}
use Rattle.contacts_base.specs.declared.key.ShapeId.{ShapeId}
use Rattle.contacts_base.specs.declared.key.ContactKey.{ContactKey}
use Rattle.contacts_base.specs.declared.contact.ContactEntry.{ContactEntry}
use Rattle.plain_world.specs.declared.body.Body.{Body}
use Rattle.plain_world.specs.declared.body.SetName.{SetName}
use Rattle.plain_world.specs.declared.body.SetName.TheVariants as sets
use Rattle.plain_world.specs.Bodies.{standing_of}
use Rattle.plain_world.specs.Joints.{joint_of}
use Rattle.plain_world.specs.Slots.{body_at, body_of}
use Rattle.solver_sets.specs.declared.census.Item.{Item}
use Rattle.solver_sets.specs.declared.census.Item.TheVariants as items
use Rattle.solver_sets.specs.Census.{AreNamed, Census, Sleepers, listed, standing_of_contact, standing_of_joint}
use Rattle.solver_sets.specs.Ties.{JointSlots}

-- ---- where an item stands

abbrev pub is_same_shape : ShapeId → ShapeId → Bool
is_same_shape a b = (a.slot == b.slot) && (a.index == b.index)

abbrev pub has_key : ContactKey → ContactEntry → Bool
has_key key e = is_same_shape e.key.first key.first && is_same_shape e.key.second key.second

-- the one set in which an item stands that a handle or a key names; none where there is no such
abbrev pub stand : List SlotEntry → List (Option Body) → JointSlots → List ContactEntry → Item → Option SetName
stand slot_entries bodies s contacts (items.Body h) = option_map standing_of (body_of slot_entries bodies h)
stand slot_entries bodies s contacts (items.Joint h) = option_map (standing_of_joint bodies) (joint_of s.slot_entries s.joints h)
stand slot_entries bodies s contacts (items.Contact key) = option_map (standing_of_contact bodies) (find (has_key key) contacts)

-- the item is there: a body or a joint whose handle is live, or one of the contacts
abbrev pub IsPresent : List SlotEntry → JointSlots → List ContactEntry → Item → Type 0
IsPresent slot_entries s contacts (items.Body h) = IsLive slot_entries h
IsPresent slot_entries s contacts (items.Joint h) = IsLive s.slot_entries h
IsPresent slot_entries s contacts (items.Contact key) = Contains (map (λ (e : ContactEntry). e.key) contacts) key

-- ---- where it is listed

-- the list of the sleeping set of a name; it is empty where there is none
abbrev pub items_named : List Sleepers → ℕ → List Item
items_named [] name = []
items_named (s ∷ sleeping) name = cond (s.name == name) s.items (items_named sleeping name)

-- the list of a set
abbrev pub list_of : Census → SetName → List Item
list_of c sets.Static = c.static_set
list_of c sets.Disabled = c.disabled
list_of c sets.Awake = c.awake
list_of c (sets.Sleeping name) = items_named c.sleeping name

-- the names of its sleeping sets
abbrev pub sleeping_set_names : Census → List ℕ
sleeping_set_names c = map (λ (s : Sleepers). s.name) c.sleeping

-- some body sleeps under this name
pub record HasSleeper (bodies : List (Option Body)) (name : ℕ) : Type 0 where
  pub slot : ℕ
  pub body : Body
  pub there : body_at bodies slot ≡ Some body
  pub asleep : body.asleep ≡ Some name

-- Each body, joint and contact stands in exactly one set, and is listed there, once. In all lists together no item
-- occurs twice, and they have just the items that are there; the list of a set has just those that stand in it; there
-- is a sleeping set just for each name under which some body sleeps, and these names ascend.
pub record ListsEachOnce (slot_entries : List SlotEntry) (bodies : List (Option Body)) (s : JointSlots) (contacts : List ContactEntry) (c : Census) : Type 0 where
  pub once : AllPairs (λ (a b : Item). a ≢ b) (listed c)
  pub present : (item : Item) → Contains (listed c) item ↔ IsPresent slot_entries s contacts item
  pub stands : (set : SetName) (item : Item) → Contains (list_of c set) item ↔ (stand slot_entries bodies s contacts item ≡ Some set)
  pub names : (name : ℕ) → Contains (sleeping_set_names c) name ↔ HasSleeper bodies name
  pub ascending : AreNamed c.sleeping
