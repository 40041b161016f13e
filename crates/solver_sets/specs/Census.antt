-- Trusted: The census: for each solver set the bodies, joints and contacts that stand in it.
use Rattle.std.specs.Prelude.{◌≡◌, ℕ, suc, ◌<◌, ◌==◌, ◌&&◌, ◌||◌, Bool, true, false, cond, List, [], ◌∷◌, ◌++◌, filter, map, Option, Some, None, option_and_then}
use Rattle.std.specs.List.{AllPairs, cons_option, count_by}
use Rattle.body_handles.specs.declared.handle.Handle.{Handle}
use Rattle.body_handles.specs.declared.slot_table.SlotEntry.{SlotEntry}
use Rattle.contacts_base.specs.declared.contact.ContactEntry.{ContactEntry}
use Rattle.contacts_base.specs.Evaluate.{touches}
use Rattle.sleep_wake.specs.Sleeping.{with_one_name}
use Rattle.plain_world.specs.declared.body.Body.{Body}
use Rattle.plain_world.specs.declared.body.SetName.{SetName}
use Rattle.plain_world.specs.declared.body.SetName.TheVariants as sets
use Rattle.plain_world.specs.declared.joint.BodyJoint.{BodyJoint}
use Rattle.plain_world.specs.Bodies.{is_mover, standing_of}
use Rattle.plain_world.specs.Changes.{is_awake_in}
use Rattle.plain_world.specs.Slots.{body_at}
use Rattle.solver_sets.specs.Ties.{JointSlots, is_enabled}
use Rattle.solver_sets.specs.declared.census.Item.{Item}
use Rattle.solver_sets.specs.declared.census.Item.TheVariants as items

-- ---- where joints and contacts stand

abbrev pub mover_set : Option Body → Option SetName
mover_set body = option_and_then (λ (b : Body). cond (is_mover b) (Some (standing_of b)) None) body

-- with the movers, and with the ground where there are none
abbrev pub set_with : Option SetName → Option SetName → SetName
set_with (Some set) other = set
set_with None (Some set) = set
set_with None None = sets.Static

-- what stands with the movers among two enabled bodies; with a body that isn't enabled it is disabled
abbrev pub standing_between : List (Option Body) → ℕ → ℕ → SetName
standing_between bodies a b = cond (is_enabled bodies a && is_enabled bodies b) (set_with (mover_set (body_at bodies a)) (mover_set (body_at bodies b))) sets.Disabled

abbrev pub standing_of_joint : List (Option Body) → BodyJoint → SetName
standing_of_joint bodies j = standing_between bodies j.a j.b

-- a contact that doesn't touch is looked at while one of its bodies is an awake mover
abbrev pub standing_apart : List (Option Body) → ℕ → ℕ → SetName
standing_apart bodies a b = cond (is_awake_in (body_at bodies a) || is_awake_in (body_at bodies b)) sets.Awake sets.Disabled

abbrev pub standing_of_contact : List (Option Body) → ContactEntry → SetName
standing_of_contact bodies e = cond (touches e.contact) (standing_between bodies e.key.first.slot e.key.second.slot) (standing_apart bodies e.key.first.slot e.key.second.slot)

-- ---- all that stands somewhere

pub record Standing : Type 0 where
  pub item : Item
  pub set : SetName

abbrev pub standing_if : {X : Type 0} → (Handle → Item) → (X → SetName) → Handle → Option X → Option Standing
standing_if item set h None = None
standing_if item set h (Some x) = Some (record { item = item h; set = set x })

-- what is in slots, where the lists begin with this slot
abbrev pub standings_from : {X : Type 0} → (Handle → Item) → (X → SetName) → ℕ → List SlotEntry → List (Option X) → List Standing
standings_from item set slot [] xs = []
standings_from item set slot (p ∷ slot_entries) [] = []
standings_from item set slot (p ∷ slot_entries) (o ∷ xs) = cons_option (standing_if item set (record { slot = slot; generation = p.generation }) o) (standings_from item set (suc slot) slot_entries xs)

abbrev pub body_standings : List SlotEntry → List (Option Body) → List Standing
body_standings slot_entries bodies = standings_from items.Body standing_of 0 slot_entries bodies

abbrev pub joint_standings : List (Option Body) → JointSlots → List Standing
joint_standings bodies s = standings_from items.Joint (standing_of_joint bodies) 0 s.slot_entries s.joints

abbrev pub contact_standing : List (Option Body) → ContactEntry → Standing
contact_standing bodies e = record { item = items.Contact e.key; set = standing_of_contact bodies e }

abbrev pub contact_standings : List (Option Body) → List ContactEntry → List Standing
contact_standings bodies contacts = map (contact_standing bodies) contacts

-- bodies by slot, then joints by slot, then contacts by key
unfoldable pub standings_of : List SlotEntry → List (Option Body) → JointSlots → List ContactEntry → List Standing
standings_of slot_entries bodies s contacts = body_standings slot_entries bodies ++ (joint_standings bodies s ++ contact_standings bodies contacts)

-- ---- the lists

abbrev pub is_same_set : SetName → SetName → Bool
is_same_set sets.Static sets.Static = true
is_same_set sets.Disabled sets.Disabled = true
is_same_set sets.Awake sets.Awake = true
is_same_set (sets.Sleeping a) (sets.Sleeping b) = a == b
is_same_set a b = false

-- what stands in a set
abbrev pub in_set : SetName → List Standing → List Item
in_set set standings = map (λ (s : Standing). s.item) (filter (λ (s : Standing). is_same_set set s.set) standings)

-- one sleeping set: the name of its island, and what stands in it
pub record Sleepers : Type 0 where
  pub name : ℕ
  pub items : List Item

-- the names with that of this set, if it sleeps; they ascend, each once
abbrev pub with_name_of : SetName → List ℕ → List ℕ
with_name_of (sets.Sleeping name) names = with_one_name name names
with_name_of set names = names

abbrev pub names_with : List ℕ → List Standing → List ℕ
names_with names [] = names
names_with names (s ∷ standings) = names_with (with_name_of s.set names) standings

-- the names of the sleeping sets in which something stands, ascending, each once
abbrev pub set_names : List Standing → List ℕ
set_names standings = names_with [] standings

abbrev pub sleepers_of : List Standing → ℕ → Sleepers
sleepers_of standings name = record { name = name; items = in_set (sets.Sleeping name) standings }

pub record Census : Type 0 where
  pub static_set : List Item
  pub disabled : List Item
  pub awake : List Item
  -- ascending by name
  pub sleeping : List Sleepers

abbrev pub census_in : List Standing → Census
census_in standings = record {
  static_set = in_set sets.Static standings;
  disabled = in_set sets.Disabled standings;
  awake = in_set sets.Awake standings;
  sleeping = map (sleepers_of standings) (set_names standings);
}

-- the census of a world
unfoldable pub census_of : List SlotEntry → List (Option Body) → JointSlots → List ContactEntry → Census
census_of slot_entries bodies s contacts = census_in (standings_of slot_entries bodies s contacts)

-- the names ascend, each once
abbrev pub AreNamed : List Sleepers → Type 0
AreNamed sleeping = AllPairs (λ (s later : Sleepers). s.name < later.name) sleeping

-- ---- what makes lists the census

abbrev pub in_sleepers : List Sleepers → List Item
in_sleepers [] = []
in_sleepers (s ∷ sleeping) = s.items ++ in_sleepers sleeping

-- all lists, one after another
abbrev pub listed : Census → List Item
listed c = c.static_set ++ (c.disabled ++ (c.awake ++ in_sleepers c.sleeping))

abbrev pub items_of : List Standing → List Item
items_of standings = map (λ (s : Standing). s.item) standings

-- Whatever is counted occurs as often in all lists together as among all that stands somewhere, so that each item is
-- listed where it stands and nowhere else; the list of a set is what stands in it, in the same order; and the names of
-- the sleeping sets ascend, each once.
pub record IsCensus (standings : List Standing) (c : Census) : Type 0 where
  pub once : (is : Item → Bool) → count_by is (listed c) ≡ count_by is (items_of standings)
  pub static_set : c.static_set ≡ in_set sets.Static standings
  pub disabled : c.disabled ≡ in_set sets.Disabled standings
  pub awake : c.awake ≡ in_set sets.Awake standings
  pub sleeping : c.sleeping ≡ map (sleepers_of standings) (set_names standings)
  pub named : AreNamed c.sleeping
