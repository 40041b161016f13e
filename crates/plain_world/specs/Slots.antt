-- Trusted: Items by slot, bodies or joints, beside the places that say which slots are taken.
use Rattle.std.specs.Prelude.{◌≡◌, ℕ, ◌≤◌, Bool, false, cond, List, [], ◌∷◌, ◌++◌, length, nat_lt, Option, Some, None, is_some, slice_get, slice_set}
use Rattle.std.specs.Option.{option_map_or, option_flatten}
use Rattle.body_handles.specs.declared.handle.Handle.{Handle}
use Rattle.body_handles.specs.declared.slot_table.SlotEntry.{SlotEntry}
use Rattle.body_handles.specs.declared.slot_table.TheConstants.{MAX_SLOTS}
use Rattle.body_handles.specs.SlotEntries.{is_live}
use Rattle.plain_world.specs.declared.body.Body.{Body}

abbrev pub item_at : {X : Type 0} → List (Option X) → ℕ → Option X
item_at items slot = option_flatten (slice_get items slot)

-- an item put into a slot, or into a new one at the end
abbrev pub with_item : {X : Type 0} → List (Option X) → ℕ → X → List (Option X)
with_item items slot x = cond (nat_lt slot (length items)) (slice_set items slot (Some x)) (items ++ Some x ∷ [])

abbrev pub body_at : List (Option Body) → ℕ → Option Body
body_at bodies slot = item_at bodies slot

abbrev pub with_body : List (Option Body) → ℕ → Body → List (Option Body)
with_body bodies slot b = with_item bodies slot b

-- the body that a handle names
abbrev pub body_of : List SlotEntry → List (Option Body) → Handle → Option Body
body_of slot_entries bodies h = cond (is_live slot_entries h) (body_at bodies h.slot) None

abbrev pub is_taken_entry : Option SlotEntry → Bool
is_taken_entry entry = option_map_or (λ (p : SlotEntry). p.live) entry false

abbrev pub is_taken : List SlotEntry → ℕ → Bool
is_taken slot_entries slot = is_taken_entry (slice_get slot_entries slot)

-- there is an item just in the slots that are taken
pub record AreMatched {X : Type 0} (slot_entries : List SlotEntry) (items : List (Option X)) : Type 0 where
  pub slots : length slot_entries ≡ length items
  pub few : length items ≤ MAX_SLOTS
  pub taken : (slot : ℕ) → is_some (item_at items slot) ≡ is_taken slot_entries slot

-- how many shapes take part: all of an enabled body, and none of another
abbrev pub shapes_in : Option Body → ℕ
shapes_in body = option_map_or (λ (b : Body). cond b.enabled (length b.shapes) 0) body 0
