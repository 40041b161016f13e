-- The slots that a colour takes, and the colours of constraints by their numbers.
use Rattle.std.specs.Prelude.{◌≡◌, ℕ, suc, ◌==◌, ◌||◌, Bool, true, false, not, cond, List, [], ◌∷◌, map, Option, Some, None, slice_index_or}
use Rattle.std.specs.List.{list_any, position}
use Rattle.body_handles.specs.declared.slot_table.SlotEntry.{SlotEntry}
use Rattle.plain_world.specs.Constraints.{constraint_number}
use Rattle.plain_world.specs.declared.constraint.Constraint.{Constraint}
use Rattle.plain_world.specs.declared.constraint.Constraint.TheVariants.{Joint, Contact}
use Rattle.contacts_base.specs.declared.contact.ContactEntry.{ContactEntry}
use Rattle.graph_colours.specs.Movers.{has_mover}
use Rattle.graph_colours.specs.declared.member.Member.{Member}
use Rattle.graph_colours.specs.declared.member.Movers.{Movers}
use Rattle.world_file.specs.Fitting.{has_colour}
use Rattle.world_file.specs.declared.ties.Tie.{Tie}

-- ---- slots that are taken

-- a slot is taken just where a member has the mover there
abbrev pub AreTaken : {C : Type 0} → List (Member C) → List Bool → Type 0
AreTaken ms used = (slot : ℕ) → slice_index_or used slot false ≡ list_any (λ m. has_mover m.movers slot) ms

abbrev pub is_second_taken : List Bool → Option ℕ → Bool
is_second_taken used None = false
is_second_taken used (Some slot) = slice_index_or used slot false

-- a mover of the constraint is taken
abbrev pub is_mover_taken : List Bool → Movers → Bool
is_mover_taken used movers = slice_index_or used movers.first false || is_second_taken used movers.second

-- the slot is taken, beside those that were
abbrev pub IsTakenToo : ℕ → List Bool → List Bool → Type 0
IsTakenToo slot old new = (s : ℕ) → slice_index_or new s false ≡ ((slot == s) || slice_index_or old s false)

-- the movers are taken, beside those that were
abbrev pub AreTakenToo : Movers → List Bool → List Bool → Type 0
AreTakenToo movers old new = (s : ℕ) → slice_index_or new s false ≡ (has_mover movers s || slice_index_or old s false)

-- a tie of the colour shares no mover with those that are taken
abbrev pub is_unshared : List Bool → ℕ → Tie → Bool
is_unshared used colour t = cond (has_colour colour t.colour) (not (is_mover_taken used t.member.movers)) true

-- the movers of a tie of the colour are taken, beside those that were
abbrev pub IsTieTaken : ℕ → Tie → List Bool → List Bool → Type 0
IsTieTaken colour t old new = (s : ℕ) → slice_index_or new s false ≡ cond (has_colour colour t.colour) (has_mover t.member.movers s || slice_index_or old s false) (slice_index_or old s false)

-- ---- colours by numbers

-- a constraint of this number is among these
abbrev pub has_number : ℕ → List Constraint → Bool
has_number number ids = list_any (λ other. constraint_number other == number) ids

-- the colour of the constraint of this number
abbrev pub colour_numbered : ℕ → List (List Constraint) → Option ℕ
colour_numbered number colours = position (has_number number) colours

-- what is known of each contact by its number
abbrev pub contact_colours_by : (ℕ → Option ℕ) → List ContactEntry → List (Option ℕ)
contact_colours_by of contacts = map (λ (e : ContactEntry). of (constraint_number (Contact e.key))) contacts

-- what is known of each joint by its number, from this slot on
abbrev pub joint_colours_by : (ℕ → Option ℕ) → ℕ → List SlotEntry → List (Option ℕ)
joint_colours_by of slot [] = []
joint_colours_by of slot (place ∷ slot_entries) = of (constraint_number (Joint (record { slot = slot; generation = place.generation }))) ∷ joint_colours_by of (suc slot) slot_entries
