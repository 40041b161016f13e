-- Trusted: The versions of the form of a saved world, and the colours that its numbers stand for.
use Rattle.std.specs.Prelude.{ℕ, ◌==◌, cond, nat_lt, Option, Some, None}
use Rattle.serde_json.specs.Data.{Data}
use Rattle.body_handles.specs.declared.slot_table.TheConstants.{MAX_SLOTS}
use Rattle.graph_colours.specs.declared.limits.TheConstants.{OVERFLOW}
use Rattle.world_file_base.specs.Reading.{is_null, unsigned_in}
use Rattle.world_file_base.specs.declared.version.Version.{Version}
use Rattle.world_file_base.specs.declared.version.Version.TheVariants.{First, Second}

-- how many slots of bodies there are at most, and of joints
abbrev pub most_slots : Version → ℕ
most_slots First = 16384
most_slots Second = MAX_SLOTS

-- the number that stands for the overflow
abbrev pub overflow_of : Version → ℕ
overflow_of First = 12
overflow_of Second = OVERFLOW

-- The colour that a number stands for. What is in the overflow stays there, also where the world has more colours than
-- the version.
abbrev pub colour_of_number : Version → ℕ → Option ℕ
colour_of_number version number = cond (nat_lt number (overflow_of version)) (Some number) (cond (number == overflow_of version) (Some OVERFLOW) None)

abbrev pub colour_in : Version → Option Data → Option ℕ
colour_in version value = cond (is_null value) None (colour_of_number version (unsigned_in 255 value))
