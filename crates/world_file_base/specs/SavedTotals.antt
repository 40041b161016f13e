-- Trusted: The totals of a saved ledger.
use Rattle.std.specs.Prelude.{ℕ, List, [], ◌∷◌, Option, codes, option_and_then}
use Rattle.serde_json.specs.Data.{Data}
use Rattle.serde_json.specs.Find.{get}
use Rattle.impulse_ledger.specs.declared.limits.TheConstants.{MAX_TOTAL}
use Rattle.impulse_ledger.specs.declared.totals.Total.{Total}
use Rattle.impulse_ledger.specs.declared.totals.Totals.{Totals}
use Rattle.world_file_base.specs.Reading.{first_in, second_item}
use Rattle.world_file_base.specs.Texts.{decimal_in}
use Rattle.world_file_base.specs.Written.{Member, decimal_of, object_of, pair_data}

abbrev pub total_read : Option Data → Total
total_read value = record { x = decimal_in MAX_TOTAL (first_in value); y = decimal_in MAX_TOTAL (second_item value) }

-- the total of the cause of a key
abbrev pub cause_in : List ℕ → Option Data → Option Data
cause_in key value = option_and_then (get key) value

abbrev pub totals_read : Option Data → Totals
totals_read value = record {
  command = total_read (cause_in (codes "command") value);
  gravity = total_read (cause_in (codes "gravity") value);
  immovable = total_read (cause_in (codes "immovable") value);
  clamp = total_read (cause_in (codes "clamp") value);
  rest = total_read (cause_in (codes "rest") value);
  departed = total_read (cause_in (codes "departed") value);
}

abbrev pub total_data : Total → Data
total_data t = pair_data (decimal_of t.x) (decimal_of t.y)

-- the members of the totals
abbrev pub totals_members : Totals → List Member
totals_members t =
    (codes "clamp", total_data t.clamp)
    ∷ (codes "command", total_data t.command)
    ∷ (codes "departed", total_data t.departed)
    ∷ (codes "gravity", total_data t.gravity)
    ∷ (codes "immovable", total_data t.immovable)
    ∷ (codes "rest", total_data t.rest)
    ∷ []

abbrev pub totals_data : Totals → Data
totals_data t = object_of (totals_members t)
