-- Inner: what is asked of single values while they are read: numbers, texts, lists, totals and colours.
use Rattle.std.specs.Prelude.{ℕ, ◌-◌, ◌==◌, ◌^◌, cond, Option, option_and_then, is_some, ℤ, [], ◌∷◌, codes}
use Rattle.serde_json.specs.Data.{Data}
use Rattle.serde_json.specs.Events.{items_len}
use Rattle.serde_json.specs.Find.{as_array, as_bool, as_str}
use Rattle.fixed_geom.specs.Vectors.{is_within}
use Rattle.shapes.specs.Shapes.{is_between}
use Rattle.world_file_base.specs.Asks.{Ask, asked, all_asked}
use Rattle.world_file_base.specs.declared.clause.Clause.TheVariants.{Form, Limits, Colours}
use Rattle.world_file_base.specs.Reading.{is_null, items_in, first_in, second_item, whole_of, whole_in, least_group, greatest_group, natural_of, least, greatest, vector_in, text_in, unsigned_in, has_keys_in}
use Rattle.world_file_base.specs.Texts.{handle_of_text, number_of_text, sized}
use Rattle.world_file_base.specs.declared.version.Version.{Version}
use Rattle.world_file_base.specs.Versions.{colour_of_number}
use Rattle.world_file_base.specs.SavedTotals.{cause_in}
use Rattle.impulse_ledger.specs.declared.limits.TheConstants.{MAX_TOTAL}

abbrev pub list_asks : Option Data → Ask
list_asks value = asked (is_some (option_and_then as_array value)) Form

-- a list of two
abbrev pub pair_asks : Option Data → Ask
pair_asks value reader = asked (items_len (items_in value) == 2) Form (list_asks value reader)

abbrev pub truth_asks : Option Data → Ask
truth_asks value = asked (is_some (option_and_then as_bool value)) Form

abbrev pub text_asks : Option Data → Ask
text_asks value = asked (is_some (option_and_then as_str value)) Form

abbrev pub whole_asks : Option Data → Ask
whole_asks value = asked (is_some (whole_of value)) Form

abbrev pub signed_asks : ℤ → ℤ → Option Data → Ask
signed_asks low high value reader = asked (is_between low high (whole_in value)) Limits (whole_asks value reader)

abbrev pub group_asks : Option Data → Ask
group_asks value = signed_asks least_group greatest_group value

abbrev pub unsigned_asks : ℕ → Option Data → Ask
unsigned_asks high value reader = asked (is_some (natural_of high (whole_in value))) Limits (whole_asks value reader)

abbrev pub island_asks : Option Data → Ask
island_asks value reader = cond (is_null value) reader (unsigned_asks (2 ^ 32 - 1) value reader)

abbrev pub number_asks : Option Data → Ask
number_asks value = signed_asks least greatest value

abbrev pub vector_asks : Option Data → Ask
vector_asks value reader = number_asks (second_item value) (number_asks (first_in value) (pair_asks value reader))

abbrev pub vector_within_asks : ℕ → Option Data → Ask
vector_within_asks most value reader = asked (is_within most (vector_in value)) Limits (vector_asks value reader)

-- two places
abbrev pub ends_asks : ℕ → Option Data → Ask
ends_asks most value reader = vector_within_asks most (second_item value) (vector_within_asks most (first_in value) (pair_asks value reader))

abbrev pub handle_asks : Option Data → Ask
handle_asks value reader = asked (is_some (handle_of_text (text_in value))) Form (text_asks value reader)

abbrev pub decimal_asks : ℕ → Option Data → Ask
decimal_asks most value reader =
    asked (is_some (option_and_then (sized most) (number_of_text (text_in value)))) Limits (asked (is_some (number_of_text (text_in value))) Form (text_asks value reader))

abbrev pub colour_asks : Version → Option Data → Ask
colour_asks version value reader = cond (is_null value) reader (asked (is_some (colour_of_number version (unsigned_in 255 value))) Colours (unsigned_asks 255 value reader))

abbrev pub total_asks : Option Data → Ask
total_asks value reader = decimal_asks MAX_TOTAL (second_item value) (decimal_asks MAX_TOTAL (first_in value) (pair_asks value reader))

abbrev pub totals_asks : Option Data → Ask
totals_asks value = all_asked (
    asked (has_keys_in 6 value) Form
    ∷ total_asks (cause_in (codes "command") value)
    ∷ total_asks (cause_in (codes "gravity") value)
    ∷ total_asks (cause_in (codes "immovable") value)
    ∷ total_asks (cause_in (codes "clamp") value)
    ∷ total_asks (cause_in (codes "rest") value)
    ∷ total_asks (cause_in (codes "departed") value)
    ∷ [])
