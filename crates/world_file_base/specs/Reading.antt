-- Trusted: How the value of a key is read: what it means. What a value that breaks a clause is taken for means nothing.
use Rattle.std.specs.Prelude.{ℕ, ◌-◌, ◌==◌, ◌^◌, Bool, false, cond, nat_le, List, [], Option, Some, None, option_map, option_and_then, is_some, unwrap_or, ℤ, pos, negsuc}
use Rattle.std.specs.Borrow.{Bor}
use Rattle.serde_json.specs.Data.{Data, Items, no_items}
use Rattle.serde_json.specs.Events.{members_len}
use Rattle.serde_json.specs.Find.{as_array, as_bool, as_integer, as_null, as_number, as_object, as_str, get_item}
use Rattle.serde_json.specs.View.{view}
use Rattle.serde_json.specs.declared.value.Value.{Value}
use Rattle.fixed_geom.specs.Vectors.{is_within, zero_vector}
use Rattle.fixed_geom.specs.declared.vectors.Vec2.{Vec2}
use Rattle.fixed_geom.specs.declared.boxes.Box2.{Box2}
use Rattle.shapes.specs.Shapes.{is_between}

-- the value that is read, if there is one
abbrev pub seen : Option (Bor Value) → Option Data
seen value = option_map (λ v. view v.now) value

-- ---- objects and lists

-- an object of so many keys
abbrev pub has_keys : ℕ → Data → Bool
has_keys count d = unwrap_or (option_map (λ ms. members_len ms == count) (as_object d)) false

abbrev pub has_keys_in : ℕ → Option Data → Bool
has_keys_in count value = unwrap_or (option_map (has_keys count) value) false

abbrev pub is_null : Option Data → Bool
is_null value = is_some (option_and_then as_null value)

-- the items of a list: none of what isn't one
abbrev pub items_in : Option Data → Items
items_in value = unwrap_or (option_and_then as_array value) no_items

abbrev pub first_in : Option Data → Option Data
first_in value = get_item 0 (items_in value)

abbrev pub second_item : Option Data → Option Data
second_item value = get_item 1 (items_in value)

-- ---- truths and texts

abbrev pub truth_in : Option Data → Bool
truth_in value = unwrap_or (option_and_then as_bool value) false

abbrev pub text_in : Option Data → List ℕ
text_in value = unwrap_or (option_and_then as_str value) []

-- ---- whole numbers

-- a whole number that 64 bits hold, with a sign or without
abbrev pub whole_of : Option Data → Option ℤ
whole_of value = option_and_then (λ d. option_and_then as_integer (as_number d)) value

abbrev pub whole_in : Option Data → ℤ
whole_in value = unwrap_or (whole_of value) (pos 0)

-- a whole number from low to high
abbrev pub signed_in : ℤ → ℤ → Option Data → ℤ
signed_in low high value = cond (is_between low high (whole_in value)) (whole_in value) low

-- a number of 32 bits with a sign
abbrev pub least_group : ℤ
least_group = negsuc (2 ^ 31 - 1)

abbrev pub greatest_group : ℤ
greatest_group = pos (2 ^ 31 - 1)

abbrev pub group_in : Option Data → ℤ
group_in value = signed_in least_group greatest_group value

-- a number without a sign, up to high
abbrev pub natural_of : ℕ → ℤ → Option ℕ
natural_of high (pos n) = cond (nat_le n high) (Some n) None
natural_of high (negsuc n) = None

abbrev pub unsigned_in : ℕ → Option Data → ℕ
unsigned_in high value = unwrap_or (natural_of high (whole_in value)) 0

-- a number of 32 bits without a sign, or none
abbrev pub island_in : Option Data → Option ℕ
island_in value = cond (is_null value) None (Some (unsigned_in (2 ^ 32 - 1) value))

-- ---- vectors

-- the least and the greatest number of 64 bits
abbrev pub least : ℤ
least = negsuc (2 ^ 63 - 1)

abbrev pub greatest : ℤ
greatest = pos (2 ^ 63 - 1)

-- a number of 64 bits with a sign
abbrev pub number_in : Option Data → ℤ
number_in value = signed_in least greatest value

-- two numbers of 64 bits
abbrev pub vector_in : Option Data → Vec2
vector_in value = record { x = number_in (first_in value); y = number_in (second_item value) }

-- two numbers of sizes up to most
abbrev pub vector_within : ℕ → Option Data → Vec2
vector_within most value = cond (is_within most (vector_in value)) (vector_in value) zero_vector

-- a box by its two corners
abbrev pub corners_in : ℕ → Option Data → Box2
corners_in most value = record { lo = vector_within most (first_in value); hi = vector_within most (second_item value) }
