-- Trusted: Ids and numbers as texts.
use Rattle.std.specs.Prelude.{ℕ, ◌==◌, ◌&&◌, ◌^◌, Bool, not, cond, nat_lt, nat_le, List, [], ◌∷◌, length, drop, slice_index, Option, Some, None, option_and_then, unwrap_or, ℤ, pos, unsigned_abs}
use Rattle.std.specs.List.{list_all}
use Rattle.std.specs.Str.{bytes_eq}
use Rattle.std.specs.Str.Parse.{digits_value, signed_digits_value, starts_with_minus}
use Rattle.serde_json.specs.Data.{Data}
use Rattle.body_handles.specs.declared.handle.Handle.{Handle}
use Rattle.body_handles.specs.IdTexts.{id_text, point}
use Rattle.world_file_base.specs.Reading.{text_in}

-- ---- ids

-- what stands before the first point, and what after it
abbrev pub before_point : List ℕ → List ℕ
before_point [] = []
before_point (byte ∷ text) = cond (byte == point) [] (byte ∷ before_point text)

abbrev pub after_point : List ℕ → List ℕ
after_point [] = []
after_point (byte ∷ text) = cond (byte == point) text (after_point text)

-- what the digits before and after the first point name
abbrev pub named_by : List ℕ → Handle
named_by text = record { slot = digits_value 10 (before_point text); generation = digits_value 10 (after_point text) }

abbrev pub is_narrow : Handle → Bool
is_narrow handle = nat_lt handle.slot (2 ^ 32) && nat_lt handle.generation (2 ^ 32)

-- a text is an id if it is just what is written of one
unfoldable pub handle_of_text : List ℕ → Option Handle
handle_of_text text = cond (is_narrow (named_by text) && bytes_eq (id_text (named_by text)) text) (Some (named_by text)) None

abbrev pub no_handle : Handle
no_handle = record { slot = 0; generation = 0 }

abbrev pub handle_in : Option Data → Handle
handle_in value = unwrap_or (handle_of_text (text_in value)) no_handle

-- ---- numbers of any length

abbrev pub is_digit : ℕ → Bool
is_digit byte = nat_le 48 byte && nat_le byte 57

-- digits, of which the first is no zero before others
abbrev pub is_natural : List ℕ → Bool
is_natural digits = nat_lt 0 (length digits) && (list_all is_digit digits && not (slice_index digits 0 == 48 && nat_lt 1 (length digits)))

-- the digits of a number, which has a minus if it is below zero
abbrev pub digits_of : List ℕ → List ℕ
digits_of text = cond (starts_with_minus text) (drop 1 text) text

-- a minus stands before the digits of no zero
abbrev pub is_decimal : List ℕ → Bool
is_decimal text = is_natural (digits_of text) && not (starts_with_minus text && bytes_eq (digits_of text) (48 ∷ []))

unfoldable pub number_of_text : List ℕ → Option ℤ
number_of_text text = cond (is_decimal text) (Some (signed_digits_value 10 text)) None

-- a number of a size up to most
abbrev pub sized : ℕ → ℤ → Option ℤ
sized most z = cond (nat_le (unsigned_abs z) most) (Some z) None

abbrev pub decimal_in : ℕ → Option Data → ℤ
decimal_in most value = unwrap_or (option_and_then (sized most) (number_of_text (text_in value))) (pos 0)
