-- Trusted: Words of 64 bits, and the four sums that take them in turn.
use Rattle.std.specs.Prelude.{ℕ, ◌*◌, ◌/◌, ◌%◌, ◌^◌, ◌++◌, Bool, true, false, List, [], ◌∷◌, length, flat_map, Option, Some, None, ℤ, bit_xor}
use Rattle.std.specs.Int.{cast_unsigned, rotate_left, to_le_bytes, w64, w128}
use Rattle.world_digest.specs.declared.sums.Sums.{Sums}
use Rattle.world_digest.specs.declared.sums.TheConstants.{FACTOR}

-- ---- words

-- a number with a sign, in two's complement
abbrev pub integer_word : ℤ → ℕ
integer_word z = cast_unsigned w64 z

-- a number of 128 bits, its lower half first
abbrev pub wide_words : ℤ → List ℕ
wide_words z = (cast_unsigned w128 z % 2 ^ 64) ∷ (cast_unsigned w128 z / 2 ^ 64) ∷ []

abbrev pub truth_word : Bool → ℕ
truth_word true = 1
truth_word false = 0

-- what may be there: 0, or 1 and its words
abbrev pub option_words : {T : Type 0} → (T → List ℕ) → Option T → List ℕ
option_words words None = 0 ∷ []
option_words words (Some x) = 1 ∷ words x

-- how many there are, and then the words of each
abbrev pub list_words : {T : Type 0} → (T → List ℕ) → List T → List ℕ
list_words words xs = length xs ∷ flat_map words xs

-- ---- sums

-- a sum with one word more: joined by exclusive or, times an odd number, and the halves exchanged
unfoldable pub mixed : ℕ → ℕ → ℕ
mixed sum word = rotate_left w64 (bit_xor sum word * FACTOR % 2 ^ 64) 32

-- of no words
abbrev pub first_sums : Sums
first_sums = record { first = 1; second = 2; third = 3; fourth = 4 }

-- the first sum takes the word and becomes the last
unfoldable pub absorbed : Sums → ℕ → Sums
absorbed s word = record { first = s.second; second = s.third; third = s.fourth; fourth = mixed s.first word }

abbrev pub absorbed_all : Sums → List ℕ → Sums
absorbed_all s [] = s
absorbed_all s (word ∷ words) = absorbed_all (absorbed s word) words

-- each sum with its lowest byte first
abbrev pub bytes_of : Sums → List ℕ
bytes_of s = to_le_bytes w64 s.first ++ to_le_bytes w64 s.second ++ to_le_bytes w64 s.third ++ to_le_bytes w64 s.fourth
