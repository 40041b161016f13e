-- Numbers of 64 bits.
use Rattle.std.proofs.Common.{◌≡◌, ℕ, ◌<◌, ◌^◌, true, ℤ, pos, negsuc, refl, arith, FitsSigned, lt-ltb}
use Rattle.std.specs.Int.{w64}
use Rattle.std.specs.Fmt.{signed_decimal}
use Rattle.serde_json.specs.Written.{number_text}
use Rattle.serde_json.specs.Find.{of_integer}
use Rattle.world_file_base.specs.Written.{integer, natural}
use Rattle.saved_text.specs.Whole.{is_whole}

pub natural_whole : (n : ℕ) → n < 2 ^ 64 → is_whole (natural n) ≡ true
natural_whole n small = lt-ltb n (2 ^ 64) small

pub integer_whole : (z : ℤ) → FitsSigned w64 z → is_whole (integer z) ≡ true
integer_whole (pos n) small = lt-ltb n (2 ^ 64) (omega (arith, small))
integer_whole (negsuc n) small = lt-ltb n (2 ^ 63) (omega (arith, small))

pub integer_text : (z : ℤ) → number_text (of_integer z) ≡ signed_decimal z
integer_text (pos n) = refl
integer_text (negsuc n) = refl
