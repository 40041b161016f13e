-- Trusted: The text of a value.
use Rattle.std.specs.Prelude.{◌≡◌, ℕ, ◌≤◌, List, Some}
use Rattle.serde_json.specs.Data.{Data, depth}
use Rattle.serde_json.specs.Read.{max_depth, read}
use Rattle.serde_json.specs.Written.{compact_text}

-- what is printed of it, and read as it
pub record IsTextOf (d : Data) (text : List ℕ) : Type 0 where
  pub printed : text ≡ compact_text d
  pub again : depth d ≤ max_depth → read text ≡ Some d
