-- How many lists of colours a world has that is read.
use Rattle.std.proofs.Common.{◌≡◌, ℕ, zero, suc, ◌+◌, length, List, [], ◌∷◌, refl, ap, ◌∙◌, arith}
use Rattle.std.proofs.lemmas.List.{length-append}
use Rattle.graph_colours.specs.declared.limits.TheConstants.{COLOURS}
use Rattle.world_file.specs.Files.{plain_of}
use Rattle.world_file.specs.declared.ties.Tie.{Tie}
use Rattle.world_file.specs.Fitting.{ids_below, ids_coloured, ties_read}
use Rattle.world_file.specs.Saved.{Saved}

below_length : (ties : List Tie) (n : ℕ) → length (ids_below ties n) ≡ n
below_length ties zero = refl
below_length ties (suc n) = length-append (ids_below ties n) (ids_coloured ties n ∷ []) ∙ ap (λ (m : ℕ). m + 1) (below_length ties n) ∙ omega arith

-- one for each colour, and the overflow
pub read_colours : (s : Saved) → length (plain_of s).colours ≡ COLOURS + 1
read_colours s = below_length (ties_read s) (COLOURS + 1)
