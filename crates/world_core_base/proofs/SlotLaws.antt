-- Slots read one after another.
use Rattle.std.proofs.Common.{◌≡◌, ℕ, zero, suc, ◌<◌, List, [], ◌∷◌, length, get_or, Some, arith, ap, sym}
use Rattle.std.specs.List.{slice_get}

pub slice_get-get : {X : Type 0} (all : List X) (i : ℕ) (o d : X) → i < length all → o ≡ get_or all i d → slice_get all i ≡ Some o
slice_get-get [] i o d h e = absurd (omega arith)
slice_get-get (a ∷ all) zero o d h e = ap Some (sym e)
slice_get-get (a ∷ all) (suc i) o d h e = slice_get-get all i o d (omega arith) e
