use Rattle.std.proofs.Common.{◌≡◌, ℕ, cond, take, Some, nat_eq}
use Rattle.std.specs.HashMap.{get}
use Rattle.world_file.specs.Taken.{has_number}
use Rattle.world_file.proofs.numbered_colours.put_colour.Given as goal

abbrev pub invariant-loop-id : goal.invariant-loop-id
invariant-loop-id l = (number : ℕ) → get nat_eq l.by_number number ≡ cond (has_number number (take l.id-index l.ids)) (Some l.colour) (get nat_eq l.fn.by_number number)
