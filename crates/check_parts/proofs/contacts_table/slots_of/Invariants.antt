use Rattle.std.proofs.Common.{take}
use Rattle.std.specs.Prelude.{All}
use Rattle.check_parts.specs.Scenes.{IsListed}
use Rattle.check_parts.proofs.contacts_table.slots_of.Given as goal

abbrev pub invariant-loop-place : goal.invariant-loop-place
invariant-loop-place l = All (IsListed l.slots.items) (take l.place l.shapes)
