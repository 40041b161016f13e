use Rattle.std.proofs.Common.{◌≡◌, length, take}
use Rattle.graph_colours.specs.Colours.{all_members}
use Rattle.part_solver.specs.Stages.{lists_of}
use Rattle.part_solver.proofs.parting.count_rows.Given as goal

abbrev pub invariant-loop-number : goal.invariant-loop-number
invariant-loop-number l = record { counted : l.count ≡ length (all_members (lists_of (take l.number l.stages))) }
