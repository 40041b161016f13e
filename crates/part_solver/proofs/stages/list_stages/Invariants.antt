use Rattle.std.proofs.Common.{◌≡◌, ◌<◌, map, take}
use Rattle.plain_world.specs.Constraints.{constraint_number}
use Rattle.graph_colours.specs.Colours.{IsColouring}
use Rattle.part_solver.specs.Stages.{lists_of, slot_lists, slots_of}
use Rattle.part_solver.proofs.stages.list_stages.Given as goal

abbrev pub invariant-loop-colour : goal.invariant-loop-colour
invariant-loop-colour l = record {
  lists : lists_of l.stages.items ≡ take l.colour l.colours.lists;
  slots : slot_lists l.stages.items ≡ map (slots_of l.joints) (lists_of l.stages.items);
  colouring : 0 < l.colour → IsColouring constraint_number l.colours.lists;
}
