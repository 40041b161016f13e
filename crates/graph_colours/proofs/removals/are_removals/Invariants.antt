use Rattle.std.proofs.Common.{◌≡◌, false}
use Rattle.std.specs.List.{AllWithin}
use Rattle.graph_colours.proofs.removals.are_removals.Given as goal

abbrev pub invariant-loop-edit : goal.invariant-loop-edit
invariant-loop-edit g l = AllWithin (λ e. e.adds ≡ false) l.edits 0 l.edit-index
