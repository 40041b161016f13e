use Rattle.std.specs.List.{AllWithin}
use Rattle.plain_world.specs.Formed.{HasFilter}
use Rattle.shapes.specs.declared.shape.ShapeDef.{ShapeDef}
use Rattle.plain_world.proofs.filters.know_filters_fit.Given as goal

abbrev pub invariant-loop-def : goal.invariant-loop-def
invariant-loop-def l = AllWithin (λ (d : ShapeDef). HasFilter d.filter) l.defs 0 l.def-index
