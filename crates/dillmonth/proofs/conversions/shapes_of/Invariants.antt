use Rattle.std.proofs.Common.{◌≡◌, drop}
use Rattle.dillmonth.specs.Forms.{shapes_said}
use Rattle.dillmonth.proofs.FormLaws.{said_after}
use Rattle.dillmonth.proofs.conversions.shapes_of.Given as goal

abbrev pub invariant-loop-shape : goal.invariant-loop-shape
invariant-loop-shape l = said_after l.made (shapes_said (drop l.shape-index l.shapes)) ≡ shapes_said l.shapes
