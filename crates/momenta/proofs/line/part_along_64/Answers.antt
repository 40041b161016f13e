use Rattle.std.proofs.Common.{◌≡◌}
use Rattle.std.proofs.lemmas.Int.{to_z-of_z}
use Rattle.std.specs.Int.{w64}
use mir.Val.{SFits}
use Rattle.fixed_geom.specs.Vectors.{dot}
use Rattle.momenta.proofs.line.part_along_64.Goals as goal

pub returns-clause-value : goal.returns-clause-value
returns-clause-value c =
    let d : SFits w64 c.dot_64.result = record { sfits = c.dot_64.type_inv } in
    let r : SFits w64 c.rdiv_unit_64.result = record { sfits = c.rdiv_unit_64.type_inv } in
    let dotted : c.dot_64.result ≡ dot c.args.v c.args.direction = c.dot_64.ensures.value in
    simp to_z-of_z (rw dotted at (simp to_z-of_z at c.rdiv_unit_64.ensures.value))
