use Rattle.std.proofs.Common.{arith}
use Rattle.std.proofs.lemmas.Int.{to_z-of_z}
use Rattle.fixed_geom.proofs.QuotientLemmas.{fdiv-euclid}
use Rattle.shapes.proofs.spots.half.Goals as goal

pub returns-clause-value : goal.returns-clause-value
returns-clause-value c = grind (arith, to_z-of_z, fdiv-euclid)
