use Rattle.std.proofs.Common.{◌≡◌, refl}
use Rattle.std.proofs.lemmas.Int.{to_z-of_z}
use Rattle.std.specs.Int.{w64}
use mir.Val.{SFits}
use Rattle.fixed_geom.specs.Vectors.{dot}
use Rattle.fixed_geom.proofs.VectorLemmas.{dot_positive}
use Rattle.shapes.proofs.cores.share_along_64.Goals as goal

pub fraction_64-requires : goal.fraction_64-requires
fraction_64-requires c =
    let fits : SFits w64 c.dot_64-2.result = record { sfits = c.dot_64-2.type_inv } in
    let value : c.dot_64-2.result ≡ dot c.args.way c.args.way = c.dot_64-2.ensures.value in
    simp to_z-of_z (record { positive = rw value (dot_positive c.args.way c.requires.wide) })

pub returns-clause-value : goal.returns-clause-value
returns-clause-value c =
    let first : SFits w64 c.dot_64.result = record { sfits = c.dot_64.type_inv } in
    let second : SFits w64 c.dot_64-2.result = record { sfits = c.dot_64-2.type_inv } in
    let result : SFits w64 c.fraction_64.result = record { sfits = c.fraction_64.type_inv } in
    let value = simp to_z-of_z at c.fraction_64.ensures.value in
    let part : c.dot_64.result ≡ dot c.args.from c.args.way = c.dot_64.ensures.value in
    let whole : c.dot_64-2.result ≡ dot c.args.way c.args.way = c.dot_64-2.ensures.value in
    simp to_z-of_z (rw (value, part, whole) refl)
