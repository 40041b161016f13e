use Rattle.std.proofs.Common.{rules, refl}
use Rattle.std.proofs.lemmas.Int.{to_z-of_z}
use Rattle.std.specs.Int.{w64}
use mir.Val.{SFits}
use Rattle.fixed_geom.specs.Vectors.{unit}
use Rattle.fixed_geom.proofs.vectors.unit_along_128.Goals as goal

pub returns-clause-value : goal.returns-clause-value
unfolding unit
returns-clause-value c =
    let k : SFits w64 c.args.k = c.ranges.k in
    let dx : SFits w64 c.args.d.x = search rules in
    let dy : SFits w64 c.args.d.y = search rules in
    let first : SFits w64 c.share.result = record { sfits = c.share.type_inv } in
    let second : SFits w64 c.share-2.result = record { sfits = c.share-2.type_inv } in
    let x = simp to_z-of_z at c.share.ensures.value in
    let y = simp to_z-of_z at c.share-2.ensures.value in
    simp to_z-of_z (rw (x, y, c.requires.length) refl)
