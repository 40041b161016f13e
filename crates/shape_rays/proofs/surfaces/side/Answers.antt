use Rattle.std.proofs.Common.{◌≡◌, refl}
use Rattle.std.proofs.lemmas.Int.{to_z-of_z}
use Rattle.std.specs.Int.{w128}
use mir.Val.{SFits}
use Rattle.fixed_geom.specs.Vectors.{cross}
use Rattle.shapes.specs.Cores.{side}
use Rattle.shape_rays.proofs.surfaces.side.Goals as goal

pub returns : goal.returns
unfolding side
returns c =
    let fits : SFits w128 c.cross.result = record { sfits = c.cross.type_inv } in
    let value : c.cross.result ≡ cross c.minus.result c.minus-2.result = c.cross.ensures.value in
    simp to_z-of_z (rw (value, c.minus.ensures.value, c.minus-2.ensures.value) refl)
