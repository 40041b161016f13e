use Rattle.std.proofs.Common.{◌≡◌, refl}
use Rattle.std.proofs.lemmas.Int.{to_z-of_z}
use Rattle.std.specs.Int.{w64}
use mir.Val.{SFits}
use Rattle.fixed_geom.specs.Vectors.{dot, cross}
use Rattle.shape_rays.proofs.boxes.is_crossed.Goals as goal

pub returns : goal.returns
returns c =
    let middle : SFits w64 c.cross_64-middle.result = record { sfits = c.cross_64-middle.type_inv } in
    let half : SFits w64 c.dot_64-half.result = record { sfits = c.dot_64-half.type_inv } in
    let value = simp to_z-of_z at c.is_at_most.ensures.value in
    let first : c.cross_64-middle.result ≡ cross c.plus.result c.args.along = c.cross_64-middle.ensures.value in
    let second : c.dot_64-half.result ≡ dot c.extent.result c.sizes_across.result = c.dot_64-half.ensures.value in
    rw (value, first, second, c.plus.ensures.value, c.extent.ensures.value, c.sizes_across.ensures.value) refl
