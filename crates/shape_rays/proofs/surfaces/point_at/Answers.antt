use Rattle.std.proofs.Common.{◌*◌, ◌^◌, ◌≤◌, unsigned_abs, arith, refl}
use Rattle.std.proofs.lemmas.Int.{to_z-of_z}
use Rattle.std.specs.Int.{w64}
use mir.Val.{SFits}
use Rattle.shape_rays.specs.Surfaces.{point_at}
use Rattle.shape_rays.proofs.surfaces.point_at.Goals as goal

pub returns-clause-value : goal.returns-clause-value
unfolding point_at
returns-clause-value c =
    let share : SFits w64 c.share_of.result = record { sfits = c.share_of.type_inv } in
    let value = simp to_z-of_z at c.moved.ensures.value in
    rw (value, c.share_of.ensures.value) refl

pub returns-clause-within : goal.returns-clause-within
returns-clause-within c =
    let share : SFits w64 c.share_of.result = record { sfits = c.share_of.type_inv } in
    let times : (2 ^ 28 * unsigned_abs c.share_of.result) ≤ 2 ^ 36 * 2 ^ 30 = omega (arith, c.share_of.ensures.small) in
    let near = c.moved.ensures.within (2 ^ 36) (2 ^ 28) (2 ^ 36) c.requires.from c.requires.along (simp to_z-of_z times) in
    record { x = omega (arith, near.x); y = omega (arith, near.y) }
