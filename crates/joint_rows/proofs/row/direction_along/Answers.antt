use Rattle.std.proofs.Common.{◌≡◌, ◌∙◌, sym, true, false, refl, pos}
use Rattle.fixed_geom.specs.Vectors.{unit, unit_length}
use Rattle.fixed_geom.specs.declared.vectors.Vec2.{Vec2}
use Rattle.joint_rows.specs.Joints.{direction_along, is_zero}
use Rattle.joint_rows.proofs.row.direction_along.Goals as goal

nowhere : (d : Vec2) → is_zero d ≡ true → record { x = pos 0; y = unit_length } ≡ direction_along d
unfolding direction_along
nowhere d h = rw h refl

somewhere : (d : Vec2) → is_zero d ≡ false → unit d ≡ direction_along d
unfolding direction_along
somewhere d h = rw h refl

pub returns-then-is_zero-clause-value : goal.returns-then-is_zero-clause-value
returns-then-is_zero-clause-value c = nowhere c.args.d (sym c.is_zero.ensures.value ∙ c.if-is_zero.true)

pub returns-else-is_zero-clause-value : goal.returns-else-is_zero-clause-value
returns-else-is_zero-clause-value c = c.unit_along.ensures.value ∙ somewhere c.args.d (sym c.is_zero.ensures.value ∙ c.if-is_zero.false)
