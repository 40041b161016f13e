use Rattle.std.proofs.Common.{◌≡◌, ◌∙◌, rules}
use Rattle.std.proofs.lemmas.Int.{to_z-of_z}
use Rattle.std.specs.Int.{w64}
use mir.Val.{SFits}
use Rattle.fixed_geom.specs.declared.vectors.Vec2.{Vec2}
use Rattle.momenta.specs.declared.state.Ends.{Ends}
use Rattle.momenta.specs.Impulses.{parting}
use Rattle.colour_solver_base.proofs.Kept.{kept_then, same_then}
use Rattle.colour_solver_base.proofs.solve.solve_point.Goals as goal

-- after no impulse the points part as they did
parts_same : (a b ra rb : Vec2) (e f : Ends) (v : Vec2) → a ≡ ra → b ≡ rb → f ≡ e → v ≡ parting ra rb e → v ≡ parting a b f
parts_same a b ra rb e f v h k l is = rw (h, k, l) is

pub parting_after-apart-requires-clause-apart : goal.parting_after-apart-requires-clause-apart
parting_after-apart-requires-clause-apart c =
    let kept : SFits w64 c.args.point.now.normal_impulse = search rules in
    λ same. parts_same c.solve_normal.new.point.ra c.solve_normal.new.point.rb _ _ _ c.solve_normal.new.ends c.parting_at-apart.result c.solve_normal.ensures.first_offset c.solve_normal.ensures.second_offset
    (c.solve_normal.ensures.still (same ∙ to_z-of_z w64 c.args.point.now.normal_impulse kept)) c.parting_at-apart.ensures.value

pub returns-clause-same : goal.returns-clause-same
returns-clause-same c = same_then c.args.ends.now c.solve_normal.new.ends c.solve_tangent.new.ends c.solve_normal.ensures.same c.solve_tangent.ensures.same

pub returns-clause-kept : goal.returns-clause-kept
returns-clause-kept c = kept_then c.args.ends.now c.solve_normal.new.ends c.solve_tangent.new.ends c.solve_normal.ensures.same c.solve_normal.ensures.kept c.solve_tangent.ensures.kept
