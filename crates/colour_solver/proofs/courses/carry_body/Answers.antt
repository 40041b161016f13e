use Rattle.std.proofs.Common.{◌≡◌, true, unsigned_abs, sym, subst, rules, tests}
use Rattle.fixed_geom.specs.Vectors.{IsWithin}
use Rattle.momenta.specs.declared.limits.TheConstants.{MAX_SPEED}
use Rattle.momenta.specs.declared.mass.MassData.{MassData}
use Rattle.momenta.specs.Motions.{velocity}
use Rattle.momenta.proofs.Courses.{velocity_within}
use Rattle.colour_solver.specs.States.{HasCourse, is_carried}
use Rattle.colour_solver.proofs.courses.carry_body.Goals as goal

pub advance-requires-clause-slow : goal.advance-requires-clause-slow
advance-requires-clause-slow c =
    let on1 : is_carried c.args.body.now ≡ true = search (rules, tests) in
    let course : HasCourse c.args.body.now = c.requires.course on1 in
    subst (λ (m : MassData). IsWithin (unsigned_abs MAX_SPEED) (velocity m.mass c.args.body.now.motion.p)) (sym course.mass) (velocity_within (unsigned_abs MAX_SPEED) c.args.body.now.motion.p course.velocity)
