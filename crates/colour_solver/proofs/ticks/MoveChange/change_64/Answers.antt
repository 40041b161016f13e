use Rattle.std.proofs.Common.{◌≡◌, ◌^◌, arith}
use Rattle.fixed_geom.specs.Vectors.{IsWithin, minus}
use Rattle.momenta.specs.Motions.{IsMotion}
use Rattle.momenta.specs.declared.motion.Motion.{Motion}
use Rattle.momenta.proofs.Laws64.{some_then}
use Rattle.colour_solver.proofs.SumLaws.{no_change}
use Rattle.colour_solver.proofs.ticks.MoveChange.change_64.Goals as goal

pub returns-clause-near : goal.returns-clause-near
returns-clause-near c =
    some_then (λ (r : Motion). r.p ≡ c.args.motion.p) (λ (r : Motion). IsWithin (2 ^ 36) (minus r.p c.args.motion.p)) c.advance_inside.result (λ r h. rw h (no_change c.args.motion.p)) c.advance_inside.ensures.momentum

pub returns-clause-small : goal.returns-clause-small
returns-clause-small c =
    some_then (IsMotion c.args.mass) (λ (r : Motion). IsWithin (2 ^ 61) r.p) c.advance_inside.result (λ r h. record { x = omega (arith, h.p.x); y = omega (arith, h.p.y) }) c.advance_inside.ensures.motion
