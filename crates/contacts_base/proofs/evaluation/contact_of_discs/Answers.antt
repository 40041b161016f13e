use Rattle.std.proofs.Common.{pos, ◌≤ℤ◌, subst, sym, unsigned_abs}
use Rattle.fixed_geom.specs.declared.limits.TheConstants.{MAX_OFFSET}
use Rattle.shapes.specs.declared.points.Point.{Point}
use Rattle.shapes.specs.PointsWithin.{IsPointWithin}
use Rattle.contacts_base.specs.Evaluate.{evaluated}
use Rattle.contacts_base.proofs.CircleLemmas.{gap_of_discs}
use Rattle.contacts_base.proofs.evaluation.contact_of_discs.Goals as goal

pub evaluate-requires-clause-first : goal.evaluate-requires-clause-first
evaluate-requires-clause-first c =
    subst (λ (p : Point). p.separation ≤ℤ pos 0 → IsPointWithin (unsigned_abs MAX_OFFSET) p) (sym c.disc_point.ensures) c.requires.touching

pub returns-then-are_discs_apart : goal.returns-then-are_discs_apart
unfolding evaluated
returns-then-are_discs_apart c =
    rw (gap_of_discs c.args.a c.args.b c.args.center_a c.args.center_b (c.are_discs_apart.ensures c.if-are_discs_apart.true)) c.apart.ensures
