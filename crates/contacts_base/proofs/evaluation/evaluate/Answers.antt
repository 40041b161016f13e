use Rattle.std.proofs.Common.{subst, sym, pos, ◌≤ℤ◌, rules, tests}
use Rattle.contacts_base.specs.Limits.{IsPackable}
use Rattle.contacts_base.proofs.PackableLaws.{packable}
use Rattle.contacts_base.proofs.evaluation.evaluate.Goals as goal

pub with_first-contact-requires : goal.with_first-contact-requires
with_first-contact-requires c =
    let overlap : c.args.manifold.now.first.separation ≤ℤ pos 0 = search (rules, tests) in
    subst IsPackable (sym c.kept_point.ensures) (packable _ c.args.manifold.now.first (c.requires.first overlap))
