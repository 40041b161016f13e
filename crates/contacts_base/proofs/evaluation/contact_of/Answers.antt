use Rattle.std.proofs.Common.{sym, ap, ◌∙◌}
use Rattle.shapes.proofs.CircleLaws.{discs_touching, manifold_of_discs}
use Rattle.contacts_base.specs.Evaluate.{evaluated}
use Rattle.contacts_base.proofs.evaluation.contact_of.Goals as goal

pub contact_of_discs-requires-clause-touching : goal.contact_of_discs-requires-clause-touching
contact_of_discs-requires-clause-touching c =
    discs_touching c.args.p.now.shape c.args.q.now.shape c.args.p.now.pose c.args.q.now.pose c.in-Some.a c.in-Some-disc_of.b
    c.requires.first.shape c.requires.first.pose c.requires.second.shape c.requires.second.pose
    (sym c.disc_of.ensures.value ∙ c.in-Some.is) (sym c.disc_of-in-Some.ensures.value ∙ c.in-Some-disc_of.is)

pub returns-in-Some-disc_of : goal.returns-in-Some-disc_of
returns-in-Some-disc_of c =
    c.contact_of_discs.ensures
    ∙ ap (evaluated _) (sym (manifold_of_discs c.args.p.now.shape c.args.q.now.shape c.args.p.now.pose c.args.q.now.pose c.in-Some.a c.in-Some-disc_of.b (sym c.disc_of.ensures.value ∙ c.in-Some.is) (sym c.disc_of-in-Some.ensures.value ∙ c.in-Some-disc_of.is)))
