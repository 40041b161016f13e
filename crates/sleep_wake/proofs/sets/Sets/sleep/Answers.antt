use Rattle.std.proofs.Common.{sym, ap, ◌∙◌}
use Rattle.islands.specs.Labels.{label_at}
use Rattle.sleep_wake.specs.Acting.{Acting}
use Rattle.sleep_wake.specs.Resting.{is_whole}
use Rattle.sleep_wake.proofs.RestLemmas.{whole_after}
use Rattle.sleep_wake.proofs.SourceLaws.{split_if_ties}
use Rattle.sleep_wake.proofs.sets.Sets.sleep.Goals as goal

pub rest_at-requires-clause-whole : goal.rest_at-requires-clause-whole
rest_at-requires-clause-whole g c =
    let here = sym c.label_of.ensures.value ∙ c.in-Some.is in
    ap (λ (v : Acting g.row.C.Denot). is_whole (label_at v.labels c.args.slot)) c.split_if_loose.ensures.acting ∙ whole_after g.C.ConstraintId.number c.args.self.now.acting c.args.slot c.in-Some.label c.know_consistent.ensures here (sym c.is_asleep.ensures ∙ c.if-not-is_asleep.true)

pub rest_at-requires-clause-source : goal.rest_at-requires-clause-source
rest_at-requires-clause-source g c = c.requires.source ∙ sym (ap (λ (v : Acting g.row.C.Denot). v.ties) c.split_if_loose.ensures.acting ∙ split_if_ties c.in-Some.label c.args.self.now.acting)
