use Rattle.std.proofs.Common.{◌≡◌, List, sym, ap, ◌∙◌, subst}
use Rattle.std.specs.Prelude.{Contains}
use Rattle.graph_colours.specs.declared.member.Member.{Member}
use Rattle.sleep_wake.specs.Acting.{Acting, are_awake}
use Rattle.sleep_wake.specs.Changes.{ended}
use Rattle.sleep_wake.proofs.SizeLemmas.{both_ties}
use Rattle.sleep_wake.proofs.FoldLemmas.{woken_ready}
use Rattle.sleep_wake.proofs.sets.Sets.end_awake.Goals as goal

pub end-requires-clause-there : goal.end-requires-clause-there
end-requires-clause-there g c =
    let s : Acting g.row.C.Denot = c.args.self.now.acting in
    let now : Acting g.row.C.Denot = c.wake_movers.new.self.acting in
    let same : now.ties ≡ s.ties = ap (λ (v : Acting g.row.C.Denot). v.ties) c.wake_movers.ensures.acting ∙ both_ties g.C.ConstraintId.number c.args.member.movers s in
    let P : List (Member g.row.C.Denot) → Type 0 = λ v. Contains v c.args.member in
    subst P (sym same) c.requires.can

pub end-requires-clause-awake : goal.end-requires-clause-awake
end-requires-clause-awake g c =
    let s : Acting g.row.C.Denot = c.args.self.now.acting in
    ap (λ (v : Acting g.row.C.Denot). are_awake v.labels c.args.member.movers) c.wake_movers.ensures.acting ∙ woken_ready g.C.ConstraintId.number c.args.member.movers s c.know_consistent.ensures (c.know_consistent.ensures.movers c.args.member c.requires.can)

pub returns-clause-acting : goal.returns-clause-acting
returns-clause-acting g c = c.end.ensures.acting ∙ ap (λ (v : Acting g.row.C.Denot). ended g.C.ConstraintId.number c.args.member v) c.wake_movers.ensures.acting
