use Rattle.std.proofs.Common.{◌≡◌, false, List, length, sym, ap, ◌∙◌, subst, arith}
use Rattle.graph_colours.specs.declared.member.Member.{Member}
use Rattle.graph_colours.specs.FoundMembers.{has_id}
use Rattle.sleep_wake.specs.Acting.{Acting, are_awake}
use Rattle.sleep_wake.specs.Changes.{begun}
use Rattle.sleep_wake.proofs.SizeLemmas.{both_ties}
use Rattle.sleep_wake.proofs.FoldLemmas.{woken_ready}
use Rattle.sleep_wake.proofs.sets.Sets.begin_awake.Goals as goal

pub begin-requires-clause-fresh : goal.begin-requires-clause-fresh
begin-requires-clause-fresh g c =
    let s : Acting g.row.C.Denot = c.args.self.now.acting in
    let now : Acting g.row.C.Denot = c.wake_movers.new.self.acting in
    let same : now.ties ≡ s.ties = ap (λ (v : Acting g.row.C.Denot). v.ties) c.wake_movers.ensures.acting ∙ both_ties g.C.ConstraintId.number c.args.member.movers s in
    let P : List (Member g.row.C.Denot) → Type 0 = λ v. has_id g.C.ConstraintId.number c.args.member.id v ≡ false in
    subst P (sym same) c.requires.can.0

pub begin-requires-clause-awake : goal.begin-requires-clause-awake
begin-requires-clause-awake g c =
    let n = g.C.ConstraintId.number in
    let s : Acting g.row.C.Denot = c.args.self.now.acting in
    ap (λ (v : Acting g.row.C.Denot). are_awake v.labels c.args.member.movers) c.wake_movers.ensures.acting ∙ woken_ready n c.args.member.movers s c.know_consistent.ensures c.requires.can.1

pub begin-requires-clause-room : goal.begin-requires-clause-room
begin-requires-clause-room g c =
    let s : Acting g.row.C.Denot = c.args.self.now.acting in
    let now : Acting g.row.C.Denot = c.wake_movers.new.self.acting in
    let same : now.ties ≡ s.ties = ap (λ (v : Acting g.row.C.Denot). v.ties) c.wake_movers.ensures.acting ∙ both_ties g.C.ConstraintId.number c.args.member.movers s in
    let long : length now.ties ≡ length s.ties = ap (λ (v : List (Member g.row.C.Denot)). length v) same in
    omega (arith, long, c.requires.room, c.wake_movers.ensures.room)

pub returns-clause-acting : goal.returns-clause-acting
returns-clause-acting g c = c.begin.ensures.acting ∙ ap (λ (v : Acting g.row.C.Denot). begun g.C.ConstraintId.number c.args.member v) c.wake_movers.ensures.acting
