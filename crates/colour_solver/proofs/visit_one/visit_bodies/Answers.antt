use Rattle.std.proofs.Common.{◌≡◌, ◌∙◌, ap, get_or, subst, sym}
use Rattle.momenta.specs.declared.state.Ends.{Ends}
use Rattle.momenta.specs.ImpulseBounds.{AreSameBodies, IsMomentumKept}
use Rattle.momenta.specs.Line64.{both_ends}
use Rattle.colour_solver.specs.States.{as_vector}
use Rattle.colour_solver.specs.RowVisits.{ends_of, got}
use Rattle.colour_solver.proofs.VisitLaws.{state_at}
use Rattle.colour_solver.proofs.VisitedLaws.{ends_there, visited_by}
use Rattle.colour_solver.proofs.visit_one.visit_bodies.Goals as goal

pub visit-requires-clause-states : goal.visit-requires-clause-states
visit-requires-clause-states g c = record {
  a = state_at c.args.states.now.items c.slots-slots.result.a c.index.result.now c.index.result.now c.requires.states (rw c.slots-slots.ensures c.requires.row.a) c.index.ensures;
  b = state_at c.args.states.now.items c.slots-slots.result.b c.index-2.result.now c.index-2.result.now c.requires.states (rw c.slots-slots.ensures c.requires.row.b) c.index-2.ensures;
}

pub got-requires-clause-first : goal.got-requires-clause-first
got-requires-clause-first g c = state_at c.args.states.now.items c.slots-slots.result.a c.index.result.now c.index.result.now c.requires.states (rw c.slots-slots.ensures c.requires.row.a) c.index.ensures

pub got-requires-clause-second : goal.got-requires-clause-second
got-requires-clause-second g c = state_at c.args.states.now.items c.slots-slots.result.b c.index-2.result.now c.index-2.result.now c.requires.states (rw c.slots-slots.ensures c.requires.row.b) c.index-2.ensures

pub returns-clause-visited : goal.returns-clause-visited
returns-clause-visited g c =
    let at = g.R.Row.slots in
    let f = g.T.Visit.visit c.args.visit.now in
    let ss = c.args.states.now.items in
    let r = c.args.row.now in
    let a = c.index.result.now in
    let b = c.index-2.result.now in
    let new = c.visit.new.ends in
    let is_a : a ≡ get_or ss (at r).a a = rw c.slots-slots.ensures at c.index.ensures in
    let is_b : b ≡ get_or ss (at r).b b = rw c.slots-slots.ensures at c.index-2.ensures in
    let before : both_ends a b ≡ ends_of at ss r = ends_there at ss r a b c.requires.row.a c.requires.row.b is_a is_b in
    let got_is : as_vector c.got.result ≡ got (both_ends a b) new = c.got.ensures.value in
    rw (c.put_momenta.ensures, c.put_momenta-2.ensures, c.slots-slots.ensures)
    (visited_by at g.R.Row.is_row f ss r c.visit.new.row new (as_vector c.got.result) c.requires.row c.requires.states (sym (c.visit.ensures.value ∙ ap (f r) before)) c.visit.ensures.row c.visit.ensures.slots c.visit.ensures.states
    (subst (λ (e : Ends). AreSameBodies e new) before c.visit.ensures.same) (subst (λ (e : Ends). IsMomentumKept e new) before c.visit.ensures.kept) (got_is ∙ ap (λ (e : Ends). got e new) before))
