use Rattle.std.proofs.Common.{◌≡◌, List, Option, None, Some, length, sym, ap, ◌∙◌, arith}
use Rattle.std.specs.Option.{is_some, option_map}
use Rattle.graph_colours.specs.declared.member.Member.{Member}
use Rattle.graph_colours.specs.FoundMembers.{with_number}
use Rattle.graph_colours.specs.Edits.{all_edited}
use Rattle.graph_colours.proofs.PlaceLemmas.{without_same}
use Rattle.graph_colours.proofs.EditLemmas.{all_made}
use Rattle.graph_colours.proofs.NotedLemmas.{movers_with, has_with, without_count}
use Rattle.graph_colours.proofs.edited.EditedList.remove.Goals as goal

pub returns-in_err-movers-clause-value : goal.returns-in_err-movers-clause-value
returns-in_err-movers-clause-value g c =
    let n = g.C.ConstraintId.number in
    let items = c.args.self.now.items in
    let found : None ≡ with_number n (n c.args.id) items = rw c.number.ensures at c.in_err-movers.ensures in
    c.from_residual.ensures ∙ sym (movers_with n c.args.id items ∙ ap (λ (o : Option (Member g.row.C.Denot)). option_map (λ m. m.movers) o) (sym found))

pub returns-in_err-movers-clause-items : goal.returns-in_err-movers-clause-items
returns-in_err-movers-clause-items g c =
    let n = g.C.ConstraintId.number in
    let items = c.args.self.now.items in
    let found : None ≡ with_number n (n c.args.id) items = rw c.number.ensures at c.in_err-movers.ensures in
    sym (without_same n c.args.id items (sym (has_with n c.args.id items) ∙ ap (λ (o : Option (Member g.row.C.Denot)). is_some o) (sym found)))

pub invariant_of-self : goal.invariant_of-self
invariant_of-self g c =
    let n = g.C.ConstraintId.number in
    let a = c.self.inside in
    let old : List (Member g.row.C.Denot) = all_edited n a.edits.items a.list.items in
    let found : Some c.in_ok-movers.field-0 ≡ with_number n (n c.args.id) old = rw (← c.self.view_is) at (rw c.number.ensures at c.in_ok-movers.ensures) in
    let fewer = without_count n c.args.id old c.in_ok-movers.field-0 (all_made n a.edits.items a.list.items _ c.self.invariant.edited) (sym found) in
    let long = ap (λ (l : List (Member g.row.C.Denot)). length l) c.take_in.ensures.items in
    record { edited = c.take_in.ensures.edited; counted = omega (arith, long, fewer, c.self.invariant.counted) }

pub returns-clause-value : goal.returns-clause-value
returns-clause-value g c =
    let n = g.C.ConstraintId.number in
    let items = c.args.self.now.items in
    let found : Some c.in_ok-movers.field-0 ≡ with_number n (n c.args.id) items = rw c.number.ensures at c.in_ok-movers.ensures in
    sym (movers_with n c.args.id items ∙ ap (λ (o : Option (Member g.row.C.Denot)). option_map (λ m. m.movers) o) (sym found))
