use Rattle.std.proofs.Common.{◌≡◌, ◌∙◌, ◌+◌, ℕ, ap, sym, arith}
use Rattle.graph_colours.specs.Colours.{list_at}
use Rattle.solver_sets.specs.BesideByTies.{stilled_lists, stilled_ties}
use Rattle.solver_sets.proofs.TimerLaws.{lists_last}
use Rattle.solver_sets.proofs.timers.still_acting.Goals as goal

pub returns : goal.returns
returns c =
    let last = c.loop-colour.auto.colour-end in
    let done = c.loop-colour-test.false in
    let same : c.loop-colour.colour ≡ 24 = omega (arith, last, done) in
    lists_last c.args.bodies.now c.args.joints.now c.args.colours.now.lists c.loop-colour.colour c.loop-colour.timers.items c.still_ties-2.new.timers.items (stilled_lists c.args.bodies.now c.args.joints.now c.args.colours.now.lists c.args.timers.now.items)
    (c.members-2.ensures.colouring.count ∙ sym (ap (λ (n : ℕ). n + 1) same))
    (c.still_ties-2.ensures ∙ ap (λ ms. stilled_ties c.args.bodies.now c.args.joints.now ms c.loop-colour.timers.items) (c.members-2.ensures.value ∙ sym (ap (list_at c.args.colours.now.lists) same)))
    c.loop-colour.invariant
