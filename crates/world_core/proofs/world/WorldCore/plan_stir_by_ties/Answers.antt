use Rattle.std.proofs.Common.{◌≡◌, ◌∙◌, ℕ, true, false, List, sym, subst, ap, IfOk}
use Rattle.sleep_wake.specs.Sleeping.{sleeping_names}
use Rattle.solver_sets.specs.Beside.{stirred_by}
use Rattle.solver_sets.specs.BesideByTies.{first_movers}
use Rattle.plain_world.specs.Bodies.{moves}
use Rattle.world_core.specs.contracts.world.WorldCore.{the_view}
use Rattle.world_core.proofs.StirredLaws.{mover_stirs, still_stirs}
use Rattle.world_core.proofs.world.WorldCore.plan_stir_by_ties.Goals as goal

pub returns-then-is_mover_at-clause-names : goal.returns-then-is_mover_at-clause-names
returns-then-is_mover_at-clause-names c =
    let on : moves c.self.inside.activity.bodies.bodies c.args.slot ≡ true = rw c.bodies.ensures at (sym c.is_mover_at.ensures ∙ c.if-is_mover_at.true) in
    rw (← c.self.view_is)
    (subst (λ (slots : List ℕ). IfOk c.plan_waking.result (λ waking. waking.names.items ≡ sleeping_names c.self.inside.activity.sets.acting.labels slots)) (mover_stirs c.self.inside.activity.bodies.bodies c.self.inside.constraints.joints.joints c.self.inside.constraints.contacts.contacts c.args.slot on) (rw (← c.self.view_is) at c.plan_waking.ensures.names))

pub returns-clause-names : goal.returns-clause-names
returns-clause-names c =
    let still : moves c.self.inside.activity.bodies.bodies c.args.slot ≡ false = rw c.bodies.ensures at (sym c.is_mover_at.ensures ∙ c.if-is_mover_at.false) in
    let ties = rw (← c.self.view_is) at c.requires in
    let slots : c.deref.result.now ≡ stirred_by c.self.inside.activity.bodies.bodies c.self.inside.constraints.joints.joints c.self.inside.constraints.contacts.contacts c.args.slot =
    c.deref.ensures.value ∙ c.in_ok-slots.ensures.slots ∙ ap first_movers ties ∙ still_stirs (the_view c.self.inside) c.self.inside.activity.sets.acting c.args.slot c.self.invariant.whole still in
    rw (← c.self.view_is) (subst (λ (slots : List ℕ). IfOk c.plan_waking-2.result (λ waking. waking.names.items ≡ sleeping_names c.self.inside.activity.sets.acting.labels slots)) slots (rw (← c.self.view_is) at c.plan_waking-2.ensures.names))
