use Rattle.std.proofs.Common.{◌≡◌, ◌∙◌, ℕ, true, List, sym, subst, IfOk}
use Rattle.sleep_wake.specs.Sleeping.{sleeping_names}
use Rattle.plain_world.specs.Bodies.{moves}
use Rattle.world_core.proofs.StirredLaws.{mover_stirs}
use Rattle.world_core.proofs.world.WorldCore.plan_stir.Goals as goal

pub returns-then-is_mover_at-clause-names : goal.returns-then-is_mover_at-clause-names
returns-then-is_mover_at-clause-names c =
    let on : moves c.self.inside.activity.bodies.bodies c.args.slot ≡ true = rw c.bodies.ensures at (sym c.is_mover_at.ensures ∙ c.if-is_mover_at.true) in
    rw (← c.self.view_is)
    (subst (λ (slots : List ℕ). IfOk c.plan_waking.result (λ waking. waking.names.items ≡ sleeping_names c.self.inside.activity.sets.acting.labels slots)) (mover_stirs c.self.inside.activity.bodies.bodies c.self.inside.constraints.joints.joints c.self.inside.constraints.contacts.contacts c.args.slot on) (rw (← c.self.view_is) at c.plan_waking.ensures.names))
