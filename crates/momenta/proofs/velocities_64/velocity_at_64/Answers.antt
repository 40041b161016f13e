use Rattle.std.proofs.Common.{◌≡◌, ◌∙◌, ap, sym, pos, rules}
use Rattle.std.proofs.lemmas.Int.{to_z-of_z}
use Rattle.std.specs.Int.{w64}
use mir.Val.{SFits, to_z, of_z}
use Rattle.momenta.specs.Motions.{IsMass}
use Rattle.momenta.specs.Line64.{with_momenta}
use Rattle.momenta.proofs.Standing.{standing_at}
use Rattle.momenta.proofs.Laws64.{inertia_reciprocal, mass_reciprocal, moving_is, turning}
use Rattle.momenta.proofs.velocities_64.velocity_at_64.Goals as goal

pub returns-then-now-eq0-clause-value : goal.returns-then-now-eq0-clause-value
returns-then-now-eq0-clause-value c =
    let mass : SFits w64 c.args.body.now.mass.mass = search rules in
    let l : SFits w64 c.args.now.l = search rules in
    let mover : IsMass c.args.body.now.mass = c.requires.state.mass in
    let none : c.args.now.l ≡ pos 0 = sym (to_z-of_z w64 c.args.now.l l) ∙ ap (to_z w64) c.if-now-eq0.true in
    (simp to_z-of_z at c.velocity_64-v.ensures.value) ∙ sym (standing_at c.args.r (with_momenta c.args.body.now c.args.now) none mover.nonnegative)

pub spin_by_64-w-requires-clause-inertia : goal.spin_by_64-w-requires-clause-inertia
spin_by_64-w-requires-clause-inertia c =
    let inertia : SFits w64 c.args.body.now.mass.inertia = search rules in
    let mover : IsMass c.args.body.now.mass = c.requires.state.mass in
    simp to_z-of_z (turning c.args.body.now.mass.inertia c.args.now.l mover.nonnegative c.requires.state.motion.still (λ e. c.if-now-eq0.false (ap (of_z w64) e)))

pub returns-clause-value : goal.returns-clause-value
returns-clause-value c =
    let mass : SFits w64 c.args.body.now.mass.mass = search rules in
    let inertia : SFits w64 c.args.body.now.mass.inertia = search rules in
    let l : SFits w64 c.args.now.l = search rules in
    let rx : SFits w64 c.args.r.x = search rules in
    let ry : SFits w64 c.args.r.y = search rules in
    let vx : SFits w64 c.velocity_64-v.result.x = search rules in
    let vy : SFits w64 c.velocity_64-v.result.y = search rules in
    let w : SFits w64 c.spin_by_64-w.result = record { sfits = c.spin_by_64-w.type_inv } in
    let back : SFits w64 c.carried_back.result = record { sfits = c.carried_back.type_inv } in
    let on : SFits w64 c.carried_on.result = record { sfits = c.carried_on.type_inv } in
    simp to_z-of_z (moving_is c.args.r c.velocity_64-v.result (with_momenta c.args.body.now c.args.now) c.spin_by_64-w.result c.carried_back.result c.carried_on.result
    (simp to_z-of_z at c.velocity_64-v.ensures.value) (simp to_z-of_z at c.spin_by_64-w.ensures.value) (simp to_z-of_z at c.carried_back.ensures.value) (simp to_z-of_z at c.carried_on.ensures.value))

pub velocity_64-v-requires-clause-reciprocal : goal.velocity_64-v-requires-clause-reciprocal
velocity_64-v-requires-clause-reciprocal c =
    let mass : SFits w64 c.args.body.now.mass.mass = search rules in
    let reciprocal : SFits w64 c.args.body.now.reciprocals.mass = search rules in
    simp to_z-of_z (mass_reciprocal c.args.body.now.mass c.args.body.now.reciprocals c.requires.state.reciprocals)

pub spin_by_64-w-requires-clause-reciprocal : goal.spin_by_64-w-requires-clause-reciprocal
spin_by_64-w-requires-clause-reciprocal c =
    let inertia : SFits w64 c.args.body.now.mass.inertia = search rules in
    let reciprocal : SFits w64 c.args.body.now.reciprocals.inertia = search rules in
    simp to_z-of_z (inertia_reciprocal c.args.body.now.mass c.args.body.now.reciprocals c.requires.state.reciprocals)
