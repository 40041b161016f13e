use Rattle.std.proofs.Common.{◌≡◌, ◌≤◌, ◌*◌, ◌^◌, ◌∙◌, ap, sym, ℤ, pos, ◌≤ℤ◌, unsigned_abs, arith, rules}
use Rattle.std.proofs.lemmas.Int.{to_z-of_z, ints}
use Rattle.std.specs.Int.{w64, w128}
use mir.Val.{SFits, to_z}
use Rattle.fixed_geom.specs.Vectors.{IsWithin}
use Rattle.fixed_geom.specs.declared.vectors.Vec2.{Vec2}
use Rattle.momenta.specs.Motions.{IsMass}
use Rattle.momenta.proofs.Standing.{standing_at, within_more}
use Rattle.momenta.proofs.state.BodyState.velocity_at.Goals as goal

roomy : (mass : ℤ) (p : Vec2) → pos 1 ≤ℤ mass → IsWithin (2 ^ 60) p → IsWithin (2 ^ 60 * unsigned_abs mass) p
roomy mass p h k =
    let some : 1 ≤ unsigned_abs mass = omega (arith, ints) in
    record { x = omega (arith, k.x, some); y = omega (arith, k.y, some) }

pub carried_back-requires-clause-v : goal.carried_back-requires-clause-v
carried_back-requires-clause-v c =
    let mass : SFits w64 c.args.self.now.mass.mass = search rules in
    let x : SFits w64 c.velocity-v.result.x = search rules in
    let mover : IsMass c.args.self.now.mass = c.requires.state.mass in
    let slow = c.velocity-v.ensures.within (2 ^ 60) (simp to_z-of_z (roomy c.args.self.now.mass.mass c.args.self.now.motion.p mover.positive c.requires.state.motion.p)) in
    simp to_z-of_z slow.x

pub carried_on-requires-clause-v : goal.carried_on-requires-clause-v
carried_on-requires-clause-v c =
    let mass : SFits w64 c.args.self.now.mass.mass = search rules in
    let y : SFits w64 c.velocity-v.result.y = search rules in
    let mover : IsMass c.args.self.now.mass = c.requires.state.mass in
    let slow = c.velocity-v.ensures.within (2 ^ 60) (simp to_z-of_z (roomy c.args.self.now.mass.mass c.args.self.now.motion.p mover.positive c.requires.state.motion.p)) in
    simp to_z-of_z slow.y

pub returns-then-self-eq0-clause-value : goal.returns-then-self-eq0-clause-value
returns-then-self-eq0-clause-value c =
    let mass : SFits w64 c.args.self.now.mass.mass = search rules in
    let l : SFits w128 c.args.self.now.motion.l = search rules in
    let mover : IsMass c.args.self.now.mass = c.requires.state.mass in
    let none : c.args.self.now.motion.l ≡ pos 0 = sym (to_z-of_z w128 c.args.self.now.motion.l l) ∙ ap (to_z w128) c.if-self-eq0.true in
    (simp to_z-of_z at c.velocity-v.ensures.value) ∙ sym (standing_at c.args.r c.args.self.now none mover.nonnegative)

pub returns-then-self-eq0-clause-within : goal.returns-then-self-eq0-clause-within
returns-then-self-eq0-clause-within c =
    let mass : SFits w64 c.args.self.now.mass.mass = search rules in
    let mover : IsMass c.args.self.now.mass = c.requires.state.mass in
    within_more c.velocity-v.result (c.velocity-v.ensures.within (2 ^ 60) (simp to_z-of_z (roomy c.args.self.now.mass.mass c.args.self.now.motion.p mover.positive c.requires.state.motion.p)))

pub spin-w-requires-clause-nonnegative : goal.spin-w-requires-clause-nonnegative
spin-w-requires-clause-nonnegative c =
    let inertia : SFits w64 c.args.self.now.mass.inertia = search rules in
    let mover : IsMass c.args.self.now.mass = c.requires.state.mass in
    simp to_z-of_z mover.nonnegative
