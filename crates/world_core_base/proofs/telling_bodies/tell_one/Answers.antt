use Rattle.std.proofs.Common.{◌≡◌, ◌<◌, ◌∙◌, ap, sym, get_or, arith, length}
use Rattle.std.proofs.lemmas.List.{get_or_default}
use Rattle.momenta.specs.declared.state.BodyState.{BodyState}
use Rattle.colour_solver.specs.States.{nobody}
use Rattle.world_core_base.proofs.GatherLaws.{length-states}
use Rattle.world_core_base.proofs.TellSomeLaws.{IsToldOne, body_there, told_here}
use Rattle.world_core_base.proofs.telling_bodies.tell_one.Goals as goal

pub tell_slot-gain-requires-clause-body : goal.tell_slot-gain-requires-clause-body
tell_slot-gain-requires-clause-body c = body_there c.args.bodies.now.items c.args.slot c.requires.bodies (omega (arith, c.if-place-len.false, c.len.ensures))

is_told : (c : goal.After-relist_changed) → IsToldOne c.args.label c.args.slot c.args.bodies.now.items c.tell_slot-gain.new.bodies.items c.tell_slot-gain.new.states.items c.relist_changed.new.self c.tell_slot-gain.result
is_told c =
    let there : c.args.slot < length c.args.bodies.now.items = omega (arith, c.if-place-len.false, c.len.ensures) in
    let long = ap length c.requires.states ∙ length-states c.args.bodies.now.items in
    let below : c.args.slot < length c.args.states.now.items = omega (arith, there, long) in
    let was : (get_or c.args.states.now.items c.args.slot nobody).movable ≡ c.index.result.now.movable = ap (λ (s : BodyState). s.movable) (get_or_default c.args.states.now.items c.args.slot nobody c.index.result.now below ∙ sym c.index.ensures) in
    told_here c.args.label c.args.slot c.args.bodies.now.items c.tell_slot-gain.new.bodies.items c.args.states.now.items c.tell_slot-gain.new.states.items c.args.awake.now c.relist_changed.new.self c.tell_slot-gain.result
    there c.requires.states c.requires.awake c.tell_slot-gain.ensures.bodies c.tell_slot-gain.ensures.states c.tell_slot-gain.ensures.x c.tell_slot-gain.ensures.y
    (λ same listed. (rw c.deref.ensures.value at c.relist_changed.ensures.listed) c.args.states.now.items same was listed)

pub returns-clause-states : goal.returns-clause-states
returns-clause-states c = (is_told c).states

pub returns-clause-awake : goal.returns-clause-awake
returns-clause-awake c = (is_told c).awake

pub returns-clause-momentum : goal.returns-clause-momentum
returns-clause-momentum c = (is_told c).momentum
