use Rattle.std.proofs.Common.{◌≡◌, ◌≤◌, length, List, Option, ap, subst, sym, ◌∙◌, arith, refl}
use Rattle.body_handles.specs.declared.slot_table.TheConstants.{MAX_SLOTS}
use Rattle.momenta.specs.declared.state.BodyState.{BodyState}
use Rattle.islands.specs.Labels.{Labels}
use Rattle.colour_solver.specs.States.{carried_of, is_carried, movers_of, moves}
use Rattle.plain_world.specs.declared.body.Body.{Body}
use Rattle.plain_world.specs.Bodies.{AreBodies}
use Rattle.plain_world.specs.Sleep.{told}
use Rattle.plain_world.specs.InSlots.{HaveSameSlots}
use Rattle.world_core_base.specs.Gather.{states_of}
use Rattle.world_core_base.specs.Standing.{HaveSameStanding}
use Rattle.world_core_base.proofs.StandingLaws.{slots-told, standing-told}
use Rattle.world_core_base.proofs.GatherLaws.{length-states}
use Rattle.world_core_base.proofs.ListingLaws.{listed_alike, listed_exactly}
use Rattle.world_core_base.proofs.TellLaws.{carried_told, length-told, told_bodies}
use Rattle.world_core_base.proofs.MarkedLaws.{marked_eq, marked_told, told_all}
use Rattle.world_core_base.proofs.CoverLaws.{covered_alike, covered_eq}
use Rattle.world_core_base.proofs.body_table.BodyTable.tell.Goals as goal

pub tell_bodies-gain-requires-clause-bodies : goal.tell_bodies-gain-requires-clause-bodies
tell_bodies-gain-requires-clause-bodies c = rw (← c.self.view_is) at c.requires.bodies

same_long : (labels : Labels) (old now : List (Option Body)) (states : List BodyState) → now ≡ told labels old → states ≡ states_of now → length states ≡ length old
same_long labels old now states e f = ap length f ∙ length-states now ∙ ap length e ∙ length-told labels old

pub list_anew-requires-clause-few : goal.list_anew-requires-clause-few
list_anew-requires-clause-few c =
    let long = ap length c.deref.ensures.value ∙ same_long c.args.islands.now.labels c.self.inside.bodies.items c.tell_bodies-gain.new.bodies.items c.tell_bodies-gain.new.states.items c.tell_bodies-gain.ensures.bodies c.tell_bodies-gain.ensures.states in
    let few : length c.self.inside.bodies.items ≤ MAX_SLOTS = rw (← c.self.view_is) at c.requires.few in
    omega (arith, long, few)

pub list_anew-requires-clause-room : goal.list_anew-requires-clause-room
list_anew-requires-clause-room c =
    let long = ap length c.deref.ensures.value ∙ same_long c.args.islands.now.labels c.self.inside.bodies.items c.tell_bodies-gain.new.bodies.items c.tell_bodies-gain.new.states.items c.tell_bodies-gain.ensures.bodies c.tell_bodies-gain.ensures.states in
    omega (arith, long, c.self.invariant.for_awake)

pub invariant_of-self : goal.invariant_of-self
invariant_of-self c =
    let bodies = c.self.inside.bodies.items in
    let labels = c.args.islands.now.labels in
    let now = c.tell_bodies-gain.ensures.bodies in
    let same = ap length now ∙ length-told labels bodies in
    record {
      covered = covered_eq _ _ _ _ c.tell_bodies-gain.ensures.bodies refl (covered_alike bodies (told labels bodies) c.self.inside.boxes (told_all labels bodies) c.self.invariant.covered);
      for_boxes = omega (arith, same, c.self.invariant.for_boxes);
      states = c.tell_bodies-gain.ensures.states;
      movers = listed_exactly moves c.tell_bodies-gain.new.states.items c.list_anew.new.self refl (c.list_anew.ensures.slots ∙ ap movers_of c.deref.ensures.value);
      along = listed_alike is_carried c.self.inside.states.items c.tell_bodies-gain.new.states.items c.self.inside.carried refl (ap carried_of c.self.invariant.states ∙ sym (carried_told labels bodies) ∙ ap (λ (os : List (Option Body)). carried_of (states_of os)) (sym now) ∙ ap carried_of (sym c.tell_bodies-gain.ensures.states)) c.self.invariant.along;
      few = omega (arith, same, c.self.invariant.few);
      for_bodies = omega arith;
      for_states = omega arith;
      for_awake = omega (arith, same, c.self.invariant.for_awake, c.list_anew.ensures.capacity);
      for_marks = omega (arith, same, c.self.invariant.for_marks);
      for_carried = omega (arith, same, c.self.invariant.for_carried);
    }

pub returns-clause-all_bodies : goal.returns-clause-all_bodies
returns-clause-all_bodies c =
    let bodies : AreBodies c.self.inside.bodies.items = rw (← c.self.view_is) at c.requires.bodies in
    subst AreBodies (sym c.tell_bodies-gain.ensures.bodies) (told_bodies c.args.islands.now.labels c.self.inside.bodies.items bodies)

pub returns-clause-slots : goal.returns-clause-slots
returns-clause-slots c =
    let bodies = c.self.inside.bodies.items in
    rw (← c.self.view_is) (subst (HaveSameSlots bodies) (sym c.tell_bodies-gain.ensures.bodies) (slots-told c.args.islands.now.labels bodies))

pub returns-clause-standing : goal.returns-clause-standing
returns-clause-standing c =
    let bodies = c.self.inside.bodies.items in
    rw (← c.self.view_is) (subst (HaveSameStanding bodies) (sym c.tell_bodies-gain.ensures.bodies) (standing-told c.args.islands.now.labels bodies))

pub returns-clause-marked : goal.returns-clause-marked
returns-clause-marked c = rw (← c.self.view_is) (marked_eq _ _ _ _ _ _ c.tell_bodies-gain.ensures.bodies refl (marked_told c.args.islands.now.labels c.self.inside.bodies.items c.self.inside.marks))
