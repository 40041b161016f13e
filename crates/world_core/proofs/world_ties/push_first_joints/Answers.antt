use Rattle.std.proofs.Common.{get_or, ◌≡◌, ◌∷◌, ◌+◌, ℕ, Option, refl, arith, drop, vec_capacity}
use Rattle.std.specs.Prelude.{◌/◌}
use Rattle.std.specs.List.{filter_map}
use Rattle.std.proofs.lemmas.List.{drop_more}
use Rattle.plain_world.specs.declared.constraint.Constraint.{Constraint}
use Rattle.graph_colours.specs.declared.member.Member.{Member}
use Rattle.sleep_wake.specs.Sources.{first_ties}
use Rattle.solver_sets.specs.Ties.{slots_of}
use Rattle.world_core.specs.WorldTies.{all_joint_ties, if_first, joint_tie_in}
use Rattle.world_core.proofs.PushLaws.{adding_all, adding_more, adding_room, room_by, told_by}
use Rattle.world_core.proofs.WorldTieLaws.{first_joints_at}
use Rattle.world_core.proofs.world_ties.push_first_joints.Goals as goal

pub loop-place-init : goal.loop-place-init
loop-place-init c = record {
  adding = record { items = refl; room = room_by c.args.list.now.items (first_ties c.args.slot (all_joint_ties c.args.bodies.now (slots_of c.args.joint_entries.now c.args.joints.now.joints))) (filter_map (λ id. if_first c.args.slot (joint_tie_in c.args.bodies.now (slots_of c.args.joint_entries.now c.args.joints.now.joints) (id / 2))) c.ends-ends.result.now) (vec_capacity c.args.list.now) (first_joints_at c.args.bodies.now (slots_of c.args.joint_entries.now c.args.joints.now.joints) c.args.slot c.ends-ends.result.now c.requires.slots (c.ends-ends.ensures.once c.requires.joined) c.ends-ends.ensures.all) c.requires.room };
  capacity = omega arith;
}

pub put_some-requires : goal.put_some-requires
put_some-requires c = λ there.
    let ends = c.ends-ends.result.now in
    let at : ℕ → Option (Member Constraint) = λ id. if_first c.args.slot (joint_tie_in c.args.bodies.now (slots_of c.args.joint_entries.now c.args.joints.now.joints) (id / 2)) in
    let id = get_or ends c.loop-place.place 0 in
    let back = drop (c.loop-place.place + 1) ends in
    let front : drop c.loop-place.place ends ≡ id ∷ back = drop_more ends c.loop-place.place 0 c.loop-place-test.true in
    let is : c.if_first.result ≡ at id = rw (c.joint_tie_in.ensures, c.joints.ensures) at c.if_first.ensures in
    let few = adding_room at id (drop c.loop-place.place ends) back c.args.list.now.items (filter_map at ends) c.loop-place.list.items (vec_capacity c.args.list.now) c.if_first.result front c.loop-place.invariant.adding is there in
    omega (arith, few, c.loop-place.invariant.capacity, c.loop-place.list.ok.0)

pub loop-place-preserved : goal.loop-place-preserved
loop-place-preserved c =
    let ends = c.ends-ends.result.now in
    let at : ℕ → Option (Member Constraint) = λ id. if_first c.args.slot (joint_tie_in c.args.bodies.now (slots_of c.args.joint_entries.now c.args.joints.now.joints) (id / 2)) in
    let id = get_or ends c.loop-place.place 0 in
    let back = drop (c.loop-place.place + 1) ends in
    let front : drop c.loop-place.place ends ≡ id ∷ back = drop_more ends c.loop-place.place 0 c.loop-place-test.true in
    let is : c.if_first.result ≡ at id = rw (c.joint_tie_in.ensures, c.joints.ensures) at c.if_first.ensures in
    record {
      adding = adding_more at id (drop c.loop-place.place ends) back c.args.list.now.items (filter_map at ends) c.loop-place.list.items c.put_some.new.items.items (vec_capacity c.args.list.now) c.if_first.result front c.loop-place.invariant.adding is c.put_some.ensures.items;
      capacity = omega (arith, c.loop-place.invariant.capacity, c.put_some.ensures.capacity);
    }

pub returns-clause-pushed : goal.returns-clause-pushed
returns-clause-pushed c =
    let ends = c.ends-ends.result.now in
    let at : ℕ → Option (Member Constraint) = λ id. if_first c.args.slot (joint_tie_in c.args.bodies.now (slots_of c.args.joint_entries.now c.args.joints.now.joints) (id / 2)) in
    told_by c.args.list.now.items (first_ties c.args.slot (all_joint_ties c.args.bodies.now (slots_of c.args.joint_entries.now c.args.joints.now.joints))) (filter_map at ends) c.loop-place.list.items (first_joints_at c.args.bodies.now (slots_of c.args.joint_entries.now c.args.joints.now.joints) c.args.slot c.ends-ends.result.now c.requires.slots (c.ends-ends.ensures.once c.requires.joined) c.ends-ends.ensures.all) (adding_all at ends c.loop-place.place c.args.list.now.items c.loop-place.list.items (vec_capacity c.args.list.now) c.loop-place-test.false c.loop-place.invariant.adding)
