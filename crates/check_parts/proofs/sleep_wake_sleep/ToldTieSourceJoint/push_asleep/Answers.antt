use Rattle.std.proofs.Common.{Bool, ◌≡◌, ◌+◌, ◌<◌, ◌≤◌, ◌∷◌, ◌∙◌, drop, length, refl, vec_capacity, arith}
use Rattle.graph_colours.specs.declared.member.Member.{Member}
use Rattle.sleep_wake.specs.Sleeping.{name_at}
use Rattle.sleep_wake.specs.Sources.{is_asleep_under}
use Rattle.sleep_wake.proofs.SetLemmas.{front_is}
use Rattle.check_parts.proofs.ToldLaws.{picked_all, picked_more, picked_room}
use Rattle.check_parts.proofs.sleep_wake_sleep.ToldTieSourceJoint.push_asleep.Goals as goal

pub loop-place-init : goal.loop-place-init
loop-place-init c = record { picked = record { items = refl; room = c.requires.room }; capacity = omega arith }

pub put_some-requires : goal.put_some-requires
put_some-requires c = λ there.
    let ties = c.args.self.now.ties.items in
    let p = is_asleep_under (name_at c.args.self.now.sets.acting.labels) c.args.name in
    let x = c.index-joint.result.now in
    let rest = drop (c.loop-place.place + 1) ties in
    let lt : c.loop-place.place < length ties = omega (arith, c.loop-place-test.true, c.len-place-end.ensures) in
    let front : drop c.loop-place.place ties ≡ x ∷ rest = front_is ties c.loop-place.place x lt c.index-joint.ensures in
    let few = picked_room p x (drop c.loop-place.place ties) rest _ _ c.loop-place.list.items (vec_capacity c.args.list.now) c.joint_if.result front c.loop-place.invariant.picked (rw c.is_asleep_under.ensures at c.joint_if.ensures) there in
    omega (arith, few, c.loop-place.invariant.capacity, c.loop-place.list.ok.0)

pub loop-place-preserved : goal.loop-place-preserved
loop-place-preserved c =
    let ties = c.args.self.now.ties.items in
    let p = is_asleep_under (name_at c.args.self.now.sets.acting.labels) c.args.name in
    let x = c.index-joint.result.now in
    let rest = drop (c.loop-place.place + 1) ties in
    let lt : c.loop-place.place < length ties = omega (arith, c.loop-place-test.true, c.len-place-end.ensures) in
    let front : drop c.loop-place.place ties ≡ x ∷ rest = front_is ties c.loop-place.place x lt c.index-joint.ensures in
    record {
      picked = picked_more p x (drop c.loop-place.place ties) rest _ _ c.loop-place.list.items c.put_some.new.items.items (vec_capacity c.args.list.now) c.joint_if.result front c.loop-place.invariant.picked (rw c.is_asleep_under.ensures at c.joint_if.ensures) c.put_some.ensures.items;
      capacity = omega (arith, c.loop-place.invariant.capacity, c.put_some.ensures.capacity);
    }

pub returns-clause-pushed : goal.returns-clause-pushed
returns-clause-pushed c =
    let ties = c.args.self.now.ties.items in
    let ended : length ties ≤ c.loop-place.place = omega (arith, c.loop-place-test.false, c.args.self.now.ties.ok.0) in
    picked_all (is_asleep_under (name_at c.args.self.now.sets.acting.labels) c.args.name) ties c.args.list.now.items c.loop-place.list.items c.loop-place.place (vec_capacity c.args.list.now) ended c.loop-place.invariant.picked
