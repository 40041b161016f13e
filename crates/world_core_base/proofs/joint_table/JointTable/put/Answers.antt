use Rattle.std.proofs.Common.{◌≡◌, ◌≤◌, None, length}
use Rattle.plain_world.specs.Joints.{joint_at}
use Rattle.world_core_base.specs.JointEnds.{AreNoted, ends_of}
use Rattle.world_core_base.proofs.JointEndLaws.{ends_put, first_absent, second_absent}
use Rattle.world_core_base.proofs.JointTableLaws.{few_with}
use Rattle.world_core_base.proofs.joint_table.JointTable.put.Goals as goal

pub note_ends-requires-clause-first : goal.note_ends-requires-clause-first
note_ends-requires-clause-first c =
    let joints = c.self.inside.joints.items in
    let free : joint_at joints c.args.slot ≡ None = rw (← c.self.view_is) at c.requires.free in
    first_absent joints c.self.inside.ends.sets c.args.slot c.self.invariant.ends free

pub note_ends-requires-clause-second : goal.note_ends-requires-clause-second
note_ends-requires-clause-second c =
    let joints = c.self.inside.joints.items in
    let free : joint_at joints c.args.slot ≡ None = rw (← c.self.view_is) at c.requires.free in
    second_absent joints c.self.inside.ends.sets c.args.slot c.self.invariant.ends free

pub invariant_of-self : goal.invariant_of-self
invariant_of-self c =
    let joints = c.self.inside.joints.items in
    let next : c.args.slot ≤ length joints = rw (← c.self.view_is) at c.requires.next in
    let noted : AreNoted c.self.inside.ends.sets c.note_ends.new.sets.sets c.args.slot (ends_of c.args.joint) = rw (← c.ends_of.ensures) c.note_ends.ensures in
    record {
      few = rw c.put_item.ensures.items (few_with joints c.args.slot c.args.joint c.self.invariant.few c.requires.few next);
      ends = rw c.put_item.ensures.items (ends_put joints c.self.inside.ends.sets c.note_ends.new.sets.sets c.args.slot c.args.joint next c.self.invariant.ends noted);
      ready = tt;
    }
