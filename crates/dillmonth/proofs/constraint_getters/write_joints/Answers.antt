use Rattle.std.proofs.Common.{◌≡◌, ◌≤◌, ap, length, arith}
use Rattle.dillmonth.proofs.constraint_getters.write_joints.Goals as goal

pub write_ids-requires : goal.write_ids-requires
write_ids-requires c =
    let slots = c.know_sound.ensures.formed.joint_slots in
    let is : length c.joint_entries.result.now ≡ length c.args.world.now.plain.joint_entries = ap length c.joint_entries.ensures in
    omega (arith, slots.slots, slots.few, is)
