use Rattle.std.proofs.Common.{◌≡◌, ℕ, ap, subst, arith, rules, length}
use Rattle.world_core_base.specs.JointEnds.{HasRoomFor}
use Rattle.world_core_base.proofs.JointEndLaws.{ends_in_same}
use Rattle.world_core_base.proofs.joint_table.JointTable.reserve_for.Goals as goal

pub invariant_of-self : goal.invariant_of-self
invariant_of-self c = rw c.reserve.ensures.items (record { few = c.self.invariant.few; ends = c.self.invariant.ends; ready = tt })

pub invariant_of-self-in_err-reserve_ends : goal.invariant_of-self-in_err-reserve_ends
invariant_of-self-in_err-reserve_ends c =
    let ends = ends_in_same c.self.inside.joints.items c.self.inside.ends.sets c.reserve_ends.new.sets.sets c.reserve_ends.ensures.sets c.self.invariant.ends in
    rw c.reserve.ensures.items (record { few = c.self.invariant.few; ends = ends; ready = tt })

pub invariant_of-self-2 : goal.invariant_of-self-2
invariant_of-self-2 c =
    let ends = ends_in_same c.self.inside.joints.items c.self.inside.ends.sets c.reserve_ends.new.sets.sets c.reserve_ends.ensures.sets c.self.invariant.ends in
    let same : length c.reserve.new.self.items ≡ length c.self.inside.joints.items = ap length c.reserve.ensures.items in
    let long : c.len.result ≡ length c.self.inside.joints.items = omega (arith, c.len.ensures, same) in
    let made : HasRoomFor c.ends_of-ends.result (length c.self.inside.joints.items) c.reserve_ends.new.sets = subst (λ (n : ℕ). HasRoomFor c.ends_of-ends.result n c.reserve_ends.new.sets) long c.in_ok-reserve_ends.ensures.made in
    rw c.reserve.ensures.items (record { few = c.self.invariant.few; ends = ends; ready = record { for_joints = search rules; for_ends = made } })
