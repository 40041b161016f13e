use Rattle.std.proofs.Common.{◌≡◌, ◌++◌, Option, add-one, arith, length, subst}
use Rattle.dillmonth.specs.Lists.{list_of, poses_up, written}
use Rattle.dillmonth.specs.declared.forms.CPose.{CPose}
use Rattle.dillmonth.proofs.ListLaws.{counted_next, few_next, written_next}
use Rattle.dillmonth.proofs.PoseLaws.{pose_here}
use Rattle.dillmonth.proofs.poses.write_poses.Goals as goal

pub loop-slot-preserved : goal.loop-slot-preserved
loop-slot-preserved c =
    let slot = c.loop-slot.slot in
    let here = c.pose_asked-pose.result in
    let so_far = poses_up c.args.moving c.args.slot_entries.now c.args.bodies.now slot in
    let low = c.loop-slot-test.true in
    let pose = pose_here c.args.moving c.args.slot_entries.now c.args.bodies.now slot c.index-bodies-slot.result _ here (omega (arith, low, c.requires.slots)) low c.index-bodies-slot.is c.pose_asked-pose.ensures in
    let known = c.loop-slot.invariant in
    let put = c.write_next-count.ensures in
    record {
      count = rw add-one (subst (λ (o : Option CPose). c.write_next-count.result ≡ length (so_far ++ list_of o)) pose (counted_next so_far c.loop-slot.count c.write_next-count.result here known.count put.count));
      few = few_next c.loop-slot.count c.write_next-count.result slot here put.count known.few;
      written = rw add-one (subst (λ (o : Option CPose). c.write_next-count.new.out ≡ written (so_far ++ list_of o) c.args.out.now) pose (written_next so_far c.args.out.now c.loop-slot.out c.write_next-count.new.out c.loop-slot.count here known.count known.written put.written));
    }
