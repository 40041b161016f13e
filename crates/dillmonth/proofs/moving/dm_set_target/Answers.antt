use Rattle.std.proofs.lemmas.Int.{to_z-of_z}
use Rattle.std.specs.Int.{w64}
use Rattle.dillmonth.proofs.TwistLaws.{steers_in}
use Rattle.dillmonth.proofs.moving.dm_set_target.Goals as goal

pub returns-in-Some : goal.returns-in-Some
returns-in-Some c =
    steers_in _ _ _ _ _ _ _ _ _ _ _ _ c.handle_of.ensures c.pose_of-to.ensures (to_z-of_z w64 c.args.ticks c.ranges.ticks) c.in-Some.ensures.out c.deref_mut.ensures.value c.put.ensures
    c.steer_body_to-status.ensures
