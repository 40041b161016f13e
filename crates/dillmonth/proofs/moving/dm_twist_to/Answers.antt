use Rattle.std.proofs.lemmas.Int.{to_z-of_z}
use Rattle.std.specs.Int.{w64}
use Rattle.dillmonth.proofs.TwistLaws.{twists_to_in}
use Rattle.dillmonth.proofs.moving.dm_twist_to.Goals as goal

pub returns-in-Some : goal.returns-in-Some
returns-in-Some c =
    twists_to_in _ _ _ _ _ _ _ _ _ _ c.handle_of.ensures (to_z-of_z w64 c.args.spin c.ranges.spin) c.in-Some.ensures.out c.deref_mut.ensures.value c.put.ensures
    c.twist_body_to-status.ensures
