use Rattle.std.proofs.Common.{rules, to_z-of_z}
use Rattle.std.specs.Int.{w64}
use mir.Val.{SFits}
use Rattle.json.specs.Print.{escape_byte}
use Rattle.loaded_text.proofs.Back.{colour_is}
use Rattle.loaded_text.proofs.JointLaws.{joint_holds}
use Rattle.loaded_text.proofs.joints.read_joint.Goals as goal

pub returns : goal.returns
unfolding escape_byte
returns c =
    let first : SFits w64 c.in_ok-length.length = search rules in
    let second : SFits w64 c.in_ok-impulse.impulse = search rules in
    rw c.joint_with.ensures (simp to_z-of_z (joint_holds c.args.lead.now c.in_ok-a.a c.in_ok-b.b c.in_ok-collide.collide c.in_ok-colour.colour (record { from = c.in_ok-from.from; to = c.in_ok-to.to; length = c.in_ok-length.length; impulse = c.in_ok-impulse.impulse }) _ _ _ _ _ _ _ _ _ _ _ _
    (record {
      a_slot = c.in_ok-a.ensures.slot;
      a_generation = c.in_ok-a.ensures.generation;
      b_slot = c.in_ok-b.ensures.slot;
      b_generation = c.in_ok-b.ensures.generation;
      colour_is = colour_is c.in_ok-colour.colour c.in_ok-colour.ensures.low;
      joint = record {
        from = rw c.unsigned_abs.ensures.value at c.in_ok-from.ensures.within;
        to = rw c.unsigned_abs-4.ensures.value at c.in_ok-to.ensures.within;
        nonnegative = c.in_ok-length.ensures.nonnegative;
        length = rw c.unsigned_abs-3.ensures.value at c.in_ok-length.ensures.size;
        impulse = rw c.unsigned_abs-2.ensures.value at c.in_ok-impulse.ensures.size;
      };
    })
    c.in_ok-expect.ensures.taken c.in_ok-expect-2.ensures.taken c.in_ok-a.ensures.text c.in_ok-b.ensures.text c.in_ok-collide.ensures c.in_ok-colour.ensures.text c.in_ok-from.ensures.text c.in_ok-impulse.ensures.text c.in_ok-length.ensures.text c.in_ok-to.ensures.text c.in_ok-expect-3.ensures.taken))
