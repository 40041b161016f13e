use Rattle.std.proofs.Common.{rules, arith, to_z-of_z}
use Rattle.std.specs.Int.{w64}
use mir.Val.{SFits}
use Rattle.contacts_base.specs.declared.contact.ContactPoint.{ContactPoint}
use Rattle.json.specs.Print.{escape_byte}
use Rattle.world_file.proofs.ReadPoints.{IsPoint}
use Rattle.loaded_text.proofs.ContactLaws.{is_packable, point_holds}
use Rattle.loaded_text.proofs.points.read_point.Goals as goal

pub returns : goal.returns
unfolding escape_byte
returns c =
    let first : SFits w64 c.in_ok-push.push = search rules in
    let second : SFits w64 c.in_ok-separation.separation = search rules in
    let third : SFits w64 c.in_ok-slip.slip = search rules in
    let p : ContactPoint = record { normal = c.in_ok-normal.normal; separation = c.in_ok-separation.separation; ra = c.in_ok-ra.ra; rb = c.in_ok-rb.rb; normal_impulse = c.in_ok-push.push; tangent_impulse = c.in_ok-slip.slip; candidate = c.in_ok-candidate.candidate } in
    let fits : IsPoint p = record {
      point = record {
        normal = c.in_ok-normal.ensures.within;
        separation = c.in_ok-separation.ensures.size;
        ra = c.in_ok-ra.ensures.within;
        rb = c.in_ok-rb.ensures.within;
        normal_impulse_low = c.in_ok-push.ensures.nonnegative;
        normal_impulse_high = c.in_ok-push.ensures.size;
        tangent_impulse = c.in_ok-slip.ensures.size;
      };
      candidate = omega (arith, c.if-candidate-gt-LAST_CANDIDATE.false);
    } in
    record {
      text = simp to_z-of_z (point_holds p _ _ _ _ _ _ _ _ _ _ fits c.in_ok-expect.ensures.taken c.in_ok-candidate.ensures.text c.in_ok-normal.ensures.text c.in_ok-push.ensures.text c.in_ok-ra.ensures.text c.in_ok-rb.ensures.text c.in_ok-separation.ensures.text c.in_ok-slip.ensures.text c.in_ok-expect-2.ensures.taken);
      packable = simp to_z-of_z (is_packable p fits);
    }
