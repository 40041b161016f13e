use Rattle.std.proofs.Common.{arith}
use Rattle.std.proofs.lemmas.Int.{to_z-of_z}
use Rattle.std.specs.Int.{w64}
use Rattle.check_parts.proofs.contacts_scenes.point.Goals as goal

pub returns : goal.returns
returns c = record {
  normal = record { x = omega arith; y = omega arith };
  separation = omega arith;
  ra = record { x = rw (to_z-of_z w64 c.args.x c.ranges.x) c.requires.offset; y = omega arith };
  rb = record { x = rw (to_z-of_z w64 c.args.x c.ranges.x) c.requires.offset; y = omega arith };
  candidate = c.requires.candidate;
}
