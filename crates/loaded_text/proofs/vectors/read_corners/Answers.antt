use Rattle.world_file_base.specs.Written.{vector_of}
use Rattle.loaded_text.proofs.Joined.{pair_stands}
use Rattle.loaded_text.proofs.vectors.read_corners.Goals as goal

pub returns : goal.returns
returns c = record {
  text = pair_stands c.args.lead.now (vector_of c.in_ok-lo.lo) (vector_of c.in_ok-hi.hi) _ _ _ _ _ c.in_ok-expect.ensures.taken c.in_ok-lo.ensures.text c.in_ok-hi.ensures.text c.in_ok-expect-2.ensures.taken;
  within = record { lo = c.in_ok-lo.ensures.within; hi = c.in_ok-hi.ensures.within };
}
