use Rattle.world_file_base.specs.Written.{vector_of}
use Rattle.loaded_text.proofs.Joined.{pair_stands}
use Rattle.loaded_text.proofs.vectors.read_ends.Goals as goal

pub returns : goal.returns
returns c = record {
  text = pair_stands c.args.lead.now (vector_of c.in_ok-first.first) (vector_of c.in_ok-second.second) _ _ _ _ _ c.in_ok-expect.ensures.taken c.in_ok-first.ensures.text c.in_ok-second.ensures.text c.in_ok-expect-2.ensures.taken;
  first = c.in_ok-first.ensures.signed;
  second = c.in_ok-second.ensures.signed;
}
