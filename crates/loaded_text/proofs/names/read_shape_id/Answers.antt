use Rattle.world_file_base.specs.Written.{natural}
use Rattle.loaded_text.proofs.Joined.{pair_stands}
use Rattle.loaded_text.proofs.names.read_shape_id.Goals as goal

pub returns : goal.returns
returns c = record {
  text = pair_stands c.args.lead.now (natural c.in_ok-slot.slot) (natural c.in_ok-index.index) _ _ _ _ _ c.in_ok-expect.ensures.taken c.in_ok-slot.ensures.text c.in_ok-index.ensures.text c.in_ok-expect-2.ensures.taken;
  slot = c.in_ok-slot.ensures.small;
  index = c.in_ok-index.ensures.small;
}
