use Rattle.loaded_text.proofs.Parts.{id_stands}
use Rattle.loaded_text.proofs.names.read_handle.Goals as goal

pub returns : goal.returns
returns c = record {
  text = id_stands c.args.lead.now (record { slot = c.in_ok-slot.slot; generation = c.in_ok-generation.generation }) _ _ _ _ _ c.in_ok-slot.ensures.small c.in_ok-generation.ensures.small c.in_ok-expect.ensures.taken c.in_ok-slot.ensures.text c.in_ok-generation.ensures.text c.in_ok-expect-2.ensures.taken;
  slot = c.in_ok-slot.ensures.small;
  generation = c.in_ok-generation.ensures.small;
}
