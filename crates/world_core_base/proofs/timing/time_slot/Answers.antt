use Rattle.std.proofs.Common.{◌∙◌, None, sym}
use Rattle.std.proofs.lemmas.List.{get_or_default}
use Rattle.world_core_base.proofs.timing.time_slot.Goals as goal

pub time_entry-requires-clause-body : goal.time_entry-requires-clause-body
time_entry-requires-clause-body c = λ x e. c.requires.body x (get_or_default c.args.bodies.now.items c.args.slot None c.index_mut.result.now c.requires.slot ∙ sym c.index_mut.ensures.value ∙ e)
