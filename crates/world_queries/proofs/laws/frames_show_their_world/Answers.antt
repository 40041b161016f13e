use Rattle.world_queries.proofs.ShownLaws.{all_shown}
use Rattle.world_queries.proofs.laws.frames_show_their_world.Goals as goal

pub returns : goal.returns
returns c = λ w. all_shown w.plain.slot_entries w.plain.bodies
