use Rattle.json.specs.Print.{escape_byte}
use Rattle.loaded_text.proofs.JointLaws.{free_holds}
use Rattle.loaded_text.proofs.joint_slots.read_free.Goals as goal

pub returns : goal.returns
unfolding escape_byte
returns c = free_holds c.in_ok-generation.generation _ _ _ _ c.in_ok-generation.ensures.positive c.in_ok-generation.ensures.most c.in_ok-expect.ensures.taken c.in_ok-generation.ensures.text c.in_ok-expect-2.ensures.taken
