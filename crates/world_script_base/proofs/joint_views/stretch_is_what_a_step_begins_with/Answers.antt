use Rattle.world_script_base.proofs.JointLaws.{stretch_of_the_row}
use Rattle.world_script_base.proofs.joint_views.stretch_is_what_a_step_begins_with.Goals as goal

pub returns : goal.returns
returns c = stretch_of_the_row
