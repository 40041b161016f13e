use denote.Param.Send.{sendable}
use Rattle.world_workers.proofs.CrossingLaws.{task_send}
use Rattle.world_workers.proofs.step_crew.StepCrew.start.Goals as goal

pub start-requires-send-W-Item : goal.start-requires-send-W-Item
start-requires-send-W-Item g c κs within = search (task_send, sendable) depth 40 fits 60000
