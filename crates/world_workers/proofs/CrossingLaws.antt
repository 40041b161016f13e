-- A task may go to another thread, as each of its parts may: one search for all of them would come to its limit.
use denote.Param.Send.{IsSend, IsSync, sendable}
use Rattle.std.proofs.Crossing.{crosses}
use Rattle.contacts.specs.contracts.pair_pieces.PairLists as PairLists
use Rattle.contacts.specs.contracts.pair_pieces.PairPiece as PairPiece
use Rattle.contacts.specs.contracts.survey_pieces.Survey as Survey
use Rattle.contacts.specs.contracts.survey_pieces.SurveyPiece as SurveyPiece
use Rattle.part_solver.proofs.CrossingLaws.{seat_send}
use Rattle.world_core.proofs.CrossingLaws.{shapes_send, shapes_sync}
use Rattle.world_core_base.proofs.CrossingLaws.{joints_send, joints_sync, split_send, split_sync}
use Rattle.world_core.specs.contracts.collide.BodyShapes as BodyShapes
use Rattle.world_core.specs.contracts.collide.BodyShapesShapesById.TheImpl as shapes
use Rattle.world_core_base.specs.contracts.joint_table.JointTable as JointTable
use Rattle.world_core_base.specs.contracts.joint_table.JointTableForbiddenPairs.TheImpl as joints
use Rattle.world_workers.specs.contracts.tasks.Loan as Loan
use Rattle.world_workers.specs.contracts.tasks.Task as Task

lists_send : IsSend PairLists.the_row
lists_send = search (split_send, crosses, sendable) depth 60 fits 60000

lists_sync : IsSync PairLists.the_row
lists_sync = search (split_sync, crosses, sendable) depth 60 fits 60000

piece_send : IsSend PairPiece.the_row
piece_send = search (crosses, sendable) depth 60 fits 60000

pairs_send : IsSend (Loan.the_row PairLists.the_row PairPiece.the_row)
pairs_send = search (lists_send, lists_sync, piece_send, crosses, sendable) depth 60 fits 60000

survey_send : IsSend (Survey.the_row BodyShapes.the_row JointTable.the_row shapes.ghosts joints.ghosts)
survey_send = search (shapes_send, joints_send, split_send, crosses, sendable) depth 60 fits 60000

survey_sync : IsSync (Survey.the_row BodyShapes.the_row JointTable.the_row shapes.ghosts joints.ghosts)
survey_sync = search (shapes_sync, joints_sync, split_sync, crosses, sendable) depth 60 fits 60000

look_send : IsSend (SurveyPiece.the_row BodyShapes.the_row JointTable.the_row)
look_send = search (crosses, sendable) depth 60 fits 60000

looks_send : IsSend (Loan.the_row (Survey.the_row BodyShapes.the_row JointTable.the_row shapes.ghosts joints.ghosts) (SurveyPiece.the_row BodyShapes.the_row JointTable.the_row))
looks_send = search (survey_send, survey_sync, look_send, crosses, sendable) depth 60 fits 60000

pub task_send : IsSend Task.the_row
task_send = search (seat_send, pairs_send, looks_send, crosses, sendable) depth 60 fits 60000
