-- What becomes of the tasks of a step's crew.
use Rattle.std.specs.Prelude.{Option, None, Some}
use Rattle.contacts.specs.Fates.{moved_by}
use Rattle.contacts.specs.PairPieces.{evaluated}
use Rattle.contacts.specs.PairValues.{Evaluated}
use Rattle.contacts.specs.PieceRanges.{PieceRange, items_in}
use Rattle.contacts.specs.SurveyPieces.{looks_of}
use Rattle.contacts.specs.SurveyValues.{Looks}
use Rattle.contacts.specs.declared.survey_pieces.Survey.{Survey}
use Rattle.part_solver.specs.Parts.{Solved, solved}
use Rattle.plain_world.specs.Joints.{forbidden_pairs}
use Rattle.world_core_base.specs.Awake.{Bodies}
use Rattle.world_core_base.specs.JointTables.{Joints}
use Rattle.world_rules.specs.Collide.{proxies_of}
use Rattle.world_workers.specs.declared.tasks.Task.{Task}
use Rattle.world_workers.specs.declared.tasks.Task.TheVariants.{Seat, Pairs, Look}
use Rattle.world_workers.specs.declared.tasks.Done.{Done}
use Rattle.world_workers.specs.declared.tasks.Done.TheVariants.{Part, Pairs as PairsDone, Look as LookDone}

-- what a look over some places of a world's contacts finds
abbrev pub looked_by : {g h : _} → Survey Bodies Joints g h → PieceRange → Looks
looked_by lent r = looks_of (moved_by lent.shapes.marks) (forbidden_pairs lent.forbidden.joints) (proxies_of lent.shapes.bodies) lent.contacts (items_in lent.places.items r)

abbrev pub done_of : Task → Done
done_of (Seat seat) = Part (solved seat)
done_of (Pairs loan) = PairsDone (evaluated loan.0 loan.1)
done_of (Look loan) = LookDone (looked_by loan.0 loan.1)

-- ---- the answers of one kind

abbrev pub part_of : Done → Option Solved
part_of (Part part) = Some part
part_of (PairsDone pairs) = None
part_of (LookDone look) = None

abbrev pub pairs_of : Done → Option Evaluated
pairs_of (Part part) = None
pairs_of (PairsDone pairs) = Some pairs
pairs_of (LookDone look) = None

abbrev pub look_of : Done → Option Looks
look_of (Part part) = None
look_of (PairsDone pairs) = None
look_of (LookDone look) = Some look
