use Rattle.world_core_base.proofs.CoverLaws.{either_way, grown_same, kept_same}
use Rattle.world_core_base.proofs.covers.allow.Goals as goal

pub returns-clause-same : goal.returns-clause-same
returns-clause-same c = either_way _ _ _ c.grow.result (grown_same c.args.boxes.now c.grow.new.self) (kept_same c.args.boxes.now c.grow.new.self) c.grow.ensures.grown c.grow.ensures.refused
