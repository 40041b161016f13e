use Rattle.std.proofs.Common.{◌≡◌, drop}
use Rattle.world_file.specs.Lone.{joined_by}
use Rattle.world_file.proofs.components.join_all.Given as goal

abbrev pub invariant-loop-tie : goal.invariant-loop-tie
invariant-loop-tie l = joined_by (drop l.tie-index l.ties) l.islands.labels ≡ joined_by l.ties l.fn.islands.labels
