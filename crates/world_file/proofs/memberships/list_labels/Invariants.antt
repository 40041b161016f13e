use Rattle.std.proofs.Common.{◌≡◌, ◌++◌, drop, map}
use Rattle.world_file.specs.Fitting.{label_of}
use Rattle.world_file.proofs.memberships.list_labels.Given as goal

abbrev pub invariant-loop-membership : goal.invariant-loop-membership
invariant-loop-membership l = l.labels.items ++ map label_of (drop l.membership-index l.memberships) ≡ map label_of l.memberships
