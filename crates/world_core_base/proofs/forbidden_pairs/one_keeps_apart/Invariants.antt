use Rattle.std.proofs.Common.{◌≡◌, false, take}
use Rattle.world_core_base.specs.ForbiddenPairs.{one_keeps_apart}
use Rattle.world_core_base.proofs.forbidden_pairs.one_keeps_apart.Given as goal

abbrev pub invariant-loop-place : goal.invariant-loop-place
invariant-loop-place l = one_keeps_apart l.joints l.a l.b (take l.place l.ends) ≡ false
