use Rattle.std.proofs.Common.{◌*◌, ◌-◌, ◌≤◌, ◌<◌, ◌^◌}
use Rattle.fixed_geom.proofs.roots.raised_64.Given as goal

abbrev pub invariant-loop-x : goal.invariant-loop-x
invariant-loop-x l = record { below : l.x * l.x ≤ l.a; small : l.x < 2 ^ 32 }

abbrev pub decreases-loop-x : goal.decreases-loop-x
decreases-loop-x l = 2 ^ 32 - l.x
