use Rattle.std.proofs.Common.{◌≡◌, ◌++◌}
use Rattle.world_lock.proofs.shared.seats_of.Given as goal

abbrev pub invariant-loop-pass : goal.invariant-loop-pass
invariant-loop-pass g l = l.seats.items ++ l.pass-iterator.rest.items ≡ l.fn.passes.items
