use Rattle.std.proofs.Common.{◌≡◌, drop, None}
use Rattle.world_file.specs.Fitting.{are_rising_after}
use Rattle.world_file.proofs.references.are_rising.Given as goal

abbrev pub invariant-loop-saved : goal.invariant-loop-saved
invariant-loop-saved l = are_rising_after l.last (drop l.saved-index l.contacts) ≡ are_rising_after None l.contacts
