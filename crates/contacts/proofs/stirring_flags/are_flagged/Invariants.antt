use Rattle.std.proofs.Common.{◌≡◌, ℕ, take, true}
use Rattle.std.specs.Prelude.{All}
use Rattle.contacts.specs.Stirring.{is_flagged}
use Rattle.contacts.proofs.stirring_flags.are_flagged.Given as goal

abbrev pub invariant-loop-place : goal.invariant-loop-place
invariant-loop-place l = All (λ (slot : ℕ). is_flagged l.flags slot ≡ true) (take l.place l.slots)
