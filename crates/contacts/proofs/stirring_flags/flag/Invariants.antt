use Rattle.contacts.specs.Stirring.{AreFlagsListed}
use Rattle.contacts.proofs.stirring_flags.flag.Given as goal

abbrev pub invariant-loop-place : goal.invariant-loop-place
invariant-loop-place l = AreFlagsListed l.flags.items l.flagged.items
