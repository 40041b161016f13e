use Rattle.std.proofs.Common.{◌≡◌, drop}
use Rattle.contacts_base.specs.Split.{over_at}
use Rattle.contacts_base.proofs.flags.CountedFlags.set_all.Given as goal

abbrev pub invariant-loop-place : goal.invariant-loop-place
invariant-loop-place l = over_at (drop l.place-index l.places) l.self ≡ over_at l.places l.fn.self
