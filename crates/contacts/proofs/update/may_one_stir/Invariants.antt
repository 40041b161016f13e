use Rattle.std.proofs.Common.{◌≡◌, false, take}
use Rattle.std.specs.Prelude.{All}
use Rattle.contacts_base.specs.ShortLists.{counted_in}
use Rattle.contacts.proofs.ShortLaws.{rank_in}
use Rattle.contacts.specs.Stirring.{one_flagged}
use Rattle.contacts.proofs.update.may_one_stir.Given as goal

abbrev pub invariant-loop-place : goal.invariant-loop-place
invariant-loop-place l = All (λ e. one_flagged l.flags e ≡ false) (take (rank_in l.place l.short) (counted_in l.short))
