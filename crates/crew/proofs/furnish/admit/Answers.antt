use Rattle.std.proofs.Common.{rules}
use Rattle.crew.proofs.Mailboxes.{hires_at}
use Rattle.crew.proofs.furnish.admit.Goals as goal

pub another-theirs-requires-clause-rule : goal.another-theirs-requires-clause-rule
another-theirs-requires-clause-rule g c = hires_at _ _ _ (search rules)
