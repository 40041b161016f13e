use Rattle.crew.proofs.Mailboxes.{gives_at}
use Rattle.crew.proofs.post.Post.give.Goals as goal

pub try_push_as-requires-clause-rule : goal.try_push_as-requires-clause-rule
try_push_as-requires-clause-rule g c = gives_at _ _ _ _ _ c.loop.invariant.view
