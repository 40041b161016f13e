use Rattle.crew.proofs.Mailboxes.{asks_at}
use Rattle.crew.proofs.post.Post.ask.Goals as goal

pub try_push_as-requires-clause-rule : goal.try_push_as-requires-clause-rule
try_push_as-requires-clause-rule g c = asks_at _ _ _ _ _ c.loop.invariant.view
