use Rattle.crew.proofs.Mailboxes.{takes_at}
use Rattle.crew.proofs.post.Post.take.Goals as goal

pub try_pop_as-requires-clause-rule : goal.try_pop_as-requires-clause-rule
try_pop_as-requires-clause-rule g c = takes_at _ _ _ c.requires.pass.1
