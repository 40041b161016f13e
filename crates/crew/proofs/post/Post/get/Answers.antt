use Rattle.crew.proofs.Mailboxes.{gets_at, busy_view}
use Rattle.crew.proofs.post.Post.get.Goals as goal

pub try_pop_as-requires-clause-rule : goal.try_pop_as-requires-clause-rule
try_pop_as-requires-clause-rule g c =
    let busy = busy_view _ c.requires.pass.1 c.requires.pass.2 in
    gets_at _ _ _ busy.0 busy.1
