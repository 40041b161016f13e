use Rattle.std.proofs.Common.{sym}
use Rattle.islands.proofs.islands.Islands.members.Goals as goal

pub returns-clause-members : goal.returns-clause-members
returns-clause-members c = rw (← c.self.view_is, sym c.deref.ensures.value, sym c.deref-2.ensures.value, sym c.deref-3.ensures.value) c.members_of.ensures.members
