use Rattle.contacts.proofs.HeldLaws.{nothing_is_pending}
use Rattle.contacts.proofs.make_pending.make_or_clear.Goals as goal

pub returns-then-is_err-clause-pending : goal.returns-then-is_err-clause-pending
returns-then-is_err-clause-pending g c = nothing_is_pending c.clear.new.self c.make_with_room-made.new.contacts c.clear.ensures.nothing c.know_ascending.ensures.contacts
