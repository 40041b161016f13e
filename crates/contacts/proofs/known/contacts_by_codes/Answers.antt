use Rattle.contacts.proofs.ByPairsLaws.{contacts_by_codes-holds}
use Rattle.contacts.proofs.known.contacts_by_codes.Goals as goal

pub returns : goal.returns
returns c = contacts_by_codes-holds
