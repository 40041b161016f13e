use Rattle.check_parts.proofs.SceneLaws.{one_contact}
use Rattle.check_parts.proofs.contacts_scenes.resting.Goals as goal

pub from_entries-requires : goal.from_entries-requires
from_entries-requires c = rw (c.in_ok-push.ensures.items, c.new-entries.ensures.items) (one_contact c.entry.result c.entry.ensures)
