use Rattle.check_parts.proofs.SceneLaws.{pairs_left}
use Rattle.check_parts.proofs.contacts_numbers.drop_body.Goals as goal

pub returns : goal.returns
returns c = record { pairs = pairs_left c.args.slot c.args.contacts.now.contacts _ c.drop_of_body.ensures.contacts c.requires }
