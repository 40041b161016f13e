use Rattle.part_runs.proofs.MailLaws.{letters_followed}
use Rattle.part_runs.proofs.laws.letters_follow.Goals as goal

pub returns : goal.returns
returns c = letters_followed
