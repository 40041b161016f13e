use Rattle.part_runs.proofs.MailLaws.{mail_sent}
use Rattle.part_runs.proofs.laws.mail_is_sent.Goals as goal

pub returns : goal.returns
returns c = mail_sent
