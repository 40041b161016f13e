use Rattle.loaded_text.proofs.Taken.{missing, taken}
use Rattle.loaded_text.proofs.text.Text.take.Goals as goal

pub returns-then-stands-clause-taken : goal.returns-then-stands-clause-taken
returns-then-stands-clause-taken c = taken c.args.self.now.rest.now c.args.bytes.now c.starts_with-stands.result c.starts_with-stands.ensures.value

pub returns-else-stands-clause-reads : goal.returns-else-stands-clause-reads
returns-else-stands-clause-reads c = λ tail is. absurd (missing c.args.self.now.rest.now c.args.bytes.now c.starts_with-stands.result c.starts_with-stands.ensures.value tail c.if-stands.false is)
