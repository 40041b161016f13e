use Rattle.std.proofs.Common.{◌++◌}
use Rattle.serde_json.specs.Written.{compact_text}
use Rattle.world_file_base.specs.Written.{natural_or_null}
use Rattle.loaded_text.proofs.Answered.{null_read}
use Rattle.loaded_text.proofs.text.Text.natural_or_null.Goals as goal

pub returns-then-take-clause-reads : goal.returns-then-take-clause-reads
returns-then-take-clause-reads c = λ o tail range ends is.
    null_read o c.expect.new.self.rest.now c.take.new.self.rest.now tail range (c.take.ensures.taken c.if-take.true) (c.in_ok-expect.ensures.reads (compact_text (natural_or_null o) ++ tail) is).1
