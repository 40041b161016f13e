use Rattle.std.proofs.Common.{refl, sym}
use Rattle.world_file_base.specs.Texts.{handle_of_text}
use Rattle.world_file_base.proofs.Ids.{none_at, written_is_read}
use Rattle.world_file_base.proofs.reader.handle_in_text.Goals as goal

pub returns-in-Some : goal.returns-in-Some
returns-in-Some c =
    rw c.narrow.ensures.same (sym (written_is_read c.args.text.now c.in-Some.handle c.narrow.ensures.slot c.narrow.ensures.generation c.in-Some.ensures.read))

pub returns-in-None : goal.returns-in-None
returns-in-None c = none_at c.args.text.now (handle_of_text c.args.text.now) refl c.in-None.ensures.all
