use Rattle.std.proofs.Common.{sym}
use Rattle.loaded_text.proofs.saved_shapes.read_shapes.Goals as goal

pub returns : goal.returns
returns c = rw (sym c.no_shapes-loaded.ensures) c.in_ok-add_shapes.ensures
