use Rattle.loaded_text.proofs.world.saved_of.Goals as goal

pub returns : goal.returns
returns c = c.in_ok-read_all.ensures c.nothing_yet-saved.ensures
