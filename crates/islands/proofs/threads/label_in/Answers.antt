use Rattle.std.proofs.Common.{sym, ◌∙◌}
use Rattle.islands.proofs.PlacedLemmas.{led_by, led_short}
use Rattle.islands.proofs.threads.label_in.Goals as goal

pub bounds-heads-part : goal.bounds-heads-part
bounds-heads-part c = led_short c.args.notes.now c.args.heads.now c.in-Some.part c.requires.standing.packed (led_by c.args.node_entries.now c.args.notes.now c.args.heads.now c.args.slot c.in-Some.part c.requires.standing (sym c.part_of.ensures.part ∙ c.in-Some.is))
