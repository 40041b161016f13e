use Rattle.islands.specs.Packed.{by_slot}
use Rattle.islands.proofs.PartLemmas.{named_partition}
use Rattle.islands.proofs.islands.Islands.label_of.Goals as goal

pub returns-clause-partition : goal.returns-clause-partition
returns-clause-partition c = rw (← c.self.view_is) (named_partition (by_slot c.self.inside.node_entries.items c.self.inside.notes.items) c.self.inside.heads.items c.self.invariant.standing.named)
