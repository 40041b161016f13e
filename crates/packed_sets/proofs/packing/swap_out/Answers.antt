use Rattle.packed_sets.proofs.ListLaws.{swapped_out}
use Rattle.packed_sets.proofs.packing.swap_out.Goals as goal

pub returns-clause-swapped : goal.returns-clause-swapped
returns-clause-swapped g c = swapped_out c.args.list.now.items c.args.place c.swap_remove.result c.swap_remove.new.self.items c.requires c.swap_remove.ensures.value c.swap_remove.ensures.items
