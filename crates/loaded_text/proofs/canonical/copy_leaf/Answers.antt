use Rattle.loaded_text.proofs.Copied.{leaf_copied}
use Rattle.loaded_text.proofs.Parts.{if_some}
use Rattle.loaded_text.proofs.canonical.copy_leaf.Goals as goal

pub returns : goal.returns
returns c = if_some c.copy_between.result (λ u copied. leaf_copied c.args.depth c.args.text.now.rest.now c.leaf.new.self.rest.now c.args.out.now.items c.copy_between.new.out.items c.in_ok-leaf.ensures copied) c.copy_between.ensures
