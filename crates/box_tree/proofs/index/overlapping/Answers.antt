use Rattle.std.proofs.Common.{◌∙◌, rules, tests}
use Rattle.std.proofs.lemmas.Fn.{filter_same}
use Rattle.box_tree.specs.BoxLists.{is_over, box_at}
use Rattle.box_tree.proofs.IndexLemmas.{over_is_scan}
use Rattle.box_tree.proofs.index.overlapping.Goals as goal

pub returns : goal.returns
returns c = filter_same _ (λ k. is_over c.args.wanted.now (box_at c.args.boxes.now k)) _ (λ x b q k. search (rules, tests)) _ _ c.retain.ensures.filtered ∙ (rw c.in_ok-found.ensures (over_is_scan c.args.wanted.now _ c.args.entries.now c.args.boxes.now c.requires))
