use Rattle.std.proofs.Common.{◌≡◌, ◌++◌, drop, take, ◌∙◌, arith}
use Rattle.std.proofs.lemmas.Grind.{common_steps}
use Rattle.graph_colours.specs.Edits.{all_edited}
use Rattle.graph_colours.proofs.EditLemmas.{from_start}
use Rattle.graph_colours.proofs.edits.edit_from.Goals as goal

pub returns-clause-items : goal.returns-clause-items
returns-clause-items g c =
    let ms = c.args.list.now.items in
    let es = c.args.edits.now in
    let passed : c.pass.new.list.items ≡ take c.args.start ms ++ all_edited g.C.ConstraintId.number es (drop c.args.start ms) = grind (arith, common_steps) in
    passed ∙ from_start g.C.ConstraintId.number es ms c.args.start c.requires.below
