use Rattle.std.proofs.Common.{◌≡◌, ◌+◌, drop, ap, ◌∙◌, arith}
use Rattle.std.proofs.lemmas.Grind.{common_steps}
use lib.Seq.{paste}
use Rattle.graph_colours.proofs.RemovalLemmas.{rest_stays}
use Rattle.graph_colours.proofs.removals.move_down.Goals as goal

pub returns-clause-rest : goal.returns-clause-rest
returns-clause-rest g c =
    let ms = c.args.list.now.items in
    let start = c.args.gap.start in
    let end = c.args.gap.end in
    let count = c.args.count in
    let moved : c.copy_within.new.self.items ≡ paste ms start (drop end ms) count = grind (arith, common_steps) in
    ap (λ l. drop (end + count) l) moved ∙ rest_stays ms start end count c.requires.ordered c.requires.within
