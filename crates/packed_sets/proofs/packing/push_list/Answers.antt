use Rattle.std.proofs.Common.{◌≡◌, ◌++◌, ◌∷◌, [], arith, sym, subst, ap, ◌∙◌, List, Vec, Global, map, vec_capacity}
use Rattle.std.proofs.lemmas.Grind.{common_steps}
use Rattle.packed_sets.specs.Packs.{HaveAtLeast}
use Rattle.packed_sets.proofs.ViewLaws.{lists_more, rooms_more}
use Rattle.packed_sets.proofs.packing.push_list.Goals as goal

pub returns-clause-lists : goal.returns-clause-lists
returns-clause-lists g c =
    let pushed : c.push.new.self.items ≡ c.args.lists.now.items ++ c.new.result ∷ [] = grind (arith, common_steps) in
    ap (λ (l : List (Vec g.row.I.Denot Global)). map (λ v. v.items) l) pushed ∙ lists_more c.args.lists.now.items c.new.result c.new.ensures.items

pub returns-clause-capacities : goal.returns-clause-capacities
returns-clause-capacities g c =
    let pushed : c.push.new.self.items ≡ c.args.lists.now.items ++ c.new.result ∷ [] = grind (arith, common_steps) in
    let P : List (Vec g.row.I.Denot Global) → Type 0 = λ l. HaveAtLeast (map vec_capacity c.args.lists.now.items) (map vec_capacity l) in
    subst P (sym pushed) (rooms_more c.args.lists.now.items c.new.result)
