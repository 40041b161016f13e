use Rattle.std.proofs.Common.{◌∙◌, ap, ℕ, [], List, Vec, Global, map, vec_capacity}
use Rattle.packed_sets.proofs.ViewLaws.{swap_map}
use Rattle.packed_sets.proofs.packing.swap_list.Goals as goal

pub returns-clause-lists : goal.returns-clause-lists
returns-clause-lists g c =
    let f : Vec g.row.I.Denot Global → List g.row.I.Denot = λ v. v.items in
    ap (λ (l : List (Vec g.row.I.Denot Global)). map f l) c.swap_remove.ensures.items ∙ swap_map f c.args.lists.now.items c.args.place c.swap_remove.result [] c.requires

pub returns-clause-capacities : goal.returns-clause-capacities
returns-clause-capacities g c =
    let f : Vec g.row.I.Denot Global → ℕ = λ v. vec_capacity v in
    ap (λ (l : List (Vec g.row.I.Denot Global)). map f l) c.swap_remove.ensures.items ∙ swap_map f c.args.lists.now.items c.args.place c.swap_remove.result 0 c.requires
