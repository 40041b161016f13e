use Rattle.std.proofs.Common.{List, map, refl}
use Rattle.packed_sets.proofs.KeptLaws.{grown_kept}
use Rattle.packed_sets.proofs.NumberLaws.{numbers_same}
use Rattle.packed_sets.proofs.sets.PackedSets.add_set.Goals as goal

pub invariant_of-self : goal.invariant_of-self
invariant_of-self g c =
    let lists : List (List g.row.I.Denot) = map (λ v. v.items) c.self.inside.lists.items in
    grown_kept _ _ c.self.inside.spots.items c.self.inside.spots.items (numbers_same g.I.ItemId.number lists (map (λ v. v.items) c.add_list.new.lists.items) c.add_list.ensures.same) (λ x. refl) c.self.invariant
