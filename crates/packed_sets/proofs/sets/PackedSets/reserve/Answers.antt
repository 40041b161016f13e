use Rattle.std.proofs.Common.{List, map}
use Rattle.packed_sets.proofs.KeptLaws.{grown_kept}
use Rattle.packed_sets.proofs.NumberLaws.{numbers_same}
use Rattle.packed_sets.proofs.sets.PackedSets.reserve.Goals as goal

pub invariant_of-self-2 : goal.invariant_of-self-2
invariant_of-self-2 g c =
    let lists : List (List g.row.I.Denot) = map (λ v. v.items) c.self.inside.lists.items in
    let same = rw c.reserve.ensures.items at c.push_lists.ensures.same in
    grown_kept _ _ c.self.inside.spots.items c.grow_spots.new.spots.items (numbers_same g.I.ItemId.number lists (map (λ v. v.items) c.push_lists.new.lists.items) same) c.grow_spots.ensures.same c.self.invariant
