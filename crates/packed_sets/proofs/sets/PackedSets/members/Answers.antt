use Rattle.std.proofs.Common.{◌≡◌, ◌<◌, ◌∙◌, sym, subst, map, length, get_or, List}
use Rattle.std.proofs.lemmas.Bool.{ltb-true}
use Rattle.std.specs.List.{Contains}
use Rattle.packed_sets.specs.Notes.{numbers_of}
use Rattle.packed_sets.specs.Packs.{list_at}
use Rattle.packed_sets.proofs.ViewLaws.{list_seen}
use Rattle.packed_sets.proofs.KeptLaws.{each_once, below_notes}
use Rattle.packed_sets.proofs.NumberLaws.{ids_once, number_in}
use Rattle.packed_sets.proofs.sets.PackedSets.members.Goals as goal

pub returns-in-Some-clause-once : goal.returns-in-Some-clause-once
returns-in-Some-clause-once g c = rw (← c.self.view_is) (ids_once g.I.ItemId.number (map (λ v. v.items) c.self.inside.lists.items) (each_once _ _ c.self.invariant))

pub returns-in-Some-clause-below : goal.returns-in-Some-clause-below
returns-in-Some-clause-below g c = λ id h.
    let n = g.I.ItemId.number in
    let lists : List (List g.row.I.Denot) = map (λ v. v.items) c.self.inside.lists.items in
    let within : c.args.set < length c.self.inside.lists.items = rw c.deref.ensures.value at (ltb-true _ _ (sym c.in-Some.ensures.lookup.0)) in
    let stands : c.in-Some.list.now ≡ get_or c.self.inside.lists.items c.args.set c.in-Some.list.now = rw c.deref.ensures.value at c.in-Some.ensures.lookup.1 in
    let seen : list_at lists c.args.set ≡ c.in-Some.list.now.items = list_seen c.self.inside.lists.items c.args.set c.in-Some.list.now within stands in
    let inside : Contains (list_at lists c.args.set) id = subst (λ (l : List g.row.I.Denot). Contains l id) (c.as_slice.ensures.value ∙ sym seen) h in
    rw (← c.self.view_is) (below_notes (numbers_of n lists) c.self.inside.spots.items c.args.set (n id) c.self.invariant (number_in n lists c.args.set id inside))

pub returns-in-None-clause-once : goal.returns-in-None-clause-once
returns-in-None-clause-once g c = rw (← c.self.view_is) (ids_once g.I.ItemId.number (map (λ v. v.items) c.self.inside.lists.items) (each_once _ _ c.self.invariant))
