use Rattle.std.proofs.Common.{◌≡◌, ◌≤◌, ℕ, [], List, map, length, refl, sym, ap, ◌∙◌, arith, ltb-true, ltb-false}
use Rattle.std.proofs.lemmas.List.{length-map}
use Rattle.packed_sets.specs.Packs.{list_at}
use Rattle.packed_sets.specs.Notes.{numbers_of}
use Rattle.packed_sets.proofs.NumberLaws.{numbers_at, numbers_count}
use Rattle.packed_sets.proofs.ViewLaws.{seen_count}
use Rattle.packed_sets.proofs.DropLaws.{HasMoved, IsDropped, drop_kept, dropped_numbers, moved_below, moved_few, moved_in, moved_kept, moved_once}
use Rattle.packed_sets.proofs.packing.drop_list.Given
use Rattle.packed_sets.proofs.packing.drop_list.Goals as goal
use Rattle.packed_sets.proofs.packing.drop_list.Goals.{After-as_slice}

-- the list that has come into the set
moved : (g : Given.Over) (c : After-as_slice g) → HasMoved (numbers_of g.I.ItemId.number (map (λ v. v.items) c.args.lists.now.items)) (numbers_of g.I.ItemId.number (map (λ v. v.items) c.swap_list.new.lists.items)) (map g.I.ItemId.number c.as_slice.result.now) c.args.set
moved g c =
    let many : length (map (λ v. v.items) c.args.lists.now.items) ≡ length c.args.lists.now.items = seen_count c.args.lists.now.items in
    moved_in g.I.ItemId.number c.args.lists.now.items c.swap_list.new.lists.items c.args.set c.in-Some.list.now c.as_slice.result.now (omega (arith, many, c.requires.set)) c.swap_list.ensures.lists
    (rw c.deref.ensures.value at (ltb-true _ _ (sym c.in-Some.ensures.lookup.0))) (rw c.deref.ensures.value at c.in-Some.ensures.lookup.1) c.as_slice.ensures.value

pub note_all-requires-clause-noted : goal.note_all-requires-clause-noted
note_all-requires-clause-noted g c = λ id place h. moved_below _ _ c.args.spots.now.items _ c.args.set place id c.requires.kept (moved g c) h

pub note_all-requires-clause-once : goal.note_all-requires-clause-once
note_all-requires-clause-once g c = λ p q id h k. moved_once _ _ c.args.spots.now.items _ c.args.set p q id c.requires.kept (moved g c) h k

pub note_all-requires-clause-short : goal.note_all-requires-clause-short
note_all-requires-clause-short g c =
    let few = moved_few _ _ c.args.spots.now.items _ c.args.set c.requires.kept (moved g c) in
    let all : length (map g.I.ItemId.number c.as_slice.result.now) ≡ length c.as_slice.result.now = length-map c.as_slice.result.now g.I.ItemId.number in
    omega (arith, few, all)

pub returns-in-Some-clause-kept : goal.returns-in-Some-clause-kept
returns-in-Some-clause-kept g c =
    let old : List (List g.row.I.Denot) = map (λ v. v.items) c.args.lists.now.items in
    let many : length old ≡ length c.args.lists.now.items = seen_count c.args.lists.now.items in
    let empty : list_at (numbers_of g.I.ItemId.number old) c.args.set ≡ [] = numbers_at g.I.ItemId.number old c.args.set ∙ ap (λ (l : List g.row.I.Denot). map g.I.ItemId.number l) c.requires.empty in
    moved_kept _ _ c.args.spots.now.items _ _ c.args.set c.requires.kept empty (moved g ((goal.at.returns-in-Some-clause-kept g c).After-as_slice)) (omega (arith, numbers_count g.I.ItemId.number old, many, c.requires.set)) c.note_all.ensures

pub returns-in-Some-clause-noted : goal.returns-in-Some-clause-noted
returns-in-Some-clause-noted g c = c.note_all.ensures.long

pub returns-in_default-clause-kept : goal.returns-in_default-clause-kept
returns-in_default-clause-kept g c =
    let n = g.I.ItemId.number in
    let old : List (List g.row.I.Denot) = map (λ v. v.items) c.args.lists.now.items in
    let new : List (List g.row.I.Denot) = map (λ v. v.items) c.swap_list.new.lists.items in
    let spots = c.args.spots.now.items in
    let set = c.args.set in
    let many : length old ≡ length c.args.lists.now.items = seen_count c.args.lists.now.items in
    let dropped : IsDropped (numbers_of n old) (numbers_of n new) set = dropped_numbers n old new set (omega (arith, many, c.requires.set)) c.swap_list.ensures.lists in
    let last : ℕ = length (numbers_of n new) in
    let high : length c.swap_list.new.lists.items ≤ set = rw c.deref.ensures.value at (ltb-false _ _ (sym c.in_default.ensures.lookup.0)) in
    let beyond : last ≤ set = omega (arith, high, numbers_count n new, seen_count c.swap_list.new.lists.items) in
    let empty : list_at (numbers_of n old) set ≡ [] = numbers_at n old set ∙ ap (λ (l : List g.row.I.Denot). map n l) c.requires.empty in
    drop_kept (numbers_of n old) (numbers_of n new) spots spots set c.requires.kept empty dropped (omega (arith, numbers_count n old, many, c.requires.set)) (λ low. absurd (omega (arith, low, beyond))) (λ ge. refl)
