use Rattle.std.proofs.Common.{◌≡◌, ℕ, List, Some, Vec, Global, map, length, slice_set, ap, sym, ◌∙◌, arith}
use Rattle.std.specs.Prelude.{slice_get}
use Rattle.std.specs.List.{Contains}
use Rattle.std.proofs.lemmas.List.{length-set}
use Rattle.packed_sets.specs.Packs.{list_at}
use Rattle.packed_sets.specs.Notes.{numbers_of, renoted, IsOut}
use Rattle.packed_sets.proofs.KeptLaws.{below_notes, gone_stood}
use Rattle.packed_sets.proofs.ListLaws.{member_at}
use Rattle.packed_sets.proofs.NumberLaws.{numbers_at, numbers_out}
use Rattle.packed_sets.proofs.ViewLaws.{seen_out, room_kept, list_seen}
use Rattle.packed_sets.proofs.packing.take_out.Goals as goal

pub returns-clause-out : goal.returns-clause-out
returns-clause-out g c = seen_out c.args.lists.now.items c.args.spot c.swap_out-id.result c.index_mut.result.now c.swap_out-id.new.list c.requires.set c.index_mut.ensures.value c.swap_out-id.ensures.swapped

pub note_moved-requires : goal.note_moved-requires
note_moved-requires g c = λ id h.
    let n = g.I.ItemId.number in
    let spot = c.args.spot in
    let mid : List (Vec g.row.I.Denot Global) = slice_set c.args.lists.now.items spot.set c.swap_out-id.new.list in
    let old : List (List g.row.I.Denot) = map (λ v. v.items) c.args.lists.now.items in
    let new : List (List g.row.I.Denot) = map (λ v. v.items) mid in
    let long : length mid ≡ length c.args.lists.now.items = length-set c.args.lists.now.items spot.set c.swap_out-id.new.list in
    let seen : list_at new spot.set ≡ c.index.result.now.items = list_seen mid spot.set c.index.result.now (omega (arith, long, c.requires.set)) c.index.ensures in
    let moved : c.number_at-moved.result ≡ slice_get (map n (list_at new spot.set)) spot.place = c.number_at-moved.ensures ∙ ap (λ (l : List g.row.I.Denot). slice_get (map n l) spot.place) (c.as_slice.ensures.value ∙ sym seen) in
    let there : slice_get (list_at (numbers_of n new) spot.set) spot.place ≡ Some id = ap (λ (l : List ℕ). slice_get l spot.place) (numbers_at n new spot.set) ∙ sym moved ∙ h in
    let out : IsOut old new spot c.swap_out-id.result = seen_out c.args.lists.now.items spot c.swap_out-id.result c.index_mut.result.now c.swap_out-id.new.list c.requires.set c.index_mut.ensures.value c.swap_out-id.ensures.swapped in
    let stood : Contains (list_at (numbers_of n old) spot.set) id = gone_stood (numbers_of n old) (numbers_of n new) spot (n c.swap_out-id.result) (numbers_out n old new spot c.swap_out-id.result out) spot.set id (member_at (list_at (numbers_of n new) spot.set) spot.place id there) in
    below_notes (numbers_of n old) c.args.spots.now.items spot.set id c.requires.kept stood

pub returns-clause-spots : goal.returns-clause-spots
returns-clause-spots g c =
    let n = g.I.ItemId.number in
    let spot = c.args.spot in
    let mid : List (Vec g.row.I.Denot Global) = slice_set c.args.lists.now.items spot.set c.swap_out-id.new.list in
    let new : List (List g.row.I.Denot) = map (λ v. v.items) mid in
    let long : length mid ≡ length c.args.lists.now.items = length-set c.args.lists.now.items spot.set c.swap_out-id.new.list in
    let seen : list_at new spot.set ≡ c.index.result.now.items = list_seen mid spot.set c.index.result.now (omega (arith, long, c.requires.set)) c.index.ensures in
    let moved : c.number_at-moved.result ≡ slice_get (map n (list_at new spot.set)) spot.place = c.number_at-moved.ensures ∙ ap (λ (l : List g.row.I.Denot). slice_get (map n l) spot.place) (c.as_slice.ensures.value ∙ sym seen) in
    c.note_moved.ensures ∙ ap (λ o. renoted o spot c.args.spots.now.items) moved

pub returns-clause-capacities : goal.returns-clause-capacities
returns-clause-capacities g c = room_kept c.args.lists.now.items c.args.spot.set c.index_mut.result.now c.swap_out-id.new.list c.requires.set c.index_mut.ensures.value (omega (arith, c.swap_out-id.ensures.capacity))
