use Rattle.std.proofs.Common.{◌≡◌, ◌<◌, ◌^◌, ℕ, List, map, length, ap, sym, subst, ◌∙◌, arith}
use Rattle.std.proofs.Math.Facts.{Fits-of_lt}
use Rattle.std.proofs.lemmas.List.{length-set}
use Rattle.packed_sets.specs.Packs.{list_at}
use Rattle.packed_sets.specs.Notes.{numbers_of}
use Rattle.packed_sets.proofs.KeptLaws.{place_fits, come_kept, put_is}
use Rattle.packed_sets.proofs.NumberLaws.{numbers_count, numbers_long, numbers_put, number_absent}
use Rattle.packed_sets.proofs.SpotLaws.{note_is}
use Rattle.packed_sets.proofs.ViewLaws.{list_seen, put_seen, room_kept, seen_count}
use Rattle.packed_sets.proofs.packing.put_in.Goals as goal

pub overflow_cast-place : goal.overflow_cast-place
overflow_cast-place g c =
    let n = g.I.ItemId.number in
    let lists : List (List g.row.I.Denot) = map (λ v. v.items) c.args.lists.now.items in
    let small : n c.args.id < 2 ^ 32 = subst (λ (k : ℕ). k < 2 ^ 32) c.number-number.ensures (omega arith) in
    let fits : length (list_at (numbers_of n lists) c.args.set) < 2 ^ 32 = place_fits (numbers_of n lists) c.args.spots.now.items c.args.set (n c.args.id) c.requires.kept (number_absent n g.met.I.ItemId.known lists c.args.id c.requires.absent) small in
    let long : length (list_at (numbers_of n lists) c.args.set) ≡ length (list_at lists c.args.set) = numbers_long n lists c.args.set in
    let seen : length (list_at lists c.args.set) ≡ length c.index.result.now.items = ap (λ (l : List g.row.I.Denot). length l) (list_seen c.args.lists.now.items c.args.set c.index.result.now c.requires.set c.index.ensures) in
    Fits-of_lt (omega (arith, fits, long, seen, c.len-place.ensures))

pub returns-clause-kept : goal.returns-clause-kept
returns-clause-kept g c =
    let n = g.I.ItemId.number in
    let lists : List (List g.row.I.Denot) = map (λ v. v.items) c.args.lists.now.items in
    let numbers : List (List ℕ) = numbers_of n lists in
    let small : n c.args.id < 2 ^ 32 = subst (λ (k : ℕ). k < 2 ^ 32) c.number-number.ensures (omega arith) in
    let many : length lists ≡ length c.args.lists.now.items = seen_count c.args.lists.now.items in
    let all : length numbers ≡ length lists = numbers_count n lists in
    let within : c.args.set < length numbers = omega (arith, all, many, c.requires.set) in
    let put = put_seen c.args.lists.now.items c.args.set c.args.id c.index_mut-2.result.now c.push_reserved.new.list c.requires.set c.index_mut-2.ensures.value c.push_reserved.ensures.items in
    let now = ap (λ (l : List (List g.row.I.Denot)). numbers_of n l) put ∙ numbers_put n lists c.args.set c.args.id in
    let long : length (list_at numbers c.args.set) ≡ length (list_at lists c.args.set) = numbers_long n lists c.args.set in
    let seen : length (list_at lists c.args.set) ≡ length c.index.result.now.items = ap (λ (l : List g.row.I.Denot). length l) (list_seen c.args.lists.now.items c.args.set c.index.result.now c.requires.set c.index.ensures) in
    let place : c.len-place.result ≡ length (list_at numbers c.args.set) = omega (arith, c.len-place.ensures, long, seen) in
    come_kept numbers _ c.args.spots.now.items _ c.args.set (n c.args.id) c.requires.kept within c.requires.noted small (number_absent n g.met.I.ItemId.known lists c.args.id c.requires.absent) now
    (note_is c.args.spots.now.items c.number-number.result (n c.args.id) c.args.set c.len-place.result (length (list_at numbers c.args.set)) c.number-number.ensures place)

pub returns-clause-put : goal.returns-clause-put
returns-clause-put g c =
    let lists : List (List g.row.I.Denot) = map (λ v. v.items) c.args.lists.now.items in
    let many : length lists ≡ length c.args.lists.now.items = seen_count c.args.lists.now.items in
    put_is lists _ c.args.set c.args.id (omega (arith, many, c.requires.set)) (put_seen c.args.lists.now.items c.args.set c.args.id c.index_mut-2.result.now c.push_reserved.new.list c.requires.set c.index_mut-2.ensures.value c.push_reserved.ensures.items)

pub returns-clause-long : goal.returns-clause-long
returns-clause-long g c = seen_count _ ∙ length-set c.args.lists.now.items c.args.set c.push_reserved.new.list ∙ sym (seen_count c.args.lists.now.items)

pub returns-clause-capacities : goal.returns-clause-capacities
returns-clause-capacities g c = room_kept c.args.lists.now.items c.args.set c.index_mut-2.result.now c.push_reserved.new.list c.requires.set c.index_mut-2.ensures.value c.push_reserved.ensures.capacity
