use Rattle.std.proofs.Common.{rules, ◌≡◌, ◌<◌, ℕ, List, None, Some, map, length, slice_set, ap, sym, ◌∙◌, arith}
use Rattle.std.specs.Prelude.{slice_get}
use Rattle.std.proofs.lemmas.Option.{slice_get_within}
use Rattle.packed_sets.specs.Packs.{list_at}
use Rattle.packed_sets.specs.Notes.{spot_of, numbers_of, renoted}
use Rattle.packed_sets.proofs.KeptLaws.{none_has, stands_in, within_sets, gone_kept, out_taken}
use Rattle.packed_sets.proofs.NumberLaws.{numbers_at, numbers_count, numbers_long, numbers_out, id_in, id_absent}
use Rattle.packed_sets.proofs.SpotLaws.{none_set}
use Rattle.packed_sets.proofs.ViewLaws.{seen_count}
use Rattle.packed_sets.proofs.packing.take_id.Goals as goal

pub take_out-requires-clause-set : goal.take_out-requires-clause-set
take_out-requires-clause-set g c =
    let n = g.I.ItemId.number in
    let spot = c.in-Some.spot in
    let at : spot_of c.args.spots.now.items c.number-number.result ≡ Some spot = search rules in
    let noted : spot_of c.args.spots.now.items (n c.args.id) ≡ Some spot = ap (λ (k : ℕ). spot_of c.args.spots.now.items k) (sym c.number-number.ensures) ∙ at in
    let lists : List (List g.row.I.Denot) = map (λ v. v.items) c.args.lists.now.items in
    let lt : spot.set < length (numbers_of n lists) = within_sets (numbers_of n lists) spot.set spot.place (n c.args.id) (c.requires.packed.there (n c.args.id) spot.set spot.place noted) in
    let all : length (numbers_of n lists) ≡ length lists = numbers_count n lists in
    let many : length lists ≡ length c.args.lists.now.items = seen_count c.args.lists.now.items in
    omega (arith, lt, all, many)

pub take_out-requires-clause-place : goal.take_out-requires-clause-place
take_out-requires-clause-place g c =
    let n = g.I.ItemId.number in
    let spot = c.in-Some.spot in
    let at : spot_of c.args.spots.now.items c.number-number.result ≡ Some spot = search rules in
    let noted : spot_of c.args.spots.now.items (n c.args.id) ≡ Some spot = ap (λ (k : ℕ). spot_of c.args.spots.now.items k) (sym c.number-number.ensures) ∙ at in
    let lists : List (List g.row.I.Denot) = map (λ v. v.items) c.args.lists.now.items in
    let lt : spot.place < length (list_at (numbers_of n lists) spot.set) = slice_get_within (list_at (numbers_of n lists) spot.set) spot.place (n c.args.id) (c.requires.packed.there (n c.args.id) spot.set spot.place noted) in
    let long : length (list_at (numbers_of n lists) spot.set) ≡ length (list_at lists spot.set) = numbers_long n lists spot.set in
    omega (arith, lt, long)

pub returns-in-Some-clause-kept : goal.returns-in-Some-clause-kept
returns-in-Some-clause-kept g c =
    let n = g.I.ItemId.number in
    let spot = c.in-Some.spot in
    let at : spot_of c.args.spots.now.items c.number-number.result ≡ Some spot = search rules in
    let noted : spot_of c.args.spots.now.items (n c.args.id) ≡ Some spot = ap (λ (k : ℕ). spot_of c.args.spots.now.items k) (sym c.number-number.ensures) ∙ at in
    let lists : List (List g.row.I.Denot) = map (λ v. v.items) c.args.lists.now.items in
    let new : List (List g.row.I.Denot) = map (λ v. v.items) c.take_out.new.lists.items in
    let between = c.take_out.new.spots.items in
    let renumbered : between ≡ renoted (slice_get (list_at (numbers_of n new) spot.set) spot.place) spot c.args.spots.now.items = c.take_out.ensures.spots ∙ ap (λ (l : List ℕ). renoted (slice_get l spot.place) spot c.args.spots.now.items) (sym (numbers_at n new spot.set)) in
    gone_kept (numbers_of n lists) (numbers_of n new) c.args.spots.now.items between _ (n c.args.id) (n c.take_out.result) spot c.requires noted (numbers_out n lists new spot c.take_out.result c.take_out.ensures.out) renumbered
    (ap (λ (k : ℕ). slice_set between k None) c.number-number.ensures)

pub returns-in-Some-clause-taken : goal.returns-in-Some-clause-taken
returns-in-Some-clause-taken g c = λ set h.
    let n = g.I.ItemId.number in
    let spot = c.in-Some.spot in
    let at : spot_of c.args.spots.now.items c.number-number.result ≡ Some spot = search rules in
    let noted : spot_of c.args.spots.now.items (n c.args.id) ≡ Some spot = ap (λ (k : ℕ). spot_of c.args.spots.now.items k) (sym c.number-number.ensures) ∙ at in
    let lists : List (List g.row.I.Denot) = map (λ v. v.items) c.args.lists.now.items in
    out_taken n g.met.I.ItemId.known lists _ c.args.spots.now.items set c.args.id c.take_out.result spot c.requires noted c.take_out.ensures.out h

pub returns-in-Some-clause-absent : goal.returns-in-Some-clause-absent
returns-in-Some-clause-absent g c = λ absent.
    let n = g.I.ItemId.number in
    let spot = c.in-Some.spot in
    let at : spot_of c.args.spots.now.items c.number-number.result ≡ Some spot = search rules in
    let noted : spot_of c.args.spots.now.items (n c.args.id) ≡ Some spot = ap (λ (k : ℕ). spot_of c.args.spots.now.items k) (sym c.number-number.ensures) ∙ at in
    let lists : List (List g.row.I.Denot) = map (λ v. v.items) c.args.lists.now.items in
    absurd (absent spot.set (id_in n g.met.I.ItemId.known lists spot.set c.args.id (stands_in (numbers_of n lists) c.args.spots.now.items (n c.args.id) spot c.requires noted)))

pub returns-in-Some-clause-gone : goal.returns-in-Some-clause-gone
returns-in-Some-clause-gone g c =
    let n = g.I.ItemId.number in
    let new : List (List g.row.I.Denot) = map (λ v. v.items) c.take_out.new.lists.items in
    let between = c.take_out.new.spots.items in
    let none : spot_of (slice_set between c.number-number.result None) (n c.args.id) ≡ None = ap (λ (k : ℕ). spot_of (slice_set between k None) (n c.args.id)) c.number-number.ensures ∙ none_set between (n c.args.id) in
    id_absent n new c.args.id (none_has (numbers_of n new) (slice_set between c.number-number.result None) (n c.args.id) (returns-in-Some-clause-kept g c) none)

pub returns-in-Some-clause-long : goal.returns-in-Some-clause-long
returns-in-Some-clause-long g c = c.take_out.ensures.out.long

pub returns-in_default-clause-gone : goal.returns-in_default-clause-gone
returns-in_default-clause-gone g c =
    let n = g.I.ItemId.number in
    let lists : List (List g.row.I.Denot) = map (λ v. v.items) c.args.lists.now.items in
    let at : spot_of c.args.spots.now.items c.number-number.result ≡ None = rw c.deref.ensures.value at (sym c.spot_of.ensures ∙ c.in_default.is) in
    let free : spot_of c.args.spots.now.items (n c.args.id) ≡ None = ap (λ (k : ℕ). spot_of c.args.spots.now.items k) (sym c.number-number.ensures) ∙ at in
    id_absent n lists c.args.id (none_has (numbers_of n lists) c.args.spots.now.items (n c.args.id) c.requires free)

pub returns-in_default-clause-taken : goal.returns-in_default-clause-taken
returns-in_default-clause-taken g c = λ set h. absurd (returns-in_default-clause-gone g c set h)
