use Rattle.std.proofs.Common.{◌≡◌, ◌<◌, ℕ, List, Some, map, length, sym, ap, ◌∙◌, arith}
use Rattle.std.specs.Prelude.{slice_get}
use Rattle.std.proofs.lemmas.List.{length-map}
use Rattle.packed_sets.proofs.NumberLaws.{number_there}
use Rattle.packed_sets.proofs.SpotLaws.{noted_none, noted_next, noted_all}
use Rattle.packed_sets.proofs.spots.note_all.Goals as goal

pub loop-place-init : goal.loop-place-init
loop-place-init g c = noted_none (map g.I.ItemId.number c.args.list.now) c.args.set c.args.spots.now.items

pub loop-place-preserved : goal.loop-place-preserved
loop-place-preserved g c =
    let n = g.I.ItemId.number in
    let ids : List ℕ = map n c.args.list.now in
    let place = c.loop-place.place in
    let lt : place < length c.args.list.now = omega (arith, c.loop-place-test.true, c.loop-place.auto.place-end) in
    let here : slice_get ids place ≡ Some c.number.result = number_there n c.args.list.now place c.index-list-place.result lt c.index-list-place.is ∙ ap (λ (k : ℕ). Some k) (sym c.number.ensures) in
    noted_next ids c.args.set place c.args.spots.now.items c.loop-place.spots.items c.number.result c.loop-place.invariant here (c.requires.noted c.number.result place here) c.requires.once

pub returns : goal.returns
returns g c =
    let n = g.I.ItemId.number in
    let long : length (map n c.args.list.now) ≡ length c.args.list.now = length-map c.args.list.now n in
    noted_all (map n c.args.list.now) c.args.set c.loop-place.place c.args.spots.now.items c.loop-place.spots.items (omega (arith, long, c.loop-place-test.false, c.loop-place.auto.place-end)) c.loop-place.invariant

pub index_mut-requires : goal.index_mut-requires
index_mut-requires g c =
    let n = g.I.ItemId.number in
    let place = c.loop-place.place in
    let lt : place < length c.args.list.now = omega (arith, c.loop-place-test.true, c.loop-place.auto.place-end) in
    let here : slice_get (map n c.args.list.now) place ≡ Some c.number.result = number_there n c.args.list.now place c.index-list-place.result lt c.index-list-place.is ∙ ap (λ (k : ℕ). Some k) (sym c.number.ensures) in
    let below : c.number.result < length c.args.spots.now.items = c.requires.noted c.number.result place here in
    omega (arith, below, c.loop-place.invariant.long, c.loop-place.spots.ok.0)
