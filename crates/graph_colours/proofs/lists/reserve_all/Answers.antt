use Rattle.std.proofs.Common.{◌≡◌, ◌<◌, ◌≤◌, List, length, sym, ap, ◌∙◌, arith}
use Rattle.std.proofs.lemmas.List.{length-map}
use Rattle.std.proofs.lemmas.List.Elements.{AllWithin-more_set}
use Rattle.graph_colours.specs.declared.member.Member.{Member}
use Rattle.graph_colours.specs.Edits.{Pended}
use Rattle.graph_colours.proofs.StepLemmas.{map_kept, rooms_set, rest_set, rest_at}
use Rattle.graph_colours.proofs.lists.reserve_all.Goals as goal

pub returns-in_err-reserve-clause-kept : goal.returns-in_err-reserve-clause-kept
returns-in_err-reserve-clause-kept g c = λ room each.
    let f : Pended g.row.C.Denot → List (Member g.row.C.Denot) = λ l. l.items in
    let now = c.loop-place.lists.items in
    let old = c.args.lists.now.items in
    let n : length now ≡ length old = sym (length-map now f) ∙ ap length c.loop-place.invariant.0 ∙ length-map old f in
    let lt : c.loop-place.place < length now = omega (arith, n, c.loop-place-test.true, c.len-place-end.ensures, c.args.lists.now.ok.0) in
    rooms_set room now c.loop-place.place c.index_mut.result.now c.reserve.new.self lt c.index_mut.ensures.value c.reserve.ensures.capacity (c.loop-place.invariant.1 room each)

pub returns-in_err-reserve-clause-lists : goal.returns-in_err-reserve-clause-lists
returns-in_err-reserve-clause-lists g c =
    let f : Pended g.row.C.Denot → List (Member g.row.C.Denot) = λ l. l.items in
    map_kept f c.loop-place.lists.items c.loop-place.place c.reserve.new.self c.index_mut.result.now (c.reserve.ensures.items ∙ ap f c.index_mut.ensures.value) ∙ c.loop-place.invariant.0

pub returns-in_err-reserve-clause-rest : goal.returns-in_err-reserve-clause-rest
returns-in_err-reserve-clause-rest g c = λ each.
    let f : Pended g.row.C.Denot → List (Member g.row.C.Denot) = λ l. l.items in
    let now = c.loop-place.lists.items in
    let old = c.args.lists.now.items in
    let n : length now ≡ length old = sym (length-map now f) ∙ ap length c.loop-place.invariant.0 ∙ length-map old f in
    let lt : c.loop-place.place < length now = omega (arith, n, c.loop-place-test.true, c.len-place-end.ensures, c.args.lists.now.ok.0) in
    rest_set now c.loop-place.place c.reserve.new.self (c.reserve.ensures.pending ∙ rest_at now c.loop-place.place c.index_mut.result.now lt c.index_mut.ensures.value (c.loop-place.invariant.3 each)) (c.loop-place.invariant.3 each)

pub loop-place-preserved : goal.loop-place-preserved
loop-place-preserved g c =
    let f : Pended g.row.C.Denot → List (Member g.row.C.Denot) = λ l. l.items in
    let now = c.loop-place.lists.items in
    let old = c.args.lists.now.items in
    let n : length now ≡ length old = sym (length-map now f) ∙ ap length c.loop-place.invariant.0 ∙ length-map old f in
    let lt : c.loop-place.place < length now = omega (arith, n, c.loop-place-test.true, c.len-place-end.ensures, c.args.lists.now.ok.0) in (
      map_kept f now c.loop-place.place c.reserve.new.self c.index_mut.result.now (c.reserve.ensures.items ∙ ap f c.index_mut.ensures.value) ∙ c.loop-place.invariant.0,
      λ room each. rooms_set room now c.loop-place.place c.index_mut.result.now c.reserve.new.self lt c.index_mut.ensures.value c.reserve.ensures.capacity (c.loop-place.invariant.1 room each),
      AllWithin-more_set now c.loop-place.place c.reserve.new.self lt (λ (l : Pended g.row.C.Denot). c.args.constraints ≤ l.capacity) c.loop-place.invariant.2 c.in_ok-reserve.ensures.made,
      λ each. rest_set now c.loop-place.place c.reserve.new.self (c.reserve.ensures.pending ∙ rest_at now c.loop-place.place c.index_mut.result.now lt c.index_mut.ensures.value (c.loop-place.invariant.3 each)) (c.loop-place.invariant.3 each),
    )
