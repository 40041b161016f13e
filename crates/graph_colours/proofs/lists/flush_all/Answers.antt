use Rattle.std.proofs.Common.{◌≡◌, ◌<◌, List, length, sym, ap, ◌∙◌, arith}
use Rattle.std.proofs.lemmas.List.{length-map}
use Rattle.std.proofs.lemmas.List.Elements.{AllWithin-more_set}
use Rattle.graph_colours.specs.declared.member.Member.{Member}
use Rattle.graph_colours.specs.Edits.{Pended}
use Rattle.graph_colours.proofs.StepLemmas.{map_kept, rooms_set}
use Rattle.graph_colours.proofs.lists.flush_all.Goals as goal

pub loop-place-preserved : goal.loop-place-preserved
loop-place-preserved g c =
    let f : Pended g.row.C.Denot → List (Member g.row.C.Denot) = λ l. l.items in
    let now = c.loop-place.lists.items in
    let old = c.args.lists.now.items in
    let n : length now ≡ length old = sym (length-map now f) ∙ ap length c.loop-place.invariant.0 ∙ length-map old f in
    let lt : c.loop-place.place < length now = omega (arith, n, c.loop-place-test.true, c.len-place-end.ensures, c.args.lists.now.ok.0) in (
      map_kept f now c.loop-place.place c.flush.new.self c.index_mut.result.now (c.flush.ensures.items ∙ ap f c.index_mut.ensures.value) ∙ c.loop-place.invariant.0,
      λ room each. rooms_set room now c.loop-place.place c.index_mut.result.now c.flush.new.self lt c.index_mut.ensures.value c.flush.ensures.capacity (c.loop-place.invariant.1 room each),
      AllWithin-more_set now c.loop-place.place c.flush.new.self lt (λ (l : Pended g.row.C.Denot). l.pending ≡ 0) c.loop-place.invariant.2 c.flush.ensures.pending,
    )

pub returns-clause-rest : goal.returns-clause-rest
returns-clause-rest g c =
    let f : Pended g.row.C.Denot → List (Member g.row.C.Denot) = λ l. l.items in
    let now = c.loop-place.lists.items in
    let old = c.args.lists.now.items in
    let n : length now ≡ length old = sym (length-map now f) ∙ ap length c.loop-place.invariant.0 ∙ length-map old f in
    λ k d lt. c.loop-place.invariant.2 k d (omega arith) (omega (arith, lt, n, c.loop-place-test.false, c.len-place-end.ensures, c.args.lists.now.ok.0))
