use Rattle.std.proofs.Common.{◌≡◌, ◌<◌, ◌++◌, ◌∷◌, [], List, length, ◌∙◌, arith}
use Rattle.std.proofs.lemmas.Grind.{common_steps}
use Rattle.std.proofs.lemmas.List.{length-map}
use Rattle.graph_colours.specs.declared.member.Member.{Member}
use Rattle.graph_colours.specs.Edits.{Pended}
use Rattle.graph_colours.specs.Graph.{lists_of}
use Rattle.graph_colours.proofs.StepLemmas.{items_at, lists_all, lists_more, rest_more}
use Rattle.graph_colours.proofs.lists.copies.Goals as goal

pub loop-place-preserved : goal.loop-place-preserved
loop-place-preserved g c =
    let f : Pended g.row.C.Denot → List (Member g.row.C.Denot) = λ l. l.items in
    let lists = c.args.lists.now in
    let place = c.loop-place.place in
    let long : length (lists_of lists) ≡ length lists = length-map lists f in
    let lt : place < length lists = omega (arith, c.loop-place-test.true, c.loop-place.auto.place-end) in
    let pushed : c.push.new.self.items ≡ c.loop-place.copied.items ++ c.in_ok-try_copy.field-0 ∷ [] = grind (arith, common_steps) in
    record {
      lists = lists_more c.loop-place.copied.items c.push.new.self.items c.in_ok-try_copy.field-0 (lists_of lists) place (omega (arith, long, lt)) pushed (c.in_ok-try_copy.ensures.items ∙ items_at lists place c.index-lists-place.result lt c.index-lists-place.is) c.loop-place.invariant.lists;
      rest = rest_more c.loop-place.copied.items c.push.new.self.items c.in_ok-try_copy.field-0 pushed c.in_ok-try_copy.ensures.pending c.loop-place.invariant.rest;
    }

pub returns-clause-lists : goal.returns-clause-lists
returns-clause-lists g c =
    let f : Pended g.row.C.Denot → List (Member g.row.C.Denot) = λ l. l.items in
    let long : length (lists_of c.args.lists.now) ≡ length c.args.lists.now = length-map c.args.lists.now f in
    lists_all c.loop-place.copied.items (lists_of c.args.lists.now) c.loop-place.place (omega (arith, long, c.loop-place-test.false, c.loop-place.auto.place-end)) c.loop-place.invariant.lists
