use Rattle.std.proofs.Common.{◌≡◌, ◌<◌, ◌++◌, ◌∷◌, [], List, length, refl, sym, subst, ◌∙◌, arith}
use Rattle.std.specs.Prelude.{vec_items}
use Rattle.std.proofs.lemmas.Grind.{common_steps}
use Rattle.std.proofs.lemmas.List.{length-map}
use Rattle.graph_colours.specs.declared.member.Member.{Member}
use Rattle.graph_colours.specs.Members.{AreRising}
use Rattle.graph_colours.specs.Given.{members_of}
use Rattle.graph_colours.proofs.GivenLaws.{vector_at}
use Rattle.graph_colours.proofs.StepLemmas.{lists_all, lists_more, rest_more}
use Rattle.graph_colours.proofs.colours.from_lists.edited_lists.Goals as goal

pub from_members-requires : goal.from_members-requires
from_members-requires g c =
    let lists = c.args.lists.now in
    let place = c.loop-place.place in
    let long : length (members_of lists) ≡ length lists = length-map lists vec_items in
    let lt : place < length (members_of lists) = omega (arith, long, c.loop-place-test.true, c.loop-place.auto.place-end) in
    let is = vector_at lists place (length (members_of lists)) c.index-lists-place.result c.as_slice.result.now refl lt c.index-lists-place.is c.as_slice.ensures.value in
    let P : List (Member g.row.C.Denot) → Type 0 = λ ms. AreRising g.C.ConstraintId.number ms in
    subst P (sym is) (c.requires place [] lt)

pub loop-place-preserved : goal.loop-place-preserved
loop-place-preserved g c =
    let lists = c.args.lists.now in
    let place = c.loop-place.place in
    let long : length (members_of lists) ≡ length lists = length-map lists vec_items in
    let lt : place < length (members_of lists) = omega (arith, long, c.loop-place-test.true, c.loop-place.auto.place-end) in
    let is = vector_at lists place (length (members_of lists)) c.index-lists-place.result c.as_slice.result.now refl lt c.index-lists-place.is c.as_slice.ensures.value in
    let pushed : c.push.new.self.items ≡ c.loop-place.made.items ++ c.in_ok-from_members.field-0 ∷ [] = grind (arith, common_steps) in
    record {
      lists = lists_more c.loop-place.made.items c.push.new.self.items c.in_ok-from_members.field-0 (members_of lists) place lt pushed (c.in_ok-from_members.ensures.items ∙ is) c.loop-place.invariant.lists;
      rest = rest_more c.loop-place.made.items c.push.new.self.items c.in_ok-from_members.field-0 pushed c.in_ok-from_members.ensures.pending c.loop-place.invariant.rest;
    }

pub returns-clause-lists : goal.returns-clause-lists
returns-clause-lists g c =
    let lists = c.args.lists.now in
    let long : length (members_of lists) ≡ length lists = length-map lists vec_items in
    lists_all c.loop-place.made.items (members_of lists) c.loop-place.place (omega (arith, long, c.loop-place-test.false, c.loop-place.auto.place-end)) c.loop-place.invariant.lists
