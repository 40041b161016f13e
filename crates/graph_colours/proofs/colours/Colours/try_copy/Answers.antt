use Rattle.std.proofs.Common.{refl, ap, ◌∙◌, arith}
use Rattle.graph_colours.specs.TakenColours.{word_at}
use Rattle.graph_colours.proofs.GraphLemmas.{graph_same}
use Rattle.graph_colours.proofs.colours.Colours.try_copy.Goals as goal

pub invariant_of-result : goal.invariant_of-result
invariant_of-result g c =
    let a = c.self.inside in
    let copied = rw c.deref.ensures.value at c.in_ok-lists.ensures.lists in
    let words = c.in_ok-from_slice.field-0 in
    record {
      graph = graph_same g.C.ConstraintId.number a.lists.items c.reserve_all.new.lists.items a.words.items words.items a.size (record { count = a.size.count; total = a.size.count; slots = 0 }) c.self.invariant.graph
          (c.reserve_all.ensures.lists ∙ copied) (λ slot. ap (λ w. word_at w slot) (c.in_ok-from_slice.ensures.items ∙ c.as_slice.ensures.value)) refl (omega arith) c.in_ok-reserve_all.ensures.made (omega arith);
      rest = λ q. c.reserve_all.ensures.rest c.in_ok-lists.ensures.rest;
    }
