use Rattle.std.proofs.Common.{refl}
use Rattle.graph_colours.proofs.GraphLemmas.{graph_same}
use Rattle.graph_colours.proofs.colours.Colours.flush.Goals as goal

pub invariant_of-self : goal.invariant_of-self
invariant_of-self g c =
    let a = c.self.inside in
    let was = c.self.invariant.graph in
    record {
      graph = graph_same g.C.ConstraintId.number a.lists.items c.flush_all.new.lists.items a.words.items a.words.items a.size a.size was c.flush_all.ensures.lists (λ slot. refl) refl was.few (c.flush_all.ensures.kept a.size.total was.rooms) was.slots;
      rest = λ q. c.flush_all.ensures.rest;
    }
