use Rattle.std.proofs.Common.{refl, max, arith}
use Rattle.graph_colours.proofs.GraphLemmas.{graph_same, rooms_both}
use Rattle.graph_colours.proofs.colours.Colours.reserve.Goals as goal

pub invariant_of-self-2 : goal.invariant_of-self-2
invariant_of-self-2 g c =
    let a = c.self.inside in
    let was = c.self.invariant.graph in
    let cs = c.reserve_all.new.lists.items in
    let kept = c.reserve_all.ensures.kept a.size.total was.rooms in
    let both = rooms_both a.size.total c.in-Some.total cs kept c.in_ok-reserve_all.ensures.made in
    rw (c.max-self-inside.ensures, c.max-self-inside-2.ensures) (record {
      graph = graph_same g.C.ConstraintId.number a.lists.items cs a.words.items c.grow.new.words.items a.size (record { count = a.size.count; total = max a.size.total c.in-Some.total; slots = max a.size.slots c.args.slots }) was c.reserve_all.ensures.lists c.grow.ensures.same refl (omega (arith, was.few)) both
          (omega (arith, was.slots, c.grow.ensures.more, c.in_ok-grow.ensures.made));
      rest = λ q. c.reserve_all.ensures.rest (c.self.invariant.rest q);
    })

pub invariant_of-self-in_err-reserve_all : goal.invariant_of-self-in_err-reserve_all
invariant_of-self-in_err-reserve_all g c =
    let a = c.self.inside in
    let was = c.self.invariant.graph in
    record {
      graph = graph_same g.C.ConstraintId.number a.lists.items c.reserve_all.new.lists.items a.words.items a.words.items a.size a.size was c.reserve_all.ensures.lists (λ slot. refl) refl was.few (c.reserve_all.ensures.kept a.size.total was.rooms) was.slots;
      rest = λ q. c.reserve_all.ensures.rest (c.self.invariant.rest q);
    }

pub invariant_of-self-in_err-grow : goal.invariant_of-self-in_err-grow
invariant_of-self-in_err-grow g c =
    let a = c.self.inside in
    let was = c.self.invariant.graph in
    record {
      graph = graph_same g.C.ConstraintId.number a.lists.items c.reserve_all.new.lists.items a.words.items c.grow.new.words.items a.size a.size was c.reserve_all.ensures.lists c.grow.ensures.same refl was.few (c.reserve_all.ensures.kept a.size.total was.rooms) (omega (arith, was.slots, c.grow.ensures.more));
      rest = λ q. c.reserve_all.ensures.rest (c.self.invariant.rest q);
    }
