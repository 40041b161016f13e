use Rattle.std.proofs.Common.{◌≡◌, ◌+◌, ◌≤◌, length, refl, sym, ap, ◌∙◌, subst, arith}
use Rattle.std.specs.Vec.{vec_capacity}
use Rattle.sleep_wake.specs.Acting.{Acting, acting, IsConsistent}
use Rattle.sleep_wake.specs.Changes.{begun}
use Rattle.sleep_wake.proofs.ListLemmas.{has_from, absent_from}
use Rattle.sleep_wake.proofs.StandLemmas.{stands, are_below, fewer_coloured}
use Rattle.sleep_wake.proofs.KeptLemmas.{beginning_keeps}
use Rattle.sleep_wake.proofs.SizeLemmas.{begun_size, begun_is}
use Rattle.sleep_wake.proofs.FoldLemmas.{are_up, begun_more}
use Rattle.sleep_wake.proofs.sets.Sets.begin.Goals as goal

pub insert-requires-clause-absent : goal.insert-requires-clause-absent
insert-requires-clause-absent g c = rw (← c.self.view_is) at c.requires.fresh

pub insert-requires-clause-room : goal.insert-requires-clause-room
insert-requires-clause-room g c = let room = rw (← c.self.view_is) at c.requires.room in omega (arith, room, c.self.invariant.rooms.ties)

pub unite-requires : goal.unite-requires
unite-requires g c =
    let awake = rw (← c.self.view_is) at c.requires.awake in
    (are_up c.self.inside.graph.islands.labels c.args.member.movers awake).movers

pub place-requires-clause-absent : goal.place-requires-clause-absent
place-requires-clause-absent g c =
    let a = c.self.inside in
    let n = g.C.ConstraintId.number in
    let fresh = rw (← c.self.view_is) at c.requires.fresh in
    absent_from n c.args.member.id a.graph.colours.lists (λ x q. has_from n c.args.member.id a.graph.ties.items x fresh ((c.self.invariant.consistent.acting x).0 q).0)

pub place-requires-clause-below : goal.place-requires-clause-below
place-requires-clause-below g c =
    let a = c.self.inside in
    let awake = rw (← c.self.view_is) at c.requires.awake in
    let few : length a.graph.islands.labels ≤ a.graph.colours.slots = omega (arith, c.self.invariant.few, c.self.invariant.rooms.colour_slots) in
    are_below a.graph.islands.labels a.graph.colours.slots c.args.member.movers few (are_up a.graph.islands.labels c.args.member.movers awake).movers

pub place-requires-clause-room : goal.place-requires-clause-room
place-requires-clause-room g c =
    let a = c.self.inside in
    let room = rw (← c.self.view_is) at c.requires.room in
    let fewer = fewer_coloured g.C.ConstraintId.number (acting a.graph.ties.items a.graph.islands.labels a.graph.colours.lists) c.self.invariant.consistent in
    omega (arith, room, fewer, c.self.invariant.rooms.colours)

pub invariant_of-self : goal.invariant_of-self
invariant_of-self g c =
    let a = c.self.inside in
    let n = g.C.ConstraintId.number in
    let s : Acting g.row.C.Denot = acting a.graph.ties.items a.graph.islands.labels a.graph.colours.lists in
    let new : Acting g.row.C.Denot = acting c.insert.new.self.items c.unite.new.islands.labels c.place.new.self.lists in
    let is : new ≡ begun n c.args.member s = begun_is n c.args.member s c.insert.new.self.items c.unite.new.islands.labels c.place.new.self.lists c.insert.ensures.items c.unite.ensures.labels c.place.ensures.lists in
    let fresh = rw (← c.self.view_is) at c.requires.fresh in
    let awake = rw (← c.self.view_is) at c.requires.awake in
    let room = rw (← c.self.view_is) at c.requires.room in
    let more : length new.ties ≡ length s.ties + 1 = ap (λ (v : Acting g.row.C.Denot). length v.ties) is ∙ begun_more n c.args.member s in
    let few : length new.labels ≡ length s.labels = ap (λ (v : Acting g.row.C.Denot). length v.labels) is ∙ begun_size n c.args.member s in
    let P : Acting g.row.C.Denot → Type 0 = λ v. IsConsistent n v in
    stands n s new a.room a.slots (record { ties = a.graph.ties.capacity; colours = a.graph.colours.room; colour_slots = a.graph.colours.slots; islands = a.graph.islands.room; edges = vec_capacity a.work.edges; scratch_slots = a.work.scratch.slots; links = a.work.scratch.links; gathering_ties = a.work.gathering.ties; gathering_slots = a.work.gathering.slots; leasts = vec_capacity a.work.leasts }) (record { ties = c.insert.new.self.capacity; colours = c.place.new.self.room; colour_slots = c.place.new.self.slots; islands = c.unite.new.islands.room; edges = vec_capacity a.work.edges; scratch_slots = a.work.scratch.slots; links = a.work.scratch.links; gathering_ties = a.work.gathering.ties; gathering_slots = a.work.gathering.slots; leasts = vec_capacity a.work.leasts }) c.self.invariant
    (subst P (sym is) (beginning_keeps n s c.args.member c.self.invariant.consistent fresh awake))
    (omega (arith, more, room))
    (omega (arith, few, c.self.invariant.few))
    (record { ties = c.insert.ensures.capacity; colours = c.place.ensures.total; colour_slots = c.place.ensures.slots; islands = c.unite.ensures.room; edges = omega arith; scratch_slots = refl; links = refl; gathering_ties = omega arith; gathering_slots = omega arith; leasts = omega arith })

pub returns-clause-acting : goal.returns-clause-acting
returns-clause-acting g c =
    let a = c.self.inside in
    let s : Acting g.row.C.Denot = acting a.graph.ties.items a.graph.islands.labels a.graph.colours.lists in
    rw (← c.self.view_is) (begun_is g.C.ConstraintId.number c.args.member s c.insert.new.self.items c.unite.new.islands.labels c.place.new.self.lists c.insert.ensures.items c.unite.ensures.labels c.place.ensures.lists)
