use Rattle.std.proofs.Common.{◌≡◌, ◌≤◌, length, refl, sym, ap, ◌∙◌, subst, arith}
use Rattle.std.specs.Vec.{vec_capacity}
use Rattle.sleep_wake.specs.Acting.{Acting, acting, IsConsistent}
use Rattle.sleep_wake.specs.Changes.{ended}
use Rattle.sleep_wake.proofs.StandLemmas.{stands}
use Rattle.sleep_wake.proofs.KeptLemmas.{ending_keeps}
use Rattle.sleep_wake.proofs.SizeLemmas.{ended_size, ended_fewer, ended_is}
use Rattle.sleep_wake.proofs.FoldLemmas.{are_up}
use Rattle.sleep_wake.proofs.ChangeOwn.{own_of}
use Rattle.sleep_wake.proofs.sets.Sets.end.Goals as goal

pub part-requires : goal.part-requires
part-requires g c =
    let there = rw (← c.self.view_is) at c.requires.there in
    c.self.invariant.consistent.movers c.args.member there

pub release_member-requires : goal.release_member-requires
release_member-requires g c =
    let a = c.self.inside in
    let there = rw (← c.self.view_is) at c.requires.there in
    record { own = own_of g.C.ConstraintId.number (acting a.graph.ties.items a.graph.islands.labels a.graph.colours.lists) c.self.invariant.consistent c.args.member there }

pub invariant_of-self : goal.invariant_of-self
invariant_of-self g c =
    let a = c.self.inside in
    let n = g.C.ConstraintId.number in
    let s : Acting g.row.C.Denot = acting a.graph.ties.items a.graph.islands.labels a.graph.colours.lists in
    let new : Acting g.row.C.Denot = acting c.remove.new.self.items c.part.new.islands.labels c.release_member.new.self.lists in
    let is : new ≡ ended n c.args.member s = ended_is n c.args.member s c.remove.new.self.items c.part.new.islands.labels c.release_member.new.self.lists c.remove.ensures.items c.part.ensures.labels c.release_member.ensures.lists in
    let there = rw (← c.self.view_is) at c.requires.there in
    let awake = rw (← c.self.view_is) at c.requires.awake in
    let less : length (ended n c.args.member s).ties ≤ length s.ties = ended_fewer n c.args.member s in
    let same : length new.ties ≡ length (ended n c.args.member s).ties = ap (λ (v : Acting g.row.C.Denot). length v.ties) is in
    let few : length new.labels ≡ length s.labels = ap (λ (v : Acting g.row.C.Denot). length v.labels) is ∙ ended_size n c.args.member s in
    let P : Acting g.row.C.Denot → Type 0 = λ v. IsConsistent n v in
    stands n s new a.room a.slots (record { ties = a.graph.ties.capacity; colours = a.graph.colours.room; colour_slots = a.graph.colours.slots; islands = a.graph.islands.room; edges = vec_capacity a.work.edges; scratch_slots = a.work.scratch.slots; links = a.work.scratch.links; gathering_ties = a.work.gathering.ties; gathering_slots = a.work.gathering.slots; leasts = vec_capacity a.work.leasts }) (record { ties = c.remove.new.self.capacity; colours = c.release_member.new.self.room; colour_slots = c.release_member.new.self.slots; islands = c.part.new.islands.room; edges = vec_capacity a.work.edges; scratch_slots = a.work.scratch.slots; links = a.work.scratch.links; gathering_ties = a.work.gathering.ties; gathering_slots = a.work.gathering.slots; leasts = vec_capacity a.work.leasts }) c.self.invariant
    (subst P (sym is) (ending_keeps n s c.args.member c.self.invariant.consistent there (are_up s.labels c.args.member.movers awake).first))
    (omega (arith, less, same, c.self.invariant.enough))
    (omega (arith, few, c.self.invariant.few))
    (record { ties = c.remove.ensures.capacity; colours = c.release_member.ensures.total; colour_slots = c.release_member.ensures.slots; islands = c.part.ensures.room; edges = omega arith; scratch_slots = refl; links = refl; gathering_ties = omega arith; gathering_slots = omega arith; leasts = omega arith })

pub returns-clause-acting : goal.returns-clause-acting
returns-clause-acting g c =
    let a = c.self.inside in
    let s : Acting g.row.C.Denot = acting a.graph.ties.items a.graph.islands.labels a.graph.colours.lists in
    rw (← c.self.view_is) (ended_is g.C.ConstraintId.number c.args.member s c.remove.new.self.items c.part.new.islands.labels c.release_member.new.self.lists c.remove.ensures.items c.part.ensures.labels c.release_member.ensures.lists)
