use Rattle.std.proofs.Common.{◌≡◌, length, refl, sym, ap, ◌∙◌, subst, arith}
use Rattle.std.specs.Vec.{vec_capacity}
use Rattle.islands.specs.Labels.{Labels}
use Rattle.sleep_wake.specs.Acting.{Acting, acting, IsConsistent}
use Rattle.sleep_wake.proofs.StandLemmas.{stands}
use Rattle.sleep_wake.specs.Bodies.{mover_gone}
use Rattle.sleep_wake.proofs.PhaseLemmas.{going_keeps}
use Rattle.sleep_wake.proofs.SizeLemmas.{taken_out_size, gone_is}
use Rattle.sleep_wake.proofs.sets.Sets.remove_mover.Goals as goal

pub invariant_of-self : goal.invariant_of-self
invariant_of-self g c =
    let a = c.self.inside in
    let n = g.C.ConstraintId.number in
    let s : Acting g.row.C.Denot = acting a.graph.ties.items a.graph.islands.labels a.graph.colours.lists in
    let new : Acting g.row.C.Denot = acting a.graph.ties.items c.take_out.new.self.labels a.graph.colours.lists in
    let alone = rw (← c.self.view_is) at c.requires.alone in
    let awake = rw (← c.self.view_is) at c.requires.awake in
    let is : new ≡ mover_gone n c.args.slot s = gone_is n c.args.slot s c.take_out.new.self.labels alone c.take_out.ensures.labels in
    let P : Acting g.row.C.Denot → Type 0 = λ v. IsConsistent n v in
    stands n s new a.room a.slots (record { ties = a.graph.ties.capacity; colours = a.graph.colours.room; colour_slots = a.graph.colours.slots; islands = a.graph.islands.room; edges = vec_capacity a.work.edges; scratch_slots = a.work.scratch.slots; links = a.work.scratch.links; gathering_ties = a.work.gathering.ties; gathering_slots = a.work.gathering.slots; leasts = vec_capacity a.work.leasts }) (record { ties = a.graph.ties.capacity; colours = a.graph.colours.room; colour_slots = a.graph.colours.slots; islands = c.take_out.new.self.room; edges = vec_capacity a.work.edges; scratch_slots = a.work.scratch.slots; links = a.work.scratch.links; gathering_ties = a.work.gathering.ties; gathering_slots = a.work.gathering.slots; leasts = vec_capacity a.work.leasts }) c.self.invariant
    (subst P (sym is) (going_keeps n s c.args.slot c.self.invariant.consistent awake))
    c.self.invariant.enough
    (let same : length c.take_out.new.self.labels ≡ length a.graph.islands.labels = ap (λ (v : Labels). length v) c.take_out.ensures.labels ∙ taken_out_size a.graph.islands.labels c.args.slot in omega (arith, same, c.self.invariant.few))
    (record { ties = omega arith; colours = refl; colour_slots = refl; islands = c.take_out.ensures.room; edges = omega arith; scratch_slots = refl; links = refl; gathering_ties = omega arith; gathering_slots = omega arith; leasts = omega arith })

pub returns-clause-acting : goal.returns-clause-acting
returns-clause-acting g c =
    let a = c.self.inside in
    let s : Acting g.row.C.Denot = acting a.graph.ties.items a.graph.islands.labels a.graph.colours.lists in
    rw (← c.self.view_is) (gone_is g.C.ConstraintId.number c.args.slot s c.take_out.new.self.labels (rw (← c.self.view_is) at c.requires.alone) c.take_out.ensures.labels)
