use Rattle.std.proofs.Common.{◌≡◌, refl, sym, subst, arith}
use Rattle.std.specs.Vec.{vec_capacity}
use Rattle.sleep_wake.specs.Acting.{Acting, acting, IsConsistent}
use Rattle.sleep_wake.proofs.StandLemmas.{stands}
use Rattle.sleep_wake.specs.Bodies.{mover_made}
use Rattle.sleep_wake.proofs.PhaseLemmas.{making_keeps}
use Rattle.sleep_wake.proofs.SizeLemmas.{added_fits, made_is}
use Rattle.sleep_wake.proofs.sets.Sets.add_mover.Goals as goal

pub invariant_of-self : goal.invariant_of-self
invariant_of-self g c =
    let a = c.self.inside in
    let n = g.C.ConstraintId.number in
    let s : Acting g.row.C.Denot = acting a.graph.ties.items a.graph.islands.labels a.graph.colours.lists in
    let new : Acting g.row.C.Denot = acting a.graph.ties.items c.add.new.self.labels a.graph.colours.lists in
    let is : new ≡ mover_made c.args.slot s = made_is c.args.slot s c.add.new.self.labels c.add.ensures.labels in
    let fresh = rw (← c.self.view_is) at c.requires.fresh in
    let below = rw (← c.self.view_is) at c.requires.below in
    let P : Acting g.row.C.Denot → Type 0 = λ v. IsConsistent n v in
    stands n s new a.room a.slots (record { ties = a.graph.ties.capacity; colours = a.graph.colours.room; colour_slots = a.graph.colours.slots; islands = a.graph.islands.room; edges = vec_capacity a.work.edges; scratch_slots = a.work.scratch.slots; links = a.work.scratch.links; gathering_ties = a.work.gathering.ties; gathering_slots = a.work.gathering.slots; leasts = vec_capacity a.work.leasts }) (record { ties = a.graph.ties.capacity; colours = a.graph.colours.room; colour_slots = a.graph.colours.slots; islands = c.add.new.self.room; edges = vec_capacity a.work.edges; scratch_slots = a.work.scratch.slots; links = a.work.scratch.links; gathering_ties = a.work.gathering.ties; gathering_slots = a.work.gathering.slots; leasts = vec_capacity a.work.leasts }) c.self.invariant
    (subst P (sym is) (making_keeps n s c.args.slot c.self.invariant.consistent fresh))
    c.self.invariant.enough
    (rw c.add.ensures.labels (added_fits a.graph.islands.labels c.args.slot a.slots below c.self.invariant.few))
    (record { ties = omega arith; colours = refl; colour_slots = refl; islands = c.add.ensures.room; edges = omega arith; scratch_slots = refl; links = refl; gathering_ties = omega arith; gathering_slots = omega arith; leasts = omega arith })
