use Rattle.std.proofs.Common.{◌≡◌, refl, sym, subst, arith}
use Rattle.std.specs.Vec.{vec_capacity}
use Rattle.sleep_wake.specs.Acting.{Acting, acting, IsConsistent}
use Rattle.sleep_wake.specs.Widened.{widened}
use Rattle.sleep_wake.proofs.LengthLemmas.{wide_fits, wide_is, wide_consistent}
use Rattle.sleep_wake.proofs.StandLemmas.{stands}
use Rattle.sleep_wake.proofs.sets.Sets.widen.Goals as goal

pub invariant_of-self : goal.invariant_of-self
invariant_of-self g c =
    let a = c.self.inside in
    let n = g.C.ConstraintId.number in
    let s : Acting g.row.C.Denot = acting a.graph.ties.items a.graph.islands.labels a.graph.colours.lists in
    let new : Acting g.row.C.Denot = acting a.graph.ties.items c.widen.new.self.labels a.graph.colours.lists in
    let is : new ≡ widened c.args.slot s = wide_is c.args.slot s c.widen.new.self.labels c.widen.ensures.labels in
    let below = rw (← c.self.view_is) at c.requires.below in
    let P : Acting g.row.C.Denot → Type 0 = λ v. IsConsistent n v in
    stands n s new a.room a.slots (record { ties = a.graph.ties.capacity; colours = a.graph.colours.room; colour_slots = a.graph.colours.slots; islands = a.graph.islands.room; edges = vec_capacity a.work.edges; scratch_slots = a.work.scratch.slots; links = a.work.scratch.links; gathering_ties = a.work.gathering.ties; gathering_slots = a.work.gathering.slots; leasts = vec_capacity a.work.leasts }) (record { ties = a.graph.ties.capacity; colours = a.graph.colours.room; colour_slots = a.graph.colours.slots; islands = c.widen.new.self.room; edges = vec_capacity a.work.edges; scratch_slots = a.work.scratch.slots; links = a.work.scratch.links; gathering_ties = a.work.gathering.ties; gathering_slots = a.work.gathering.slots; leasts = vec_capacity a.work.leasts }) c.self.invariant
    (subst P (sym is) (wide_consistent n c.args.slot s c.self.invariant.consistent))
    c.self.invariant.enough
    (rw c.widen.ensures.labels (wide_fits a.graph.islands.labels c.args.slot a.slots below c.self.invariant.few))
    (record { ties = omega arith; colours = refl; colour_slots = refl; islands = c.widen.ensures.room; edges = omega arith; scratch_slots = refl; links = refl; gathering_ties = omega arith; gathering_slots = omega arith; leasts = omega arith })
