use Rattle.std.proofs.Common.{◌≡◌, List, false, length, refl, sym, ap, ◌∙◌, subst, arith}
use Rattle.std.specs.Vec.{vec_capacity}
use Rattle.graph_colours.specs.declared.member.Member.{Member}
use Rattle.sleep_wake.specs.Acting.{Acting, acting, IsConsistent}
use Rattle.sleep_wake.specs.SleepPhase.{ready, ready_put_to_rest}
use Rattle.sleep_wake.proofs.StandLemmas.{stands_on}
use Rattle.sleep_wake.proofs.PhaseLemmas.{ready_consistent}
use Rattle.sleep_wake.proofs.LengthLemmas.{all_rest_long}
use Rattle.sleep_wake.proofs.RestingLaws.{all_ties, rests_together}
use Rattle.sleep_wake.proofs.sets.Sets.rest_ready.Goals as goal

pub list_leasts-requires-clause-partition : goal.list_leasts-requires-clause-partition
list_leasts-requires-clause-partition g c = c.self.invariant.consistent.islands.partition

pub list_leasts-requires-clause-room : goal.list_leasts-requires-clause-room
list_leasts-requires-clause-room g c = omega (arith, c.self.invariant.few, c.self.invariant.rooms.leasts)

pub list_leasts-requires-clause-awake : goal.list_leasts-requires-clause-awake
list_leasts-requires-clause-awake g c = rw (← c.self.view_is) at c.requires.awake

pub release_resting-requires-clause-consistent : goal.release_resting-requires-clause-consistent
release_resting-requires-clause-consistent g c = c.self.invariant.consistent

pub release_resting-requires-clause-pending : goal.release_resting-requires-clause-pending
release_resting-requires-clause-pending g c = rw (← c.self.view_is) at c.requires.rest

pub rest_each-requires : goal.rest_each-requires
rest_each-requires g c = record { awake = rw (← c.self.view_is) at c.requires.awake }

pub invariant_of-self : goal.invariant_of-self
invariant_of-self g c =
    let a = c.self.inside in
    let n = g.C.ConstraintId.number in
    let timers = c.args.timers.now in
    let s : Acting g.row.C.Denot = acting a.graph.ties.items a.graph.islands.labels a.graph.colours.lists in
    let new : Acting g.row.C.Denot = acting c.release_resting.new.ties.items c.rest_each.new.islands.labels c.release_resting.new.colours.lists in
    let lists = rw c.deref.ensures.value at c.release_resting.ensures.lists in
    let labels = rw c.deref-2.ensures.value at c.rest_each.ensures.labels in
    let is : new ≡ ready_put_to_rest n timers s = ap (λ (v : List (Member g.row.C.Denot)). acting v c.rest_each.new.islands.labels c.release_resting.new.colours.lists) c.release_resting.ensures.ties ∙ rests_together n timers c.list_leasts.new.leasts.items s c.rest_each.new.islands.labels c.release_resting.new.colours.lists c.self.invariant.consistent.islands.partition c.list_leasts.ensures.least lists labels in
    let P : Acting g.row.C.Denot → Type 0 = λ v. IsConsistent n v in
    stands_on n s new a.room a.slots (record { ties = a.graph.ties.capacity; colours = a.graph.colours.room; colour_slots = a.graph.colours.slots; islands = a.graph.islands.room; edges = vec_capacity a.work.edges; scratch_slots = a.work.scratch.slots; links = a.work.scratch.links; gathering_ties = a.work.gathering.ties; gathering_slots = a.work.gathering.slots; leasts = vec_capacity a.work.leasts }) (record { ties = c.release_resting.new.ties.capacity; colours = c.release_resting.new.colours.room; colour_slots = c.release_resting.new.colours.slots; islands = c.rest_each.new.islands.room; edges = vec_capacity a.work.edges; scratch_slots = a.work.scratch.slots; links = a.work.scratch.links; gathering_ties = a.work.gathering.ties; gathering_slots = a.work.gathering.slots; leasts = vec_capacity c.list_leasts.new.leasts }) c.self.invariant
    (subst P (sym is) (ready_consistent n timers s c.self.invariant.consistent))
    (ap (λ (v : Acting g.row.C.Denot). v.ties) is ∙ all_ties n (ready false s.labels timers) s)
    (ap (λ (v : Acting g.row.C.Denot). length v.labels) is ∙ all_rest_long n (ready false s.labels timers) s)
    (record { ties = c.release_resting.ensures.ties_capacity; colours = c.release_resting.ensures.room; colour_slots = c.release_resting.ensures.slots; islands = c.rest_each.ensures.room; edges = omega arith; scratch_slots = refl; links = refl; gathering_ties = omega arith; gathering_slots = omega arith; leasts = c.list_leasts.ensures.capacity })

pub returns-clause-acting : goal.returns-clause-acting
returns-clause-acting g c =
    let a = c.self.inside in
    let n = g.C.ConstraintId.number in
    let timers = c.args.timers.now in
    let s : Acting g.row.C.Denot = acting a.graph.ties.items a.graph.islands.labels a.graph.colours.lists in
    let lists = rw c.deref.ensures.value at c.release_resting.ensures.lists in
    let labels = rw c.deref-2.ensures.value at c.rest_each.ensures.labels in
    let is : acting c.release_resting.new.ties.items c.rest_each.new.islands.labels c.release_resting.new.colours.lists ≡ ready_put_to_rest n timers s = ap (λ (v : List (Member g.row.C.Denot)). acting v c.rest_each.new.islands.labels c.release_resting.new.colours.lists) c.release_resting.ensures.ties ∙ rests_together n timers c.list_leasts.new.leasts.items s c.rest_each.new.islands.labels c.release_resting.new.colours.lists c.self.invariant.consistent.islands.partition c.list_leasts.ensures.least lists labels in
    rw (← c.self.view_is) is
