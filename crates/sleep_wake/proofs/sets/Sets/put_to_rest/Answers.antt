use Rattle.std.proofs.Common.{◌≡◌, List, false, length, refl, sym, ap, ◌∙◌, subst, arith}
use Rattle.std.specs.Prelude.{Contains}
use Rattle.std.specs.Vec.{vec_capacity}
use Rattle.graph_colours.specs.declared.member.Member.{Member}
use Rattle.islands.specs.Labels.{label_at}
use Rattle.islands.proofs.LabelLemmas.{in_of}
use Rattle.sleep_wake.specs.Acting.{Acting, acting, IsConsistent}
use Rattle.sleep_wake.specs.Waking.{has_mover_of, put_to_rest}
use Rattle.sleep_wake.proofs.ListLemmas.{filter_in}
use Rattle.sleep_wake.proofs.StandLemmas.{stands_on}
use Rattle.sleep_wake.proofs.ChangeOwn.{own_of}
use Rattle.sleep_wake.proofs.GatherLemmas.{rested_by_list}
use Rattle.sleep_wake.proofs.KeptLemmas.{resting}
use Rattle.sleep_wake.proofs.PhaseLemmas.{names}
use Rattle.sleep_wake.proofs.SizeLemmas.{rested_size, rested_ties}
use Rattle.sleep_wake.proofs.sets.Sets.put_to_rest.Goals as goal

pub gather-requires-clause-rising : goal.gather-requires-clause-rising
gather-requires-clause-rising g c = c.self.invariant.consistent.rising

pub gather-requires-clause-source : goal.gather-requires-clause-source
gather-requires-clause-source g c = rw (← c.self.view_is) at c.requires.source

pub gather-requires-clause-islands : goal.gather-requires-clause-islands
gather-requires-clause-islands g c = c.self.invariant.consistent.islands

pub gather-requires-clause-room : goal.gather-requires-clause-room
gather-requires-clause-room g c = omega (arith, c.self.invariant.enough, c.self.invariant.rooms.gathering_ties)

pub gather-requires-clause-slots : goal.gather-requires-clause-slots
gather-requires-clause-slots g c = omega (arith, c.self.invariant.few, c.self.invariant.rooms.gathering_slots)

pub release_each-requires : goal.release_each-requires
release_each-requires g c =
    let a = c.self.inside in
    let s : Acting g.row.C.Denot = acting a.graph.ties.items a.graph.islands.labels a.graph.colours.lists in
    record {
      own = λ m h.
          let P : List (Member g.row.C.Denot) → Type 0 = λ l. Contains l m in
          own_of g.C.ConstraintId.number s c.self.invariant.consistent m (filter_in (has_mover_of s.labels c.args.name) s.ties m (subst P (c.list.ensures ∙ c.gather.ensures.list) h)).0;
    }

pub rest-requires : goal.rest-requires
rest-requires g c =
    let a = c.self.inside in
    let o = names a.graph.islands.labels c.args.name false (rw (← c.self.view_is) at c.requires.island) in
    record { island = in_of (label_at a.graph.islands.labels c.args.name) o.l c.args.name o.at o.named }

pub invariant_of-self : goal.invariant_of-self
invariant_of-self g c =
    let a = c.self.inside in
    let n = g.C.ConstraintId.number in
    let s : Acting g.row.C.Denot = acting a.graph.ties.items a.graph.islands.labels a.graph.colours.lists in
    let new : Acting g.row.C.Denot = acting a.graph.ties.items c.rest.new.self.labels c.release_each.new.colours.lists in
    let is : new ≡ put_to_rest n c.args.name s = rested_by_list n c.args.name s c.list.result.now c.rest.new.self.labels c.release_each.new.colours.lists (c.list.ensures ∙ c.gather.ensures.list) c.rest.ensures.labels c.release_each.ensures.lists in
    let o = names a.graph.islands.labels c.args.name false (rw (← c.self.view_is) at c.requires.island) in
    let P : Acting g.row.C.Denot → Type 0 = λ v. IsConsistent n v in
    stands_on n s new a.room a.slots (record { ties = a.graph.ties.capacity; colours = a.graph.colours.room; colour_slots = a.graph.colours.slots; islands = a.graph.islands.room; edges = vec_capacity a.work.edges; scratch_slots = a.work.scratch.slots; links = a.work.scratch.links; gathering_ties = a.work.gathering.ties; gathering_slots = a.work.gathering.slots; leasts = vec_capacity a.work.leasts }) (record { ties = a.graph.ties.capacity; colours = c.release_each.new.colours.room; colour_slots = c.release_each.new.colours.slots; islands = c.rest.new.self.room; edges = vec_capacity a.work.edges; scratch_slots = a.work.scratch.slots; links = a.work.scratch.links; gathering_ties = c.gather.new.self.ties; gathering_slots = c.gather.new.self.slots; leasts = vec_capacity a.work.leasts }) c.self.invariant
    (subst P (sym is) (resting n s c.args.name o.l c.self.invariant.consistent o.at o.named o.loosely))
    (ap (λ (v : Acting g.row.C.Denot). v.ties) is ∙ rested_ties n c.args.name s)
    (ap (λ (v : Acting g.row.C.Denot). length v.labels) is ∙ rested_size n c.args.name s)
    (record { ties = omega arith; colours = c.release_each.ensures.room; colour_slots = c.release_each.ensures.slots; islands = c.rest.ensures.room; edges = omega arith; scratch_slots = refl; links = refl; gathering_ties = c.gather.ensures.ties; gathering_slots = c.gather.ensures.slots; leasts = omega arith })

pub returns-clause-acting : goal.returns-clause-acting
returns-clause-acting g c =
    let a = c.self.inside in
    let s : Acting g.row.C.Denot = acting a.graph.ties.items a.graph.islands.labels a.graph.colours.lists in
    rw (← c.self.view_is) (rested_by_list g.C.ConstraintId.number c.args.name s c.list.result.now c.rest.new.self.labels c.release_each.new.colours.lists (c.list.ensures ∙ c.gather.ensures.list) c.rest.ensures.labels c.release_each.ensures.lists)
