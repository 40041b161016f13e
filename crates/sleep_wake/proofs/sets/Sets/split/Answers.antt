use Rattle.std.proofs.Common.{◌≡◌, ◌≤◌, true, length, refl, sym, ap, ◌∙◌, subst, arith}
use Rattle.std.specs.Vec.{vec_capacity}
use Rattle.islands.specs.Links.{Edges}
use Rattle.islands.specs.Labels.{Labels, split_by}
use Rattle.islands.proofs.SplitLemmas.{split_is}
use Rattle.sleep_wake.specs.Acting.{Acting, acting, IsConsistent}
use Rattle.sleep_wake.specs.Waking.{has_mover_of}
use Rattle.sleep_wake.specs.SleepPhase.{split_at, edges_in}
use Rattle.sleep_wake.proofs.StandLemmas.{stands_on}
use Rattle.sleep_wake.proofs.PhaseLemmas.{names, splitting_keeps}
use Rattle.sleep_wake.proofs.EdgeLemmas.{edges_inside}
use Rattle.sleep_wake.proofs.GatherLemmas.{filter_few, edges_listed}
use Rattle.sleep_wake.proofs.SizeLemmas.{splits_is}
use Rattle.sleep_wake.proofs.sets.Sets.split.Goals as goal

pub gather-requires-clause-rising : goal.gather-requires-clause-rising
gather-requires-clause-rising g c = c.self.invariant.consistent.rising

pub gather-requires-clause-source : goal.gather-requires-clause-source
gather-requires-clause-source g c = rw (← c.self.view_is) at c.requires.source

pub gather-requires-clause-islands : goal.gather-requires-clause-islands
gather-requires-clause-islands g c = c.self.invariant.consistent.islands

pub gather-requires-clause-room : goal.gather-requires-clause-room
gather-requires-clause-room g c = omega (arith, c.self.invariant.enough, c.self.invariant.rooms.gathering_ties)

pub gather-requires-clause-slots : goal.gather-requires-clause-slots
gather-requires-clause-slots g c = omega (arith, c.self.invariant.few, c.self.invariant.rooms.gathering_slots)

pub list_edges-requires : goal.list_edges-requires
list_edges-requires g c =
    let a = c.self.inside in
    let own : length c.list.result.now ≤ length a.graph.ties.items = rw (c.list.ensures ∙ c.gather.ensures.list) (filter_few (has_mover_of a.graph.islands.labels c.args.name) a.graph.ties.items) in
    omega (arith, own, c.self.invariant.enough, c.self.invariant.rooms.edges)

pub split-requires-clause-inside : goal.split-requires-clause-inside
split-requires-clause-inside g c =
    let a = c.self.inside in
    let own : c.list_edges.new.edges.items ≡ edges_in a.graph.islands.labels c.args.name a.graph.ties.items = edges_listed a.graph.islands.labels c.args.name a.graph.ties.items c.list.result.now c.list_edges.new.edges.items (c.list.ensures ∙ c.gather.ensures.list) c.list_edges.ensures.items in
    rw (c.deref.ensures.value, own) (edges_inside a.graph.islands.labels c.args.name a.graph.ties.items c.self.invariant.consistent.islands)

pub split-requires-clause-slots : goal.split-requires-clause-slots
split-requires-clause-slots g c = omega (arith, c.self.invariant.few, c.self.invariant.rooms.scratch_slots)

pub split-requires-clause-links : goal.split-requires-clause-links
split-requires-clause-links g c =
    let a = c.self.inside in
    let own : length c.list.result.now ≤ length a.graph.ties.items = rw (c.list.ensures ∙ c.gather.ensures.list) (filter_few (has_mover_of a.graph.islands.labels c.args.name) a.graph.ties.items) in
    let long : length c.deref.result.now ≡ length c.list_edges.new.edges.items = ap (λ (l : Edges). length l) c.deref.ensures.value in
    omega (arith, own, long, c.list_edges.ensures.len, c.list_edges.new.edges.ok.0, c.self.invariant.enough, c.self.invariant.rooms.links)

pub invariant_of-self : goal.invariant_of-self
invariant_of-self g c =
    let a = c.self.inside in
    let n = g.C.ConstraintId.number in
    let s : Acting g.row.C.Denot = acting a.graph.ties.items a.graph.islands.labels a.graph.colours.lists in
    let new : Acting g.row.C.Denot = acting a.graph.ties.items c.split.new.self.labels a.graph.colours.lists in
    let o = names a.graph.islands.labels c.args.name true (rw (← c.self.view_is) at c.requires.island) in
    let own : c.list_edges.new.edges.items ≡ edges_in a.graph.islands.labels c.args.name a.graph.ties.items = edges_listed a.graph.islands.labels c.args.name a.graph.ties.items c.list.result.now c.list_edges.new.edges.items (c.list.ensures ∙ c.gather.ensures.list) c.list_edges.ensures.items in
    let labels : c.split.new.self.labels ≡ split_by a.graph.islands.labels c.args.name (edges_in a.graph.islands.labels c.args.name a.graph.ties.items) = c.split.ensures.labels ∙ ap (λ (l : Edges). split_by a.graph.islands.labels c.args.name l) (c.deref.ensures.value ∙ own) in
    let is : new ≡ split_at c.args.name s = splits_is c.args.name s c.split.new.self.labels labels in
    let P : Acting g.row.C.Denot → Type 0 = λ v. IsConsistent n v in
    stands_on n s new a.room a.slots (record { ties = a.graph.ties.capacity; colours = a.graph.colours.room; colour_slots = a.graph.colours.slots; islands = a.graph.islands.room; edges = vec_capacity a.work.edges; scratch_slots = a.work.scratch.slots; links = a.work.scratch.links; gathering_ties = a.work.gathering.ties; gathering_slots = a.work.gathering.slots; leasts = vec_capacity a.work.leasts }) (record { ties = a.graph.ties.capacity; colours = a.graph.colours.room; colour_slots = a.graph.colours.slots; islands = c.split.new.self.room; edges = vec_capacity c.list_edges.new.edges; scratch_slots = c.split.new.scratch.slots; links = c.split.new.scratch.links; gathering_ties = c.gather.new.self.ties; gathering_slots = c.gather.new.self.slots; leasts = vec_capacity a.work.leasts }) c.self.invariant
    (subst P (sym is) (splitting_keeps n s c.args.name o.l c.self.invariant.consistent o.at o.named o.awake))
    refl
    (ap (λ (v : Labels). length v) labels ∙ (split_is a.graph.islands.labels c.args.name (edges_in a.graph.islands.labels c.args.name a.graph.ties.items) c.self.invariant.consistent.islands.partition (edges_inside a.graph.islands.labels c.args.name a.graph.ties.items c.self.invariant.consistent.islands)).size)
    (record { ties = omega arith; colours = refl; colour_slots = refl; islands = c.split.ensures.room; edges = c.list_edges.ensures.capacity; scratch_slots = c.split.ensures.scratch_slots; links = c.split.ensures.scratch_links; gathering_ties = c.gather.ensures.ties; gathering_slots = c.gather.ensures.slots; leasts = omega arith })

pub returns-clause-acting : goal.returns-clause-acting
returns-clause-acting g c =
    let a = c.self.inside in
    let s : Acting g.row.C.Denot = acting a.graph.ties.items a.graph.islands.labels a.graph.colours.lists in
    let own : c.list_edges.new.edges.items ≡ edges_in a.graph.islands.labels c.args.name a.graph.ties.items = edges_listed a.graph.islands.labels c.args.name a.graph.ties.items c.list.result.now c.list_edges.new.edges.items (c.list.ensures ∙ c.gather.ensures.list) c.list_edges.ensures.items in
    let labels : c.split.new.self.labels ≡ split_by a.graph.islands.labels c.args.name (edges_in a.graph.islands.labels c.args.name a.graph.ties.items) = c.split.ensures.labels ∙ ap (λ (l : Edges). split_by a.graph.islands.labels c.args.name l) (c.deref.ensures.value ∙ own) in
    rw (← c.self.view_is) (splits_is c.args.name s c.split.new.self.labels labels)
