use Rattle.std.proofs.Common.{◌≡◌, ◌≤◌, Some, length, refl, sym, ap, ◌∙◌, subst, arith}
use Rattle.std.specs.Prelude.{filter}
use Rattle.std.specs.Vec.{vec_capacity}
use Rattle.islands.specs.Labels.{label_at}
use Rattle.islands.proofs.LabelLemmas.{in_of}
use Rattle.sleep_wake.specs.Acting.{Acting, acting, IsConsistent}
use Rattle.sleep_wake.specs.Waking.{has_mover_of, set_woken, woken_at}
use Rattle.sleep_wake.specs.Rooms.{CanPlace}
use Rattle.sleep_wake.proofs.ListLemmas.{filter_in, rising_filter}
use Rattle.sleep_wake.proofs.SetLemmas.{sleepers_absent, room_for_sleepers}
use Rattle.sleep_wake.proofs.StandLemmas.{stands_on, are_below}
use Rattle.sleep_wake.proofs.GatherLemmas.{woken_by_list}
use Rattle.sleep_wake.proofs.KeptLemmas.{wakes}
use Rattle.sleep_wake.proofs.SizeLemmas.{woken_is, woken_size, woken_ties}
use Rattle.sleep_wake.proofs.SourceLaws.{named_asleep}
use Rattle.sleep_wake.proofs.sets.Sets.wake_island.Goals as goal

pub gather_asleep-requires-clause-rising : goal.gather_asleep-requires-clause-rising
gather_asleep-requires-clause-rising g c = c.self.invariant.consistent.rising

pub gather_asleep-requires-clause-asleep : goal.gather_asleep-requires-clause-asleep
gather_asleep-requires-clause-asleep g c =
    let a = c.self.inside in
    let l = c.args.label in
    let here : label_at a.graph.islands.labels l.name ≡ Some l = rw (← c.self.view_is) at c.requires.island in
    named_asleep a.graph.islands.labels l here c.requires.asleep

pub gather_asleep-requires-clause-source : goal.gather_asleep-requires-clause-source
gather_asleep-requires-clause-source g c = rw (← c.self.view_is) at c.requires.source

pub gather_asleep-requires-clause-room : goal.gather_asleep-requires-clause-room
gather_asleep-requires-clause-room g c = omega (arith, c.self.invariant.enough, c.self.invariant.rooms.gathering_ties)

pub gather_asleep-requires-clause-slots : goal.gather_asleep-requires-clause-slots
gather_asleep-requires-clause-slots g c = omega (arith, c.self.invariant.few, c.self.invariant.rooms.gathering_slots)

pub place_each-requires : goal.place_each-requires
place_each-requires g c =
    let a = c.self.inside in
    let n = g.C.ConstraintId.number in
    let l = c.args.label in
    let s : Acting g.row.C.Denot = acting a.graph.ties.items a.graph.islands.labels a.graph.colours.lists in
    let here : label_at s.labels l.name ≡ Some l = rw (← c.self.view_is) at c.requires.island in
    let few : length a.graph.islands.labels ≤ a.graph.colours.slots = omega (arith, c.self.invariant.few, c.self.invariant.rooms.colour_slots) in
    let can : CanPlace n (filter (has_mover_of s.labels l.name) s.ties) s.lists a.graph.colours.room a.graph.colours.slots = record {
      rising = rising_filter n (has_mover_of s.labels l.name) s.ties c.self.invariant.consistent.rising;
      absent = λ m h. let o = filter_in (has_mover_of s.labels l.name) s.ties m h in sleepers_absent n s l.name l c.self.invariant.consistent here refl c.requires.asleep m o.0 o.1;
      below = λ m h. are_below a.graph.islands.labels a.graph.colours.slots m.movers few (c.self.invariant.consistent.movers m (filter_in (has_mover_of s.labels l.name) s.ties m h).0);
      enough = room_for_sleepers n s l.name a.graph.colours.room l c.self.invariant.consistent here refl c.requires.asleep (omega (arith, c.self.invariant.enough, c.self.invariant.rooms.colours));
    } in
    rw (c.list.ensures ∙ c.gather_asleep.ensures.list) can

pub wake-requires : goal.wake-requires
wake-requires g c =
    let a = c.self.inside in
    let l = c.args.label in
    let here : label_at a.graph.islands.labels l.name ≡ Some l = rw (← c.self.view_is) at c.requires.island in
    record { island = in_of (label_at a.graph.islands.labels l.name) l l.name here refl }

pub invariant_of-self : goal.invariant_of-self
invariant_of-self g c =
    let a = c.self.inside in
    let n = g.C.ConstraintId.number in
    let l = c.args.label in
    let s : Acting g.row.C.Denot = acting a.graph.ties.items a.graph.islands.labels a.graph.colours.lists in
    let new : Acting g.row.C.Denot = acting a.graph.ties.items c.wake.new.self.labels c.place_each.new.colours.lists in
    let here : label_at s.labels l.name ≡ Some l = rw (← c.self.view_is) at c.requires.island in
    let by_list : new ≡ set_woken n l.name s = woken_by_list n l.name s c.list.result.now c.wake.new.self.labels c.place_each.new.colours.lists (c.list.ensures ∙ c.gather_asleep.ensures.list) c.wake.ensures.labels c.place_each.ensures.lists in
    let is : new ≡ woken_at n l.name s = by_list ∙ sym (woken_is n l s here c.requires.asleep) in
    let P : Acting g.row.C.Denot → Type 0 = λ v. IsConsistent n v in
    stands_on n s new a.room a.slots (record { ties = a.graph.ties.capacity; colours = a.graph.colours.room; colour_slots = a.graph.colours.slots; islands = a.graph.islands.room; edges = vec_capacity a.work.edges; scratch_slots = a.work.scratch.slots; links = a.work.scratch.links; gathering_ties = a.work.gathering.ties; gathering_slots = a.work.gathering.slots; leasts = vec_capacity a.work.leasts }) (record { ties = a.graph.ties.capacity; colours = c.place_each.new.colours.room; colour_slots = c.place_each.new.colours.slots; islands = c.wake.new.self.room; edges = vec_capacity a.work.edges; scratch_slots = a.work.scratch.slots; links = a.work.scratch.links; gathering_ties = c.gather_asleep.new.self.ties; gathering_slots = c.gather_asleep.new.self.slots; leasts = vec_capacity a.work.leasts }) c.self.invariant
    (subst P (sym is) (wakes n l.name s c.self.invariant.consistent).consistent)
    (ap (λ (v : Acting g.row.C.Denot). v.ties) is ∙ woken_ties n l.name s)
    (ap (λ (v : Acting g.row.C.Denot). length v.labels) is ∙ woken_size n l.name s)
    (record { ties = omega arith; colours = c.place_each.ensures.room; colour_slots = c.place_each.ensures.slots; islands = c.wake.ensures.room; edges = omega arith; scratch_slots = refl; links = refl; gathering_ties = c.gather_asleep.ensures.ties; gathering_slots = c.gather_asleep.ensures.slots; leasts = omega arith })

pub returns-clause-acting : goal.returns-clause-acting
returns-clause-acting g c =
    let a = c.self.inside in
    let s : Acting g.row.C.Denot = acting a.graph.ties.items a.graph.islands.labels a.graph.colours.lists in
    rw (← c.self.view_is) (woken_by_list g.C.ConstraintId.number c.args.label.name s c.list.result.now c.wake.new.self.labels c.place_each.new.colours.lists (c.list.ensures ∙ c.gather_asleep.ensures.list) c.wake.ensures.labels c.place_each.ensures.lists)
