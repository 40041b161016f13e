use Rattle.std.proofs.Common.{◌∙◌, ◌&&◌, not, slice_get, arith}
use Rattle.solver_sets.specs.Slept.{sleeps}
use Rattle.solver_sets.specs.SinceTold.{handle_if, newly_asleep, was_asleep}
use Rattle.solver_sets.proofs.ListingLaws.{listed_all, listed_more}
use Rattle.solver_sets.proofs.SleptLaws.{listed_where}
use Rattle.solver_sets.proofs.slept.fill_newly_asleep.Goals as goal

pub put_some-requires : goal.put_some-requires
put_some-requires c = λ there. let room = c.requires.room in omega (arith, c.loop-place.invariant.len, c.loop-place.invariant.capacity, c.loop-place-test.true, room)

pub loop-place-preserved : goal.loop-place-preserved
loop-place-preserved c = record {
  handles =
      listed_more (λ slot. handle_if (sleeps c.args.islands.now.labels slot && not (was_asleep c.args.bodies.now slot)) slot (slice_get c.args.slot_entries.now slot)) c.loop-place.handles.items c.put_some.new.items.items c.newly_asleep_at.result c.args.awake.now c.loop-place.place 0 c.loop-place-test.true c.put_some.ensures.items c.newly_asleep_at.ensures
      ∙ c.loop-place.invariant.handles;
  len = omega (arith, c.put_some.ensures.len, c.loop-place.invariant.len);
  capacity = omega (arith, c.put_some.ensures.capacity, c.loop-place.invariant.capacity);
}

pub returns-clause-handles : goal.returns-clause-handles
unfolding newly_asleep
returns-clause-handles c =
    listed_all (λ slot. handle_if (sleeps c.args.islands.now.labels slot && not (was_asleep c.args.bodies.now slot)) slot (slice_get c.args.slot_entries.now slot)) c.loop-place.handles.items _ c.args.awake.now c.loop-place.place c.loop-place-test.false c.loop-place.invariant.handles
    ∙ listed_where (λ slot. sleeps c.args.islands.now.labels slot && not (was_asleep c.args.bodies.now slot)) c.args.slot_entries.now c.args.awake.now c.requires.rising c.requires.all
