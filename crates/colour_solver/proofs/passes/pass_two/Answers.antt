use Rattle.std.proofs.Common.{◌≤◌, length, slice_index_or, refl, arith, add-one}
use Rattle.body_handles.specs.declared.slot_table.TheConstants.{MAX_SLOTS}
use Rattle.colour_solver.specs.Passes.{changed, one_gain}
use Rattle.colour_solver.specs.Sums.{first_sum, second_sum}
use Rattle.colour_solver.proofs.SumLaws.{none_so_far, within_all}
use Rattle.colour_solver.proofs.AwakeLaws.{here_at, few_movers, walked_first, walked_last, walked_more}
use Rattle.colour_solver.proofs.passes.pass_two.Goals as goal

pub loop-place-init : goal.loop-place-init
loop-place-init g c = record {
  walked = walked_first (g.A.Change.after c.args.first.now) (g.B.Change.after c.args.second.now) (g.B.Change.gives c.args.second.now) c.args.states.now.items c.args.awake.now c.requires.awake;
  few = few_movers c.args.states.now.items c.args.awake.now c.requires.awake c.requires.few;
  small = none_so_far;
}

pub change_next-sums-requires-clause-sums : goal.change_next-sums-requires-clause-sums
change_next-sums-requires-clause-sums g c = within_all c.loop-place.place MAX_SLOTS c.loop-place.sums (omega (arith, c.loop-place-test.true, c.loop-place.invariant.few)) c.loop-place.invariant.small

pub change_next-sums-requires-clause-small : goal.change_next-sums-requires-clause-small
change_next-sums-requires-clause-small g c =
    c.requires.small (slice_index_or c.args.awake.now c.loop-place.place 0) c.index_mut.result.now
    (here_at (g.A.Change.after c.args.first.now) (g.B.Change.after c.args.second.now) (g.B.Change.gives c.args.second.now) c.args.states.now.items c.args.awake.now c.loop-place.place (slice_index_or c.args.awake.now c.loop-place.place 0) c.loop-place.states.items _ _ c.index_mut.result.now c.loop-place.invariant.walked c.loop-place-test.true refl c.index_mut.ensures.value).there

pub change_next-sums-requires-clause-fits : goal.change_next-sums-requires-clause-fits
change_next-sums-requires-clause-fits g c =
    c.requires.fits (slice_index_or c.args.awake.now c.loop-place.place 0) c.index_mut.result.now
    (here_at (g.A.Change.after c.args.first.now) (g.B.Change.after c.args.second.now) (g.B.Change.gives c.args.second.now) c.args.states.now.items c.args.awake.now c.loop-place.place (slice_index_or c.args.awake.now c.loop-place.place 0) c.loop-place.states.items _ _ c.index_mut.result.now c.loop-place.invariant.walked c.loop-place-test.true refl c.index_mut.ensures.value).there

pub change_next-sums-requires-clause-reciprocals : goal.change_next-sums-requires-clause-reciprocals
change_next-sums-requires-clause-reciprocals g c =
    c.requires.reciprocals (slice_index_or c.args.awake.now c.loop-place.place 0) c.index_mut.result.now
    (here_at (g.A.Change.after c.args.first.now) (g.B.Change.after c.args.second.now) (g.B.Change.gives c.args.second.now) c.args.states.now.items c.args.awake.now c.loop-place.place (slice_index_or c.args.awake.now c.loop-place.place 0) c.loop-place.states.items _ _ c.index_mut.result.now c.loop-place.invariant.walked c.loop-place-test.true refl c.index_mut.ensures.value).there

pub loop-place-preserved : goal.loop-place-preserved
loop-place-preserved g c =
    let f = g.A.Change.after c.args.first.now in
    let s = g.B.Change.after c.args.second.now in
    let all = c.args.states.now.items in
    let place = c.loop-place.place in
    let slot = slice_index_or c.args.awake.now place 0 in
    let known = c.loop-place.invariant in
    let sums = c.loop-place.sums in
    let old = c.index_mut.result.now in
    let made = c.change_next-sums.ensures in
    record {
      walked = rw (add-one, made.first, made.second)
          (walked_more f s (g.B.Change.gives c.args.second.now) all c.args.awake.now place slot c.loop-place.states.items (first_sum sums) (second_sum sums) (one_gain f old) (one_gain s (changed f old)) old c.change_next-sums.new.body
          known.walked c.loop-place-test.true refl c.index_mut.ensures.value made.body made.gives refl refl);
      few = known.few;
      small = made.grown place known.small;
    }

pub sums_of-requires : goal.sums_of-requires
sums_of-requires g c = record { sums = within_all c.loop-place.place MAX_SLOTS c.loop-place.sums (omega (arith, c.loop-place.auto.place-end, c.loop-place.invariant.few)) c.loop-place.invariant.small }

pub returns-clause-gives : goal.returns-clause-gives
returns-clause-gives g c =
    let ended : length c.args.awake.now ≤ c.loop-place.place = omega (arith, c.loop-place-test.false) in
    (walked_last (g.A.Change.after c.args.first.now) (g.B.Change.after c.args.second.now) (g.B.Change.gives c.args.second.now) c.args.states.now.items c.args.awake.now c.loop-place.place c.loop-place.states.items _ _ c.loop-place.invariant.walked ended).made

pub returns-clause-same : goal.returns-clause-same
returns-clause-same g c =
    let ended : length c.args.awake.now ≤ c.loop-place.place = omega (arith, c.loop-place-test.false) in
    (walked_last (g.A.Change.after c.args.first.now) (g.B.Change.after c.args.second.now) (g.B.Change.gives c.args.second.now) c.args.states.now.items c.args.awake.now c.loop-place.place c.loop-place.states.items _ _ c.loop-place.invariant.walked ended).same

pub returns-clause-movers : goal.returns-clause-movers
returns-clause-movers g c =
    let ended : length c.args.awake.now ≤ c.loop-place.place = omega (arith, c.loop-place-test.false) in
    (walked_last (g.A.Change.after c.args.first.now) (g.B.Change.after c.args.second.now) (g.B.Change.gives c.args.second.now) c.args.states.now.items c.args.awake.now c.loop-place.place c.loop-place.states.items _ _ c.loop-place.invariant.walked ended).movers
