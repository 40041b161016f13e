use Rattle.std.proofs.Common.{◌≡◌, length, slice_index_or, refl, arith, sym, ◌∙◌, add-one}
use Rattle.colour_solver.specs.States.{is_carried, moves}
use Rattle.world_core_base.proofs.GatherLaws.{length-states}
use Rattle.world_core_base.proofs.MarkedLaws.{marked_same, marked_then}
use Rattle.world_core_base.proofs.MovingLaws.{begun_where, bodies-both, moved_where, momentum-both, slots-both}
use Rattle.world_core_base.proofs.AwakeLaws.{IsWalked, both_walked, carried_both, fits_first, fits_second, movers_both, moved_first, second_long, second_places, there_at, walked_last, walked_more}
use Rattle.world_core_base.proofs.StandingLaws.{standing-both}
use Rattle.world_core_base.proofs.moving.move_bodies.Goals as goal

pub loop-place-init : goal.loop-place-init
loop-place-init c = record {
  moved_so_far = moved_first moves c.args.bodies.now.items c.args.states.now.items c.args.awake.now (c.requires.same.long ∙ length-states c.args.bodies.now.items) c.requires.awake;
  marked = marked_same c.args.bodies.now.items c.args.marks.now;
  long = refl;
  covered = c.requires.covered;
  boxes_long = refl;
}

pub move_slot-requires-clause-body : goal.move_slot-requires-clause-body
move_slot-requires-clause-body c =
    (there_at moves c.args.bodies.now.items c.args.states.now.items c.args.awake.now c.loop-place.place (slice_index_or c.args.awake.now c.loop-place.place 0) c.loop-place.bodies.items c.loop-place.states.items
    (c.requires.same.long ∙ length-states c.args.bodies.now.items) c.loop-place.invariant.moved_so_far c.loop-place-test.true refl).bodies

pub move_slot-requires-clause-state : goal.move_slot-requires-clause-state
move_slot-requires-clause-state c =
    (there_at moves c.args.bodies.now.items c.args.states.now.items c.args.awake.now c.loop-place.place (slice_index_or c.args.awake.now c.loop-place.place 0) c.loop-place.bodies.items c.loop-place.states.items
    (c.requires.same.long ∙ length-states c.args.bodies.now.items) c.loop-place.invariant.moved_so_far c.loop-place-test.true refl).states

pub move_slot-requires-clause-fits : goal.move_slot-requires-clause-fits
move_slot-requires-clause-fits c =
    let slot = slice_index_or c.args.awake.now c.loop-place.place 0 in
    let all = c.args.bodies.now.items in
    let before = c.args.states.now.items in
    fits_first all before c.loop-place.bodies.items c.loop-place.states.items slot c.requires.bodies c.requires.states c.requires.courses c.requires.same
    (there_at moves all before c.args.awake.now c.loop-place.place slot c.loop-place.bodies.items c.loop-place.states.items (c.requires.same.long ∙ length-states all) c.loop-place.invariant.moved_so_far c.loop-place-test.true refl)

pub loop-place-preserved : goal.loop-place-preserved
loop-place-preserved c =
    let all = c.args.bodies.now.items in
    record {
      moved_so_far = rw add-one
          (walked_more moves all c.args.states.now.items c.args.awake.now c.loop-place.place (slice_index_or c.args.awake.now c.loop-place.place 0) c.loop-place.bodies.items c.move_slot.new.bodies.items c.loop-place.states.items c.move_slot.new.states.items
          (c.requires.same.long ∙ length-states all) c.loop-place.invariant.moved_so_far c.loop-place-test.true refl c.move_slot.ensures.bodies c.move_slot.ensures.states);
      marked = marked_then all c.args.marks.now c.loop-place.bodies.items c.loop-place.marks c.move_slot.new.bodies.items c.move_slot.new.marks c.loop-place.invariant.marked c.move_slot.ensures.marked;
      long = c.move_slot.ensures.len ∙ c.loop-place.invariant.long;
      covered = c.move_slot.ensures.covered;
      boxes_long = c.move_slot.ensures.boxes ∙ c.loop-place.invariant.boxes_long;
    }

pub loop-index-init : goal.loop-index-init
loop-index-init c =
    let all = c.args.bodies.now.items in
    let before = c.args.states.now.items in
    let long : length before ≡ length all = c.requires.same.long ∙ length-states all in
    let walked : IsWalked moves all before c.loop-place.bodies.items c.loop-place.states.items =
    walked_last moves all before c.args.awake.now c.loop-place.place c.loop-place.bodies.items c.loop-place.states.items long c.loop-place.invariant.moved_so_far (omega (arith, c.loop-place-test.false)) in
    record {
      moved_so_far = rw (walked.bodies, walked.states) (moved_first is_carried (moved_where moves all before) (begun_where moves before) c.args.carried.now (second_long all before long) (second_places before c.args.carried.now c.requires.carried));
      marked = c.loop-place.invariant.marked;
      long = c.loop-place.invariant.long;
      covered = c.loop-place.invariant.covered;
      boxes_long = c.loop-place.invariant.boxes_long;
    }

pub move_slot-requires-in-loop-index-clause-body : goal.move_slot-requires-in-loop-index-clause-body
move_slot-requires-in-loop-index-clause-body c =
    let all = c.args.bodies.now.items in
    let before = c.args.states.now.items in
    (there_at is_carried (moved_where moves all before) (begun_where moves before) c.args.carried.now c.loop-index.index (slice_index_or c.args.carried.now c.loop-index.index 0) c.loop-index.bodies.items c.loop-index.states.items
    (second_long all before (c.requires.same.long ∙ length-states all)) c.loop-index.invariant.moved_so_far c.loop-index-test.true refl).bodies

pub move_slot-requires-in-loop-index-clause-state : goal.move_slot-requires-in-loop-index-clause-state
move_slot-requires-in-loop-index-clause-state c =
    let all = c.args.bodies.now.items in
    let before = c.args.states.now.items in
    (there_at is_carried (moved_where moves all before) (begun_where moves before) c.args.carried.now c.loop-index.index (slice_index_or c.args.carried.now c.loop-index.index 0) c.loop-index.bodies.items c.loop-index.states.items
    (second_long all before (c.requires.same.long ∙ length-states all)) c.loop-index.invariant.moved_so_far c.loop-index-test.true refl).states

pub move_slot-requires-in-loop-index-clause-fits : goal.move_slot-requires-in-loop-index-clause-fits
move_slot-requires-in-loop-index-clause-fits c =
    let slot = slice_index_or c.args.carried.now c.loop-index.index 0 in
    let all = c.args.bodies.now.items in
    let before = c.args.states.now.items in
    fits_second all before c.loop-index.bodies.items c.loop-index.states.items slot c.requires.bodies c.requires.states c.requires.courses c.requires.same
    (there_at is_carried (moved_where moves all before) (begun_where moves before) c.args.carried.now c.loop-index.index slot c.loop-index.bodies.items c.loop-index.states.items
    (second_long all before (c.requires.same.long ∙ length-states all)) c.loop-index.invariant.moved_so_far c.loop-index-test.true refl)

pub loop-index-preserved : goal.loop-index-preserved
loop-index-preserved c =
    let all = c.args.bodies.now.items in
    let before = c.args.states.now.items in
    record {
      moved_so_far = rw add-one
          (walked_more is_carried (moved_where moves all before) (begun_where moves before) c.args.carried.now c.loop-index.index (slice_index_or c.args.carried.now c.loop-index.index 0) c.loop-index.bodies.items c.move_slot-in-loop-index.new.bodies.items c.loop-index.states.items c.move_slot-in-loop-index.new.states.items
          (second_long all before (c.requires.same.long ∙ length-states all)) c.loop-index.invariant.moved_so_far c.loop-index-test.true refl c.move_slot-in-loop-index.ensures.bodies c.move_slot-in-loop-index.ensures.states);
      marked = marked_then all c.args.marks.now c.loop-index.bodies.items c.loop-index.marks c.move_slot-in-loop-index.new.bodies.items c.move_slot-in-loop-index.new.marks c.loop-index.invariant.marked c.move_slot-in-loop-index.ensures.marked;
      long = c.move_slot-in-loop-index.ensures.len ∙ c.loop-index.invariant.long;
      covered = c.move_slot-in-loop-index.ensures.covered;
      boxes_long = c.move_slot-in-loop-index.ensures.boxes ∙ c.loop-index.invariant.boxes_long;
    }

pub returns-clause-value : goal.returns-clause-value
returns-clause-value c =
    let all = c.args.bodies.now.items in
    let before = c.args.states.now.items in
    (both_walked all before c.loop-index.bodies.items c.loop-index.states.items c.requires.same (walked_last is_carried (moved_where moves all before) (begun_where moves before) c.args.carried.now c.loop-index.index c.loop-index.bodies.items c.loop-index.states.items
    (second_long all before (c.requires.same.long ∙ length-states all)) c.loop-index.invariant.moved_so_far (omega (arith, c.loop-index-test.false)))).bodies

pub returns-clause-states : goal.returns-clause-states
returns-clause-states c =
    let all = c.args.bodies.now.items in
    let before = c.args.states.now.items in
    (both_walked all before c.loop-index.bodies.items c.loop-index.states.items c.requires.same (walked_last is_carried (moved_where moves all before) (begun_where moves before) c.args.carried.now c.loop-index.index c.loop-index.bodies.items c.loop-index.states.items
    (second_long all before (c.requires.same.long ∙ length-states all)) c.loop-index.invariant.moved_so_far (omega (arith, c.loop-index-test.false)))).states

pub returns-clause-awake : goal.returns-clause-awake
returns-clause-awake c =
    let all = c.args.bodies.now.items in
    let before = c.args.states.now.items in
    c.requires.awake ∙ sym (movers_both before c.loop-index.states.items (walked_last is_carried (moved_where moves all before) (begun_where moves before) c.args.carried.now c.loop-index.index c.loop-index.bodies.items c.loop-index.states.items
    (second_long all before (c.requires.same.long ∙ length-states all)) c.loop-index.invariant.moved_so_far (omega (arith, c.loop-index-test.false))).states)

pub returns-clause-carried : goal.returns-clause-carried
returns-clause-carried c =
    let all = c.args.bodies.now.items in
    let before = c.args.states.now.items in
    c.requires.carried ∙ sym (carried_both before c.loop-index.states.items (walked_last is_carried (moved_where moves all before) (begun_where moves before) c.args.carried.now c.loop-index.index c.loop-index.bodies.items c.loop-index.states.items
    (second_long all before (c.requires.same.long ∙ length-states all)) c.loop-index.invariant.moved_so_far (omega (arith, c.loop-index-test.false))).states)

pub returns-clause-bodies : goal.returns-clause-bodies
returns-clause-bodies c = rw (returns-clause-value c) (bodies-both c.args.bodies.now.items c.args.states.now.items c.requires.bodies c.requires.states c.requires.courses c.requires.same)

pub returns-clause-slots : goal.returns-clause-slots
returns-clause-slots c = rw (returns-clause-value c) (slots-both c.args.bodies.now.items c.args.states.now.items)

pub returns-clause-standing : goal.returns-clause-standing
returns-clause-standing c = rw (returns-clause-value c) (standing-both c.args.bodies.now.items c.args.states.now.items)

pub returns-clause-momentum : goal.returns-clause-momentum
returns-clause-momentum c = rw (returns-clause-value c) (momentum-both c.args.bodies.now.items c.args.states.now.items c.requires.bodies c.requires.same)
