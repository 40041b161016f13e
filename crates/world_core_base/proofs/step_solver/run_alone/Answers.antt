use Rattle.std.proofs.Common.{◌≡◌, ap, ◌∙◌}
use Rattle.colour_solver.specs.ColourRows.{all_rows}
use Rattle.colour_solver.specs.Ticks.{Run, ran, run_of, start}
use Rattle.world_core_base.specs.ConstraintRows.{rows_of}
use Rattle.world_core_base.specs.StepRuns.{run_over}
use Rattle.world_core_base.proofs.RowColourLaws.{gathered_apart}
use Rattle.world_core_base.proofs.StepRunLaws.{has_left, have_impulses}
use Rattle.world_core_base.proofs.step_solver.run_alone.Goals as goal

pub gather_rows-requires-clause-all_states : goal.gather_rows-requires-clause-all_states
gather_rows-requires-clause-all_states c = rw c.as_slice.ensures.value c.requires.can_run.can.states_within

pub gather_rows-requires-clause-joints : goal.gather_rows-requires-clause-joints
gather_rows-requires-clause-joints c = rw (c.as_slice.ensures.value, c.joints.ensures) c.requires.can_run.can.joined

pub gather_rows-requires-clause-contacts : goal.gather_rows-requires-clause-contacts
gather_rows-requires-clause-contacts c = rw (c.as_slice.ensures.value, c.split.ensures) c.requires.can_run.can.contacts_on

pub gather_rows-requires-clause-movable : goal.gather_rows-requires-clause-movable
gather_rows-requires-clause-movable c = rw c.as_slice.ensures.value c.requires.can_run.can.movable

-- no two rows of a colour share a mover
pub run_step-sums-requires-clause-apart : goal.run_step-sums-requires-clause-apart
run_step-sums-requires-clause-apart c =
    rw (c.gather_rows.ensures.colours, c.as_slice.ensures.value, c.joints.ensures)
    (gathered_apart c.args.states.now.items c.args.constraints.now.joints.joints _ c.args.colours.now.lists c.requires.can_run.can.movers c.requires.can_run.can.apart)

pub run_step-sums-requires-clause-rows : goal.run_step-sums-requires-clause-rows
run_step-sums-requires-clause-rows c = rw c.as_slice.ensures.value at c.gather_rows.ensures.rows

-- the run of the step, and what the ticks have left of it
abbrev run_now : (c : goal.After-put_impulses) → Run
run_now c = run_over c.args.pace.count c.args.pace.gravity c.args.states.now.items c.args.constraints.now.joints.joints c.args.constraints.now.contacts.contacts c.args.colours.now.lists

has_run : (c : goal.After-put_impulses) → run_of c.run_step-sums.new.states.items (all_rows c.run_step-sums.new.rows) c.run_step-sums.result ≡ run_now c
has_run c =
    let gathered : all_rows c.gather_rows.new.rows ≡ rows_of c.args.states.now.items c.args.constraints.now.joints.joints c.args.constraints.now.contacts.contacts c.args.colours.now.lists = rw (c.as_slice.ensures.value, c.joints.ensures, c.split.ensures) at c.gather_rows.ensures.value in
    c.run_step-sums.ensures.run ∙ ap (λ rows. ran c.args.pace.count c.args.pace.gravity (start c.args.states.now.items rows)) gathered

pub returns : goal.returns
returns c =
    let done = c.run_step-sums.ensures in
    record {
      has_run = record {
        left = has_left (run_now c) c.args.states.now.items c.run_step-sums.new.states.items (all_rows c.run_step-sums.new.rows) c.run_step-sums.result (has_run c) done.rows done.states done.long done.same done.courses done.small done.momentum;
        impulses = have_impulses (run_now c) c.run_step-sums.new.states.items (all_rows c.run_step-sums.new.rows) c.run_step-sums.result
            c.args.constraints.now.joints.joints c.put_impulses.new.constraints.joints.joints c.args.constraints.now.contacts.contacts c.put_impulses.new.constraints.contacts.contacts
            (has_run c) c.put_impulses.ensures.joints c.put_impulses.ensures.contacts;
        numbered = c.put_impulses.ensures.numbered;
      };
    }
