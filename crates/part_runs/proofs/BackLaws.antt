-- The bodies after a step, read back from the parts' runs, and the rows that each part has of it.
use Rattle.std.proofs.Common.{ℕ, List, length, get_or, sym, ap, ap₂, ◌∙◌}
use Rattle.momenta.specs.declared.state.BodyState.{BodyState}
use Rattle.colour_solver.specs.declared.constraint_row.ConstraintRow.{ConstraintRow}
use Rattle.colour_solver.specs.ColourRows.{all_rows}
use Rattle.colour_solver.specs.ConstraintVisits.{constraint_slots}
use Rattle.colour_solver.specs.States.{nobody}
use Rattle.colour_solver.specs.Ticks.{Run, ran, start}
use Rattle.part_runs.specs.Hidden.{part_at}
use Rattle.part_runs.specs.Runs.{IsReached, Stand, at_home, part_ran, ran_stand, stand_of}
use Rattle.part_runs.specs.ReadBack.{picked}
use Rattle.part_runs.specs.Laws.{RunsAreReadBack}
use Rattle.part_runs.proofs.BodyBackLaws.{bodies_back}
use Rattle.part_runs.proofs.FlatLaws.{flat}
use Rattle.part_runs.proofs.ListLaws.{length_mapped}
use Rattle.part_runs.proofs.OwnerLaws.{count_owners, owners_below, owners_by, owners_flat, stages_picked}
use Rattle.part_runs.proofs.ReachLaws.{ran_reached}
use Rattle.part_runs.proofs.RunWhole.{IsKept, ran_kept}
use Rattle.part_runs.proofs.SummedLaws.{ran_summed}

pub runs_back : RunsAreReadBack
runs_back t n positive can homes =
    let r : Run = ran t.count t.gravity (start t.states (all_rows t.rows)) in
    let s : Stand = ran_stand t.count t.gravity (stand_of t) in
    let kept : IsKept t.states (all_rows t.rows) r = ran_kept t.count t.gravity t.states (all_rows t.rows) in
    let summed = ran_summed t n positive can homes in
    let reached : IsReached t s = ran_reached t in
    record {
      states = bodies_back (part_at t.home) t.states r.states (λ k. (part_ran t k).states) (λ slot. ap (λ (l : List BodyState). (get_or l slot nobody).movable) summed.states ∙ reached.movers slot) (λ k. ap (at_home t k) summed.states);
      long = kept.long;
      names = kept.names;
      count = count_owners constraint_slots t.home t.states (flat t.rows.colours) t.rows.left ∙ sym (length_mapped constraint_slots (all_rows t.rows)) ∙ ap length (sym kept.slots) ∙ length_mapped constraint_slots r.rows;
      below = owners_below n constraint_slots t.home t.states (flat t.rows.colours) t.rows.left positive homes.below;
      rows = λ k.
          stages_picked t.home k t.states s.rows ∙ ap₂ (λ (o : List ℕ) (l : List ConstraintRow). picked k o l) (ap (owners_by t.home t.states) reached.slots ∙ owners_flat t.home t.states t.rows.colours t.rows.left) (sym summed.rows);
    }
