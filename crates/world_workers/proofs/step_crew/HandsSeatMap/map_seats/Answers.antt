use Rattle.std.proofs.Common.{◌≡◌, ◌++◌, List, length, map, arith, refl, ap, ◌∙◌}
use Rattle.std.specs.List.{filter_map}
use Rattle.std.proofs.lemmas.List.{length-map}
use Rattle.part_solver.specs.Parts.{Solved, solved}
use Rattle.world_workers.specs.Tasks.{done_of, part_of}
use Rattle.world_workers.specs.declared.tasks.Task.{Task}
use Rattle.world_workers.specs.declared.tasks.Task.TheVariants.{Seat}
use Rattle.world_workers.proofs.TaskLaws.{all_taken}
use Rattle.world_workers.proofs.step_crew.HandsSeatMap.map_seats.Goals as goal

pub map_tasks-requires : goal.map_tasks-requires
map_tasks-requires g c =
    let long = ap (λ (l : List Task). length l) (c.list_seats.ensures c.if-not-list_seats.false) ∙ length-map c.args.seats.now.items Seat in
    omega (arith, long, c.requires.room)

pub returns : goal.returns
returns g c = record {
  parts = λ e.
      c.map_tasks.ensures e ∙ ap (λ (l : List Solved). c.args.parts.now.items ++ l)
      (ap (λ (ts : List Task). filter_map part_of (map done_of ts)) (c.list_seats.ensures c.if-not-list_seats.false) ∙ all_taken part_of done_of Seat solved (λ s. refl) c.args.seats.now.items);
}
