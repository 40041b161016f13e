use Rattle.std.proofs.Common.{◌≡◌, ◌++◌, List, length, map, arith, refl, ap, ◌∙◌}
use Rattle.std.specs.Arc.{arc_value}
use Rattle.std.specs.List.{filter_map}
use Rattle.std.proofs.lemmas.List.{length-map}
use Rattle.contacts.specs.SurveyValues.{Looks}
use Rattle.world_workers.specs.Tasks.{done_of, look_of, looked_by}
use Rattle.world_workers.specs.declared.tasks.Task.{Task}
use Rattle.world_workers.specs.declared.tasks.Task.TheVariants.{Look}
use Rattle.world_workers.proofs.TaskLaws.{all_taken}
use Rattle.world_workers.proofs.step_crew.Hands.map_looks.Goals as goal

pub map_tasks-requires : goal.map_tasks-requires
map_tasks-requires g c =
    let long = ap (λ (l : List Task). length l) (c.list_looks.ensures c.if-not-list_looks.false) ∙ length-map c.args.pieces.now.items (λ p. Look (arc_value c.args.lent.now, p)) in
    omega (arith, long, c.requires)

pub returns : goal.returns
returns g c = λ e.
    c.map_tasks.ensures e ∙ ap (λ (l : List Looks). c.args.answers.now.items ++ l)
    (ap (λ (ts : List Task). filter_map look_of (map done_of ts)) (c.list_looks.ensures c.if-not-list_looks.false) ∙ all_taken look_of done_of (λ p. Look (arc_value c.args.lent.now, p)) (looked_by (arc_value c.args.lent.now)) (λ p. refl) c.args.pieces.now.items)
