use Rattle.std.proofs.Common.{◌≡◌, ◌++◌, List, length, map, arith, refl, ap, ◌∙◌}
use Rattle.std.specs.Arc.{arc_value}
use Rattle.std.specs.List.{filter_map}
use Rattle.std.proofs.lemmas.List.{length-map}
use Rattle.contacts.specs.PairValues.{Evaluated}
use Rattle.contacts.specs.PairPieces.{evaluated}
use Rattle.world_workers.specs.Tasks.{done_of, pairs_of}
use Rattle.world_workers.specs.declared.tasks.Task.{Task}
use Rattle.world_workers.specs.declared.tasks.Task.TheVariants.{Pairs}
use Rattle.world_workers.proofs.TaskLaws.{all_taken}
use Rattle.world_workers.proofs.step_crew.Hands.map_pairs.Goals as goal

pub map_tasks-requires : goal.map_tasks-requires
map_tasks-requires g c =
    let long = ap (λ (l : List Task). length l) (c.list_pairs.ensures c.if-not-list_pairs.false) ∙ length-map c.args.pieces.now.items (λ p. Pairs (arc_value c.args.lent.now, p)) in
    omega (arith, long, c.requires)

pub returns : goal.returns
returns g c = λ e.
    c.map_tasks.ensures e ∙ ap (λ (l : List Evaluated). c.args.answers.now.items ++ l)
    (ap (λ (ts : List Task). filter_map pairs_of (map done_of ts)) (c.list_pairs.ensures c.if-not-list_pairs.false) ∙ all_taken pairs_of done_of (λ p. Pairs (arc_value c.args.lent.now, p)) (evaluated (arc_value c.args.lent.now)) (λ p. refl) c.args.pieces.now.items)
