use Rattle.std.proofs.Common.{◌≡◌, List, [], ◌∷◌, ◌++◌, ap, ◌∙◌}
use Rattle.std.proofs.lemmas.List.{map-append}
use Rattle.plain_world.specs.declared.constraint.Constraint.{Constraint}
use Rattle.graph_colours.specs.declared.member.Member.{Member}
use Rattle.colour_solver.specs.declared.row_visits.Slots.{Slots}
use Rattle.part_solver.specs.Stages.{lists_of, slot_lists}
use Rattle.part_solver.specs.declared.stages.Stage.{Stage}
use Rattle.part_solver.proofs.stages.add_stage.Goals as goal

lists_more : (old now : List Stage) (s : Stage) (members : List (Member Constraint)) → now ≡ old ++ s ∷ [] → s.members.items ≡ members → lists_of now ≡ lists_of old ++ members ∷ []
lists_more old now s members is made = ap lists_of is ∙ map-append (λ (x : Stage). x.members.items) old (s ∷ []) ∙ ap (λ (m : List (Member Constraint)). lists_of old ++ m ∷ []) made

slots_more : (old now : List Stage) (s : Stage) (slots : List Slots) → now ≡ old ++ s ∷ [] → s.slots.items ≡ slots → slot_lists now ≡ slot_lists old ++ slots ∷ []
slots_more old now s slots is made = ap slot_lists is ∙ map-append (λ (x : Stage). x.slots.items) old (s ∷ []) ∙ ap (λ (l : List Slots). slot_lists old ++ l ∷ []) made

pub returns-clause-lists : goal.returns-clause-lists
returns-clause-lists c = lists_more c.args.stages.now.items _ _ c.args.members.now c.in_ok-push_stage.ensures c.in_ok-fill_stage.ensures.0

pub returns-clause-slots : goal.returns-clause-slots
returns-clause-slots c = slots_more c.args.stages.now.items _ _ _ c.in_ok-push_stage.ensures c.in_ok-fill_stage.ensures.1
