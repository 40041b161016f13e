-- How many constraints there are in some stages, one stage further and in all.
use Rattle.std.proofs.Common.{◌≡◌, ◌+◌, ◌<◌, ◌≤◌, ℕ, List, [], ◌∷◌, ◌++◌, get_or, length, take, ap, ◌∙◌}
use Rattle.std.proofs.lemmas.List.{append-nil, length-append, map_push, take_all, take_more}
use Rattle.std.proofs.lemmas.List.Concat.{flat_map-append}
use Rattle.graph_colours.specs.Colours.{all_members}
use Rattle.graph_colours.specs.declared.member.Member.{Member}
use Rattle.plain_world.specs.declared.constraint.Constraint.{Constraint}
use Rattle.part_solver.specs.Stages.{lists_of}
use Rattle.part_solver.specs.declared.stages.Stage.{Stage}

abbrev pub count_in : List Stage → ℕ
count_in stages = length (all_members (lists_of stages))

stage_more : (stages : List Stage) (s : Stage) → count_in (stages ++ s ∷ []) ≡ count_in stages + length s.members.items
stage_more stages s =
    ap (λ (l : List (List (Member Constraint))). length (all_members l)) (map_push (λ (x : Stage). x.members.items) stages s) ∙ ap length (flat_map-append (λ (ms : List (Member Constraint)). ms) (lists_of stages) (s.members.items ∷ []))
    ∙ length-append (all_members (lists_of stages)) (all_members (s.members.items ∷ [])) ∙ ap (λ (l : List (Member Constraint)). count_in stages + length l) (append-nil s.members.items)

pub counted_more : (stages : List Stage) (i : ℕ) (d : Stage) → i < length stages → count_in (take (i + 1) stages) ≡ count_in (take i stages) + length (get_or stages i d).members.items
counted_more stages i d lt = ap count_in (take_more stages i d lt) ∙ stage_more (take i stages) (get_or stages i d)

pub counted_all : (stages : List Stage) (i : ℕ) → length stages ≤ i → count_in (take i stages) ≡ count_in stages
counted_all stages i le = ap count_in (take_all i stages le)
