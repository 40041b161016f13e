-- The colour of a constraint, found among the members of the colours and among their names.
use Rattle.std.proofs.Common.{◌≡◌, ◌+◌, ◌++◌, List, [], ◌∷◌, length, map, Bool, arith, refl, sym, ap}
use Rattle.std.specs.Prelude.{◌==◌, ◌||◌}
use Rattle.std.specs.List.{list_any, position_or_len}
use Rattle.std.proofs.lemmas.List.{length-append, length-map}
use Rattle.graph_colours.specs.FoundMembers.{colour_of, has_id}
use Rattle.graph_colours.proofs.SearchLemmas.{found_in_map}
use Rattle.plain_world.specs.Constraints.{constraint_number}
use Rattle.plain_world.specs.Plain as plain
use Rattle.plain_world.specs.Plain.{has_constraint}
use Rattle.graph_colours.specs.declared.member.Member.{Member}
use Rattle.graph_colours.specs.Colours.{all_members, ids_of}
use Rattle.plain_world.specs.declared.constraint.Constraint.{Constraint}
use Rattle.solver_sets.specs.Ties.{Lists}
use Rattle.world_core_base.specs.Solving.{solve_order}

any_id : (c : Constraint) (ms : List (Member Constraint)) → list_any (λ (m : Member Constraint). constraint_number m.id == constraint_number c) ms ≡ has_constraint c (map (λ (m : Member Constraint). m.id) ms)
any_id c [] = refl
any_id c (m ∷ ms) = ap (λ (rest : Bool). (constraint_number m.id == constraint_number c) || rest) (any_id c ms)

id_there : (c : Constraint) (ms : List (Member Constraint)) → has_id constraint_number c ms ≡ has_constraint c (map (λ (m : Member Constraint). m.id) ms)
unfolding has_id
id_there c ms = any_id c ms

-- as many members as ids
pub members_counted : (lists : Lists) → length (all_members lists) ≡ length (solve_order (ids_of lists))
members_counted [] = refl
members_counted (ms ∷ lists) =
    let ids : List Constraint = map (λ (m : Member Constraint). m.id) ms in
    let members : length (ms ++ all_members lists) ≡ length ms + length (all_members lists) = length-append ms (all_members lists) in
    let named : length (ids ++ solve_order (ids_of lists)) ≡ length ids + length (solve_order (ids_of lists)) = length-append ids (solve_order (ids_of lists)) in
    let same : length ids ≡ length ms = length-map ms (λ (m : Member Constraint). m.id) in
    let rest = members_counted lists in
    omega (arith, members, named, same, rest)

pub colour_by_ids : (c : Constraint) (lists : Lists) → colour_of constraint_number c lists ≡ plain.colour_of c (ids_of lists)
unfolding colour_of plain.colour_of
colour_by_ids c lists =
    let ids : List (Member Constraint) → List Constraint = map (λ (m : Member Constraint). m.id) in
    let same : position_or_len (has_constraint c) (map ids lists) ≡ position_or_len (has_id constraint_number c) lists = found_in_map ids (has_constraint c) (has_id constraint_number c) lists (λ ms. sym (id_there c ms)) in
    rw (same, length-map lists ids) refl
