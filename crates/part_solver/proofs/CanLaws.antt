-- What a step may rely on, told of the rows that are gathered.
use Rattle.std.proofs.Common.{◌≡◌, ◌+◌, ◌<◌, List, [], ◌∷◌, length, map, take, All, Option, Some, None, arith, refl, sym, ap, ◌∙◌, subst}
use Rattle.std.specs.Prelude.{slice_index_or}
use Rattle.std.specs.List.{cons_option, flat_map}
use Rattle.std.proofs.lemmas.List.{length-append, length-map, length-take-le}
use Rattle.std.proofs.lemmas.List.Elements.{All-cons, All-head, All-nil, All-tail, All-take}
use Rattle.momenta.specs.declared.state.BodyState.{BodyState}
use Rattle.graph_colours.specs.Colours.{all_members}
use Rattle.graph_colours.specs.declared.limits.TheConstants.{COLOURS}
use Rattle.graph_colours.specs.declared.member.Member.{Member}
use Rattle.contacts_base.specs.declared.contact.ContactEntry.{ContactEntry}
use Rattle.plain_world.specs.declared.constraint.Constraint.{Constraint}
use Rattle.plain_world.specs.declared.constraint.Constraint.TheVariants as constraints
use Rattle.colour_solver.specs.ColourRows.{all_rows}
use Rattle.colour_solver.specs.declared.constraint_row.ConstraintRow.{ConstraintRow}
use Rattle.plain_world.specs.declared.joint.BodyJoint.{BodyJoint}
use Rattle.world_core_base.specs.ConstraintRows.{HasJointOn, HaveJointsOn, constraint_row, rows_in, rows_of}
use Rattle.world_core_base.specs.Gather.{AreContactsOn}
use Rattle.world_core_base.specs.StepRuns.{ArePresent, CanStep, IsPresent}
use Rattle.world_core_base.proofs.ColourLists.{all_joined, joined}
use Rattle.world_core_base.proofs.PresentLaws.{contact_placed}
use Rattle.world_core_base.proofs.RowColourLaws.{gathered_apart}
use Rattle.part_runs.specs.Hidden.{ArePlaced, IsPlaced, IsPlacedRow}
use Rattle.part_runs.specs.Laws.{CanRun}
use Rattle.part_solver.specs.Stages.{rows_by, slots_in}
use Rattle.part_solver.specs.Stages as stages
use Rattle.part_solver.proofs.GatherSteps.{rows_count}
use Rattle.part_solver.proofs.NameLaws.{row_stands}

-- ---- where the bodies of the rows stand

id_placed : (states : List BodyState) (joints : List (Option BodyJoint)) (contacts : List ContactEntry) (id : Constraint) → HasJointOn states joints id → AreContactsOn states contacts → IsPresent joints contacts id → IsPlaced (length states) (slots_in joints id)
id_placed states joints contacts (constraints.Joint h) joined on there =
    let at = joined there.joint there.found in
    subst (λ (o : Option BodyJoint). IsPlaced (length states) (stages.joint_ends o)) (sym there.found) (record { a = at.first; b = at.second; apart = at.apart })
id_placed states joints contacts (constraints.Contact key) joined on there =
    let at = contact_placed states contacts key on there in
    record { a = at.first; b = at.second; apart = at.apart }

next_placed : (states : List BodyState) (joints : List (Option BodyJoint)) (contacts : List ContactEntry) (id : Constraint) (o : Option ConstraintRow) (rows : List ConstraintRow) → constraint_row states joints contacts id ≡ o → IsPlaced (length states) (slots_in joints id) → ArePlaced (length states) rows
    → ArePlaced (length states) (cons_option o rows)
next_placed states joints contacts id None rows is here rest = rest
next_placed states joints contacts id (Some r) rows is here rest =
    All-cons (IsPlacedRow (length states)) r rows (subst (IsPlaced (length states)) (sym (row_stands states joints contacts id r is)) here) rest

list_placed : (states : List BodyState) (joints : List (Option BodyJoint)) (contacts : List ContactEntry) (members : List (Member Constraint)) → HaveJointsOn states joints members → AreContactsOn states contacts → ArePresent joints contacts members → ArePlaced (length states) (rows_in states joints contacts members)
list_placed states joints contacts [] joined on there = All-nil (IsPlacedRow (length states))
list_placed states joints contacts (m ∷ members) joined on there =
    next_placed states joints contacts m.id (constraint_row states joints contacts m.id) (rows_in states joints contacts members) refl
    (id_placed states joints contacts m.id (All-head (λ (x : Member Constraint). HasJointOn states joints x.id) m members joined) on (All-head (λ (x : Member Constraint). IsPresent joints contacts x.id) m members there))
    (list_placed states joints contacts members (All-tail (λ (x : Member Constraint). HasJointOn states joints x.id) m members joined) on (All-tail (λ (x : Member Constraint). IsPresent joints contacts x.id) m members there))

lists_placed : (states : List BodyState) (joints : List (Option BodyJoint)) (contacts : List ContactEntry) (lists : List (List (Member Constraint))) → All (HaveJointsOn states joints) lists → AreContactsOn states contacts → All (ArePresent joints contacts) lists
    → All (ArePlaced (length states)) (map (rows_in states joints contacts) lists)
lists_placed states joints contacts [] joined on there = All-nil (ArePlaced (length states))
lists_placed states joints contacts (ms ∷ lists) joined on there =
    All-cons (ArePlaced (length states)) (rows_in states joints contacts ms) (map (rows_in states joints contacts) lists)
    (list_placed states joints contacts ms (All-head (HaveJointsOn states joints) ms lists joined) on (All-head (ArePresent joints contacts) ms lists there))
    (lists_placed states joints contacts lists (All-tail (HaveJointsOn states joints) ms lists joined) on (All-tail (ArePresent joints contacts) ms lists there))

pub can_run : (states : List BodyState) (joints : List (Option BodyJoint)) (contacts : List ContactEntry) (lists : List (List (Member Constraint))) → length lists ≡ COLOURS + 1 → CanStep states joints contacts lists → CanRun states (rows_by states joints contacts lists)
can_run states joints contacts lists count can = record {
  states = can.states_within;
  courses = can.courses;
  rows =
      all_joined (IsPlacedRow (length states)) (map (rows_in states joints contacts) (take COLOURS lists)) (rows_in states joints contacts (slice_index_or lists COLOURS []))
      (lists_placed states joints contacts (take COLOURS lists) (All-take (HaveJointsOn states joints) COLOURS lists can.joined) can.contacts_on (All-take (ArePresent joints contacts) COLOURS lists can.there))
      (list_placed states joints contacts (slice_index_or lists COLOURS []) (can.joined COLOURS [] (let last : COLOURS < length lists = omega (arith, count) in last)) can.contacts_on (can.there COLOURS [] (let last : COLOURS < length lists = omega (arith, count) in last)));
  apart = gathered_apart states joints contacts lists can.movers can.apart;
}

-- ---- how many there are

lists_total : (states : List BodyState) (joints : List (Option BodyJoint)) (contacts : List ContactEntry) (lists : List (List (Member Constraint))) → All (ArePresent joints contacts) lists → length (flat_map (rows_in states joints contacts) lists) ≡ length (all_members lists)
lists_total states joints contacts [] there = refl
lists_total states joints contacts (ms ∷ lists) there =
    let here = rows_count states joints contacts ms (All-head (ArePresent joints contacts) ms lists there) in
    let rest = lists_total states joints contacts lists (All-tail (ArePresent joints contacts) ms lists there) in
    let one = length-append (rows_in states joints contacts ms) (flat_map (rows_in states joints contacts) lists) in
    let two = length-append ms (all_members lists) in
    omega (arith, here, rest, one, two)

pub rows_total : (states : List BodyState) (joints : List (Option BodyJoint)) (contacts : List ContactEntry) (lists : List (List (Member Constraint))) → length lists ≡ COLOURS + 1 → All (ArePresent joints contacts) lists → length (all_rows (rows_by states joints contacts lists)) ≡ length (all_members lists)
unfolding rows_of
rows_total states joints contacts lists count there =
    ap length (joined (rows_in states joints contacts) lists COLOURS [] (map (rows_in states joints contacts) (take COLOURS lists)) (rows_in states joints contacts (slice_index_or lists COLOURS [])) count refl refl) ∙ lists_total states joints contacts lists there

pub colours_count : (states : List BodyState) (joints : List (Option BodyJoint)) (contacts : List ContactEntry) (lists : List (List (Member Constraint))) → length lists ≡ COLOURS + 1 → length (rows_by states joints contacts lists).colours ≡ COLOURS
colours_count states joints contacts lists count = length-map (take COLOURS lists) (rows_in states joints contacts) ∙ length-take-le COLOURS lists (omega (arith, count))
