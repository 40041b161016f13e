-- What is lent of a stage gives its rows.
use Rattle.std.proofs.Common.{◌≡◌, ℕ, ◌+◌, ◌<◌, List, [], Option, length, get_or, take, All, arith, sym, ap, subst, ◌∙◌}
use Rattle.momenta.specs.declared.state.BodyState.{BodyState}
use Rattle.graph_colours.specs.declared.limits.TheConstants.{COLOURS}
use Rattle.graph_colours.specs.Members.{AreRising}
use Rattle.graph_colours.specs.declared.member.Member.{Member}
use Rattle.contacts_base.specs.declared.contact.ContactEntry.{ContactEntry}
use Rattle.plain_world.specs.Constraints.{constraint_number}
use Rattle.plain_world.specs.declared.constraint.Constraint.{Constraint}
use Rattle.plain_world.specs.declared.joint.BodyJoint.{BodyJoint}
use Rattle.colour_solver.specs.declared.row_visits.Slots.{Slots}
use Rattle.std.proofs.lemmas.List.{get_or-take, length-map, length-take-le}
use Rattle.world_core_base.specs.ConstraintRows.{HaveJointsOn, HaveMovable, rows_in}
use Rattle.world_core_base.specs.StepRuns.{ArePresent}
use Rattle.part_runs.proofs.ListLaws.{get_or-mapped}
use Rattle.part_solver.specs.Lending.{CanLend}
use Rattle.part_solver.specs.Stages.{CanGather, HaveTheRows, lists_of, rows_by, slot_lists, slots_of}
use Rattle.part_solver.specs.declared.stages.Stage.{Stage}
use Rattle.part_solver.proofs.GatherSteps.{rows_count}

module _ (states : List BodyState) (joints : List (Option BodyJoint)) (contacts : List ContactEntry) (stages : List Stage) (can : CanLend states joints contacts stages) (i : ℕ) (lt : i < COLOURS + 1) (members : List (Member Constraint)) (slots : List Slots)
    (members_are : members ≡ get_or (lists_of stages) i []) (slots_are : slots ≡ get_or (slot_lists stages) i []) where
  of_lists : (P : List (Member Constraint) → Type 0) → All P (lists_of stages) → P members
  of_lists P all = subst P (sym members_are) (all i [] (let count = can.are.count in let long = length-map stages (λ (s : Stage). s.members.items) in omega (arith, lt, count, long)))

  pub stage_can : CanGather states joints contacts members slots
  stage_can = record {
    slots_are =
        slots_are ∙ ap (λ (l : List (List Slots)). get_or l i []) can.are.slots ∙ get_or-mapped (slots_of joints) (lists_of stages) i [] [] (let count = can.are.count in let long = length-map stages (λ (s : Stage). s.members.items) in omega (arith, lt, count, long))
        ∙ ap (slots_of joints) (sym members_are);
    contacts_on = can.can.contacts_on;
    joined = of_lists (HaveJointsOn states joints) can.can.joined;
    movable = of_lists (HaveMovable states) can.can.movable;
    there = of_lists (ArePresent joints contacts) can.can.there;
    rising = of_lists (AreRising constraint_number) can.are.rising;
  }

  count_is : length members ≡ length (rows_in states joints contacts members)
  count_is = rows_count states joints contacts members (of_lists (ArePresent joints contacts) can.can.there)

  -- those of a colour, and of the overflow
  pub colour_rows : i < COLOURS → HaveTheRows states joints contacts members (get_or (rows_by states joints contacts (lists_of stages)).colours i [])
  colour_rows less =
      let all : length (lists_of stages) ≡ COLOURS + 1 = length-map stages (λ (s : Stage). s.members.items) ∙ can.are.count in
      let long : length (take COLOURS (lists_of stages)) ≡ COLOURS = length-take-le COLOURS (lists_of stages) (omega (arith, all)) in
      let is : get_or (rows_by states joints contacts (lists_of stages)).colours i [] ≡ rows_in states joints contacts members =
      get_or-mapped (rows_in states joints contacts) (take COLOURS (lists_of stages)) i [] [] (omega (arith, less, long)) ∙ ap (rows_in states joints contacts) (get_or-take COLOURS (lists_of stages) i [] less ∙ sym members_are) in
      record { rows_are = sym is; count = count_is ∙ ap length (sym is) }

  pub left_rows : i ≡ COLOURS → HaveTheRows states joints contacts members (rows_by states joints contacts (lists_of stages)).left
  left_rows last =
      let is : (rows_by states joints contacts (lists_of stages)).left ≡ rows_in states joints contacts members = ap (λ (n : ℕ). rows_in states joints contacts (get_or (lists_of stages) n [])) (sym last) ∙ ap (rows_in states joints contacts) (sym members_are) in
      record { rows_are = sym is; count = count_is ∙ ap length (sym is) }
