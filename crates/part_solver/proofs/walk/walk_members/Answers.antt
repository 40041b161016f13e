use Rattle.std.proofs.Common.{◌≡◌, ℕ, ◌+◌, List, [], ◌∷◌, ◌++◌, get_or, length, take, arith, refl, sym, ap, subst, ◌∙◌}
use Rattle.std.proofs.lemmas.List.{append-nil, length-map}
use Rattle.contacts_base.specs.Split.{contacts_in}
use Rattle.plain_world.specs.declared.constraint.Constraint.{Constraint}
use Rattle.graph_colours.specs.declared.member.Member.{Member}
use Rattle.colour_solver.specs.declared.constraint_row.ConstraintRow.{ConstraintRow}
use Rattle.colour_solver.specs.declared.row_visits.Slots.{Slots}
use Rattle.part_runs.specs.Walks.{setting_out, walk_rows}
use Rattle.world_core_base.specs.ConstraintRows.{rows_in}
use Rattle.world_core_base.proofs.PresentLaws.{IsRowOf, row_there}
use Rattle.part_solver.specs.Stages.{slots_in}
use Rattle.part_solver.specs.Walking.{IsOnward, owner_in, owner_of}
use Rattle.part_solver.proofs.GatherSteps.{own_next, rows_next, slots_here, slots_there}
use Rattle.part_solver.proofs.WalkSteps.{row_onward}
use Rattle.part_solver.proofs.walk.walk_members.Goals as goal

pub loop-index-init : goal.loop-index-init
loop-index-init c =
    let no_own = ap length c.requires.none in
    record {
      onward = record { at = refl; moves = sym (append-nil c.args.lists.now.moves.items) };
      own = c.requires.none;
      few_own = omega (arith, no_own, c.args.lists.now.own.ok);
      own_room = refl;
      rows = refl;
      moves_room = refl;
      few = omega arith;
      states_same = refl;
      awake = refl;
      carried = refl;
      ends = refl;
      ends_room = refl;
    }

pub loop-index-preserved : goal.loop-index-preserved
loop-index-preserved c =
    let states = c.args.homes.states.now in
    let home = c.args.homes.home.now in
    let joints = c.args.sources.joints.now in
    let contacts = contacts_in c.args.sources.contacts.now in
    let members = c.args.sources.members.now in
    let can = c.requires.can in
    let i = c.loop-index.index in
    let lt = c.loop-index-test.true in
    let m : Member Constraint = c.member_at-member.result in
    let known = c.loop-index.invariant in
    let to : ConstraintRow → ℕ = owner_in states home c.args.coloured in
    let k = c.args.homes.number in
    let part = c.fetch_row-part.result in
    let slots : Slots = c.slots_at-slots.result in
    let there : IsRowOf states joints contacts (get_or members i m).id = row_there states joints contacts (get_or members i m).id (can.there i m lt) in
    let row : ConstraintRow = there.row in
    let slots_are = slots_here states joints contacts members c.args.sources.slots.now i m slots row lt can.slots_are c.slots_at-slots.ensures there.is in
    let own_slots : slots ≡ slots_in joints (get_or members i m).id = slots_there joints members c.args.sources.slots.now i m slots lt can.slots_are c.slots_at-slots.ensures in
    let is : part ≡ to row = c.fetch_row-part.ensures.part ∙ ap (owner_of states home c.args.coloured) slots_are in
    let so_far : List ConstraintRow = rows_in states joints contacts (take i members) in
    let next : rows_in states joints contacts (take (i + 1) members) ≡ so_far ++ row ∷ [] = rows_next states joints contacts members i m row lt there.is in
    record {
      onward =
          subst (λ (l : List ConstraintRow). IsOnward k (walk_rows states to l (setting_out c.args.lists.now.at.items)) c.fetch_row-part.new.at.items c.args.lists.now.moves.items c.fetch_row-part.new.moves.items) (sym next)
          (row_onward k states to so_far row part slots c.args.lists.now.at.items c.loop-index.lists.at.items c.fetch_row-part.new.at.items c.args.lists.now.moves.items c.loop-index.lists.moves.items c.fetch_row-part.new.moves.items is slots_are known.onward c.fetch_row-part.ensures.onward);
      own =
          c.keep_member.ensures.own
          ∙ own_next states home c.args.coloured k joints members c.loop-index.lists.own.items i m part lt c.member_at-member.ensures (c.fetch_row-part.ensures.part ∙ ap (owner_of states home c.args.coloured) own_slots) known.own;
      few_own = omega (arith, c.keep_member.ensures.few, known.few_own);
      own_room = c.keep_member.ensures.room ∙ known.own_room;
      rows = known.rows;
      moves_room = c.fetch_row-part.ensures.room ∙ known.moves_room;
      few = omega (arith, c.fetch_row-part.ensures.few, known.few);
      states_same = known.states_same;
      awake = known.awake;
      carried = known.carried;
      ends = known.ends;
      ends_room = known.ends_room;
    }

pub slots_at-slots-requires : goal.slots_at-slots-requires
slots_at-slots-requires c =
    let long = ap length c.requires.can.slots_are in
    let same = length-map c.args.sources.members.now (λ (m : Member Constraint). slots_in c.args.sources.joints.now m.id) in
    omega (arith, c.loop-index-test.true, long, same)
