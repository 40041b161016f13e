use Rattle.std.proofs.Common.{◌≡◌, ℕ, ◌<◌, Bool, nat_eq, List, Option, length, ap, subst, sym, ◌∙◌}
use Rattle.std.proofs.lemmas.List.Elements.{All-filter}
use Rattle.std.proofs.lemmas.List.Kept.{AllPairs-filter}
use Rattle.momenta.specs.declared.state.BodyState.{BodyState}
use Rattle.contacts_base.specs.Split.{contacts_in}
use Rattle.plain_world.specs.Constraints.{constraint_number}
use Rattle.plain_world.specs.declared.constraint.Constraint.{Constraint}
use Rattle.graph_colours.specs.declared.member.Member.{Member}
use Rattle.graph_colours.specs.Members.{AreRising}
use Rattle.colour_solver.specs.ColourRows.{ColourRows}
use Rattle.colour_solver.specs.ConstraintVisits.{AreRowsBelow}
use Rattle.colour_solver.specs.declared.constraint_row.ConstraintRow.{ConstraintRow}
use Rattle.plain_world.specs.declared.joint.BodyJoint.{BodyJoint}
use Rattle.world_core_base.specs.ConstraintRows.{HasJointOn, HaveJointsOn, HaveMovable, IsMovable, rows_in}
use Rattle.part_solver.specs.Stages.{slots_in}
use Rattle.part_solver.specs.Walking.{own_members, owner_of}
use Rattle.part_solver.proofs.GatherSteps.{own_rows}
use Rattle.part_solver.proofs.walk.walk_stage.Goals as goal

-- whether a constraint is the part's own
abbrev is_own : List BodyState → List ℕ → Bool → ℕ → List (Option BodyJoint) → Member Constraint → Bool
is_own states home coloured k joints m = nat_eq (owner_of states home coloured (slots_in joints m.id)) k

pub gather_colour-requires-clause-joints : goal.gather_colour-requires-clause-joints
gather_colour-requires-clause-joints c =
    let states = c.args.homes.states.now in
    let joints = c.args.sources.joints.now in
    let own : Member Constraint → Bool = is_own states c.args.homes.home.now c.args.coloured c.args.homes.number joints in
    subst (HaveJointsOn states joints) (sym (c.as_slice-own.ensures.value ∙ c.walk_members.ensures.own)) (All-filter own (λ (m : Member Constraint). HasJointOn states joints m.id) c.args.sources.members.now c.requires.can.joined)

pub gather_colour-requires-clause-contacts : goal.gather_colour-requires-clause-contacts
gather_colour-requires-clause-contacts c = c.requires.can.contacts_on

pub gather_colour-requires-clause-movable : goal.gather_colour-requires-clause-movable
gather_colour-requires-clause-movable c =
    let states = c.args.homes.states.now in
    let own : Member Constraint → Bool = is_own states c.args.homes.home.now c.args.coloured c.args.homes.number c.args.sources.joints.now in
    subst (HaveMovable states) (sym (c.as_slice-own.ensures.value ∙ c.walk_members.ensures.own)) (All-filter own (λ (m : Member Constraint). IsMovable states m.id) c.args.sources.members.now c.requires.can.movable)

pub gather_colour-requires-clause-ascend : goal.gather_colour-requires-clause-ascend
gather_colour-requires-clause-ascend c =
    let own : Member Constraint → Bool = is_own c.args.homes.states.now c.args.homes.home.now c.args.coloured c.args.homes.number c.args.sources.joints.now in
    subst (AreRising constraint_number) (sym (c.as_slice-own.ensures.value ∙ c.walk_members.ensures.own)) (AllPairs-filter (λ (m later : Member Constraint). constraint_number m.id < constraint_number later.id) own c.args.sources.members.now c.requires.can.rising)

pub returns-clause-own : goal.returns-clause-own
returns-clause-own c =
    let states = c.args.homes.states.now in
    let joints = c.args.sources.joints.now in
    let contacts = contacts_in c.args.sources.contacts.now in
    let members = c.args.sources.members.now in
    let made : c.gather_colour.new.rows.left ≡ rows_in states joints contacts (own_members states c.args.homes.home.now c.args.coloured c.args.homes.number joints members) =
    c.gather_colour.ensures.left ∙ ap (rows_in states joints contacts) (c.as_slice-own.ensures.value ∙ c.walk_members.ensures.own) in
    let own = made ∙ own_rows states c.args.homes.home.now c.args.coloured c.args.homes.number joints contacts members c.requires.can.there in
    let before : c.gather_colour.new.rows.colours ≡ c.args.lists.now.rows.colours = c.gather_colour.ensures.colours ∙ ap (λ (r : ColourRows ConstraintRow). r.colours) c.walk_members.ensures.rows in
    rw (before, own) at c.end_colour.ensures.colours

pub returns-clause-below : goal.returns-clause-below
returns-clause-below c =
    let states = c.args.homes.states.now in
    let joints = c.args.sources.joints.now in
    let contacts = contacts_in c.args.sources.contacts.now in
    let members = c.args.sources.members.now in
    let made : c.gather_colour.new.rows.left ≡ rows_in states joints contacts (own_members states c.args.homes.home.now c.args.coloured c.args.homes.number joints members) =
    c.gather_colour.ensures.left ∙ ap (rows_in states joints contacts) (c.as_slice-own.ensures.value ∙ c.walk_members.ensures.own) in
    let own = made ∙ own_rows states c.args.homes.home.now c.args.coloured c.args.homes.number joints contacts members c.requires.can.there in
    subst (AreRowsBelow (length states)) own c.gather_colour.ensures.rows
