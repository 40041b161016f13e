use Rattle.std.proofs.Common.{◌≡◌, ◌++◌, ◌∙◌, List, ap, sym}
use Rattle.plain_world.specs.declared.constraint.Constraint.{Constraint}
use Rattle.graph_colours.specs.declared.member.Member.{Member}
use Rattle.solver_sets.specs.Ties.{joint_ties_at}
use Rattle.world_core.specs.WorldTies.{contact_ties_at}
use Rattle.world_core.specs.contracts.world.WorldCore.{the_view}
use Rattle.world_core.proofs.OwnContactLaws.{ties_at_are}
use Rattle.world_core.proofs.WorldSourceLaws.{world_can_tell}
use Rattle.world_rules.specs.World.{World, joints_in_slots}
use Rattle.world_core.proofs.world.WorldCore.ties_at.Goals as goal

pub contact_ties-requires-clause-rising : goal.contact_ties-requires-clause-rising
contact_ties-requires-clause-rising c = (world_can_tell (the_view c.self.inside) c.self.inside.activity.sets.acting c.self.invariant.whole).rising

pub contact_ties-requires-clause-two : goal.contact_ties-requires-clause-two
contact_ties-requires-clause-two c = (world_can_tell (the_view c.self.inside) c.self.inside.activity.sets.acting c.self.invariant.whole).two

pub returns-clause-ties : goal.returns-clause-ties
returns-clause-ties c =
    let w : World = the_view c.self.inside in
    let joints : c.in_ok-ties.ties.items ≡ joint_ties_at c.args.slot w.plain.bodies (joints_in_slots w.plain) = rw (c.bodies.ensures, c.slot_entries.ensures) at c.in_ok-ties.ensures.ties in
    let contacts : c.in_ok-contacts.contacts.items ≡ contact_ties_at c.args.slot w.plain.bodies w.plain.contacts = rw c.bodies-2.ensures at c.in_ok-contacts.ensures.ties in
    rw (← c.self.view_is)
    (c.in_ok-extend_from_slice.ensures.items
    ∙ ap (λ (l : List (Member Constraint)). c.in_ok-ties.ties.items ++ l) (c.deref.ensures.value ∙ contacts)
    ∙ ap (λ (l : List (Member Constraint)). l ++ contact_ties_at c.args.slot w.plain.bodies w.plain.contacts) joints
    ∙ sym (ties_at_are w.plain.bodies (joints_in_slots w.plain) w.plain.contacts c.args.slot))
