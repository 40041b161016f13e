use Rattle.std.proofs.Common.{◌≡◌, ◌<◌, ◌^◌, ◌∙◌, IfOk, length, ap, rules, subst, sym}
use Rattle.plain_world.specs.Constraints.{constraint_number}
use Rattle.plain_world.specs.declared.constraint.Constraint.{Constraint}
use Rattle.graph_colours.specs.Given.{members_of}
use Rattle.sleep_wake.specs.Acting.{Acting, IsConsistent}
use Rattle.solver_sets.specs.Ties.{ties_of}
use Rattle.world_rules.specs.World.{joints_in_slots}
use Rattle.world_core.proofs.LoadingLaws.{acting_by, colours_there, few_members}
use Rattle.world_core.proofs.world.loading.sets_of.Goals as goal

pub list_members-requires : goal.list_members-requires
list_members-requires c = colours_there c.args.plain.now c.requires.consistent

pub count_members-count-requires : goal.count_members-count-requires
count_members-count-requires c =
    let p = c.args.plain.now in
    let ties : c.in_ok-ties.ties.items ≡ ties_of p.bodies (joints_in_slots p) p.contacts = rw (c.bodies.ensures, c.joint_entries.ensures, c.joints.ensures, c.contacts.ensures) at c.in_ok-ties.ensures.ties in
    let small : length c.in_ok-ties.ties.items < 2 ^ 64 = search rules in
    rw c.deref.ensures.value (few_members p c.in_ok-ties.ties.items (members_of c.in_ok-lists.lists.items) c.requires.consistent ties c.in_ok-lists.ensures.members small)

pub from_parts-requires-clause-consistent : goal.from_parts-requires-clause-consistent
from_parts-requires-clause-consistent c =
    let p = c.args.plain.now in
    let ties : c.in_ok-ties.ties.items ≡ ties_of p.bodies (joints_in_slots p) p.contacts = rw (c.bodies.ensures, c.joint_entries.ensures, c.joints.ensures, c.contacts.ensures) at c.in_ok-ties.ensures.ties in
    let same = acting_by p c.deref-2.result.now c.islands.result.now (members_of c.deref-3.result.now) (c.deref-2.ensures.value ∙ ties) c.islands.ensures (ap members_of c.deref-3.ensures.value ∙ c.in_ok-lists.ensures.members) in
    subst (λ (s : Acting Constraint). IsConsistent constraint_number s) (sym same) c.requires.consistent

pub returns-clause-acting : goal.returns-clause-acting
returns-clause-acting c =
    let p = c.args.plain.now in
    let ties : c.in_ok-ties.ties.items ≡ ties_of p.bodies (joints_in_slots p) p.contacts = rw (c.bodies.ensures, c.joint_entries.ensures, c.joints.ensures, c.contacts.ensures) at c.in_ok-ties.ensures.ties in
    let same = acting_by p c.deref-2.result.now c.islands.result.now (members_of c.deref-3.result.now) (c.deref-2.ensures.value ∙ ties) c.islands.ensures (ap members_of c.deref-3.ensures.value ∙ c.in_ok-lists.ensures.members) in
    subst (λ (s : Acting Constraint). IfOk c.from_parts.result (λ made. made.acting ≡ s)) same c.from_parts.ensures.acting
