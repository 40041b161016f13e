use Rattle.std.proofs.Common.{◌≡◌, [], List, Option, refl, sym, ap, ◌∙◌}
use Rattle.contacts.proofs.UpdateLemmas.{empty_of}
use Rattle.plain_world.specs.declared.joint.BodyJoint.{BodyJoint}
use Rattle.world_core_base.specs.ForbiddenPairs.{one_keeps_apart}
use Rattle.world_core_base.proofs.ForbiddingLaws.{first_tells, second_tells}
use Rattle.world_core_base.proofs.joint_table.JointTableForbiddenPairs.forbids.Goals as goal

pub returns-then-is_empty : goal.returns-then-is_empty
returns-then-is_empty c =
    let joints = c.self.inside.joints.items in
    let ends = c.members-ends.result.now in
    let none : ends ≡ [] = empty_of ends _ c.is_empty.result refl c.is_empty.ensures c.if-is_empty.true in
    rw (← c.self.view_is) (ap (one_keeps_apart joints c.args.a c.args.b) (sym none) ∙ first_tells joints c.self.inside.ends.sets ends c.args.a c.args.b c.self.invariant.ends c.members-ends.ensures.value)

pub either_keeps_apart-requires : goal.either_keeps_apart-requires
either_keeps_apart-requires c =
    let joints = c.self.inside.joints.items in
    let sets = c.self.inside.ends.sets in
    rw c.deref.ensures.value
    (second_tells joints sets c.members.result.now c.args.a c.args.b c.self.invariant.ends c.members.ensures.value ∙ sym (first_tells joints sets c.members-ends.result.now c.args.a c.args.b c.self.invariant.ends c.members-ends.ensures.value))

pub returns : goal.returns
returns c =
    let joints = c.self.inside.joints.items in
    let ends = c.members-ends.result.now in
    rw (← c.self.view_is)
    (c.either_keeps_apart.ensures ∙ ap (λ (js : List (Option BodyJoint)). one_keeps_apart js c.args.a c.args.b ends) c.deref.ensures.value
    ∙ first_tells joints c.self.inside.ends.sets ends c.args.a c.args.b c.self.invariant.ends c.members-ends.ensures.value)
