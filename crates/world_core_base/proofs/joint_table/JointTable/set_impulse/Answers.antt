use Rattle.std.proofs.Common.{rules, w64, SFits, ◌≡◌, ◌<◌, length, option_map, slice_index_or, slice_set, ap, ◌∙◌}
use Rattle.std.proofs.lemmas.Int.{to_z-of_z}
use Rattle.std.proofs.lemmas.List.{length-set}
use Rattle.plain_world.specs.InSlots.{with_impulse}
use Rattle.world_core_base.proofs.JointImpulseLaws.{impulse_put}
use Rattle.world_core_base.proofs.JointTableLaws.{impulse_ends}
use Rattle.world_core_base.proofs.joint_table.JointTable.set_impulse.Goals as goal

pub invariant_of-self : goal.invariant_of-self
invariant_of-self c =
    let joints = c.self.inside.joints.items in
    let old = c.index_mut.result.now in
    let there : c.args.slot < length joints = search rules in
    let fits : SFits w64 c.args.impulse = search rules in
    let put : c.put_impulse.new.entry ≡ option_map (with_impulse c.args.impulse) old = simp to_z-of_z at c.put_impulse.ensures in
    let entry : c.put_impulse.new.entry ≡ option_map (with_impulse c.args.impulse) (slice_index_or joints c.args.slot old) = put ∙ ap (option_map (with_impulse c.args.impulse)) c.index_mut.ensures.value in
    let long : length (slice_set joints c.args.slot (option_map (with_impulse c.args.impulse) (slice_index_or joints c.args.slot old))) ≡ length joints = length-set joints c.args.slot _ in
    rw entry (record {
      few = rw long c.self.invariant.few;
      ends = impulse_ends joints c.self.inside.ends.sets c.args.slot c.args.impulse old there c.self.invariant.ends;
      ready = rw long c.self.invariant.ready;
    })

pub returns-then-slot-len : goal.returns-then-slot-len
returns-then-slot-len c =
    let joints = c.self.inside.joints.items in
    let old = c.index_mut.result.now in
    let there : c.args.slot < length joints = search rules in
    let fits : SFits w64 c.args.impulse = search rules in
    let put : c.put_impulse.new.entry ≡ option_map (with_impulse c.args.impulse) old = simp to_z-of_z at c.put_impulse.ensures in
    let entry : c.put_impulse.new.entry ≡ option_map (with_impulse c.args.impulse) (slice_index_or joints c.args.slot old) = put ∙ ap (option_map (with_impulse c.args.impulse)) c.index_mut.ensures.value in
    rw (← c.self.view_is, entry) (impulse_put joints c.args.slot c.args.impulse old there)
