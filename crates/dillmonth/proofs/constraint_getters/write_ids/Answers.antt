use Rattle.std.proofs.Common.{◌≡◌, ◌++◌, Option, add-one, ap, length, option_map, subst, ◌∙◌}
use Rattle.body_handles.specs.declared.handle.Handle.{Handle}
use Rattle.dillmonth.specs.Forms.{handle_shown}
use Rattle.dillmonth.specs.Getters.{ids_up}
use Rattle.dillmonth.specs.Lists.{list_of, written}
use Rattle.dillmonth.specs.declared.forms.CHandle.{CHandle}
use Rattle.dillmonth.proofs.ListLaws.{counted_next, few_next, written_next}
use Rattle.world_core.specs.Walks.{handle_in}
use Rattle.dillmonth.proofs.constraint_getters.write_ids.Goals as goal

pub loop-slot-preserved : goal.loop-slot-preserved
loop-slot-preserved c =
    let slot = c.loop-slot.slot in
    let entries = c.args.world.now.plain.joint_entries in
    let here = c.show_id_of-id.result in
    let so_far = ids_up entries slot in
    let id : here ≡ option_map handle_shown (handle_in entries slot) = c.show_id_of-id.ensures ∙ ap (λ (o : Option Handle). option_map handle_shown o) c.joint_in.ensures.value in
    let known = c.loop-slot.invariant in
    let put = c.write_next-count.ensures in
    record {
      count = rw add-one (subst (λ (o : Option CHandle). c.write_next-count.result ≡ length (so_far ++ list_of o)) id (counted_next so_far c.loop-slot.count c.write_next-count.result here known.count put.count));
      few = few_next c.loop-slot.count c.write_next-count.result slot here put.count known.few;
      written = rw add-one (subst (λ (o : Option CHandle). c.write_next-count.new.out ≡ written (so_far ++ list_of o) c.args.out.now) id (written_next so_far c.args.out.now c.loop-slot.out c.write_next-count.new.out c.loop-slot.count here known.count known.written put.written));
    }
