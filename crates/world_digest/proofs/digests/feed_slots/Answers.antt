use Rattle.std.proofs.Common.{◌∙◌}
use Rattle.world_digest.specs.BodyWords.{body_words, slot_entry_words}
use Rattle.world_digest.specs.ConstraintWords.{joint_words}
use Rattle.world_digest.specs.Sums.{list_words, option_words}
use Rattle.world_digest.proofs.SumLaws.{fed_four, fed_list}
use Rattle.world_digest.proofs.digests.feed_slots.Goals as goal

pub returns : goal.returns
returns c =
    let p = c.args.world.now.plain in
    let first = c.feed_all.new.sums in
    let second = c.feed_all-2.new.sums in
    let third = c.feed_all-3.new.sums in
    let last = c.feed_all-4.new.sums in
    fed_four c.args.sums.now first second third last
    (list_words slot_entry_words p.slot_entries) (list_words (option_words body_words) p.bodies) (list_words slot_entry_words p.joint_entries) (list_words (option_words joint_words) p.joints)
    (fed_list slot_entry_words c.slot_entries.result.now p.slot_entries c.args.sums.now first c.slot_entries.ensures c.feed_all.ensures)
    (fed_list (option_words body_words) c.bodies.result.now p.bodies first second c.bodies.ensures.bodies c.feed_all-2.ensures)
    (fed_list slot_entry_words c.joint_entries.result.now p.joint_entries second third c.joint_entries.ensures c.feed_all-3.ensures)
    (fed_list (option_words joint_words) c.joints-2.result.now p.joints third last (c.joints-2.ensures ∙ c.joints.ensures) c.feed_all-4.ensures)
