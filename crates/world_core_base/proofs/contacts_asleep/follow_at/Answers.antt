use Rattle.std.proofs.Common.{◌≡◌, Some, length}
use Rattle.contacts.specs.declared.ends.Side.TheVariants.{First}
use Rattle.contacts.specs.Numbered.{slot_at}
use Rattle.world_core_base.specs.Asleep.{contact_sleep}
use Rattle.world_core_base.proofs.ContactAsleepLaws.{both_sides}
use Rattle.world_core_base.proofs.FollowLaws.{can_now}
use Rattle.world_core_base.proofs.contacts_asleep.follow_at.Goals as goal

pub follow_on-requires-2 : goal.follow_on-requires-2
follow_on-requires-2 c =
    let numbered = c.args.contacts.now.numbered in
    can_now (contact_sleep c.args.bodies.now numbered) (λ number. slot_at First numbered number ≡ Some c.args.slot) c.args.sets.now.names c.follow_on.new.sets.names (length c.follow_on.new.sets.sets) (length c.args.sets.now.sets) c.requires c.follow_on.ensures.followed c.follow_on.ensures.sets

pub returns-clause-followed : goal.returns-clause-followed
returns-clause-followed c = both_sides (contact_sleep c.args.bodies.now c.args.contacts.now.numbered) c.args.contacts.now.numbered c.args.slot c.args.sets.now.names c.follow_on.new.sets.names c.follow_on-2.new.sets.names c.follow_on.ensures.followed c.follow_on-2.ensures.followed
