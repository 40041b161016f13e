use Rattle.std.proofs.Common.{◌≡◌, List, Option, length, sym, ap, ◌∙◌, arith}
use Rattle.contacts.specs.Numbered.{contact_at}
use Rattle.plain_world.specs.declared.body.Body.{Body}
use Rattle.plain_world.specs.Joints.{joint_at}
use Rattle.plain_world.specs.Sleep.{told}
use Rattle.world_core_base.specs.Telling.{KeepSets}
use Rattle.world_core_base.proofs.AsleepLaws.{told_beside}
use Rattle.world_core_base.proofs.ContactAsleepLaws.{contact_beside, contacts_can_follow}
use Rattle.world_core_base.proofs.JointAsleepLaws.{joint_beside, joints_can_follow}
use Rattle.world_core_base.proofs.TellLaws.{length-told}
use Rattle.world_core.proofs.KeepLaws.{named_low}
use Rattle.world_core.proofs.telling_movers.tell_movers.Goals as goal

pub tell_some-gain-requires-clause-others : goal.tell_some-gain-requires-clause-others
tell_some-gain-requires-clause-others c = rw c.islands.ensures c.requires.others

pub follow-requires-clause-can : goal.follow-requires-clause-can
follow-requires-clause-can c =
    let labels = c.args.activity.now.sets.acting.labels in
    let bodies = c.args.activity.now.bodies.bodies in
    let keep : KeepSets labels bodies = record {
      together = c.requires.together;
      named = λ slot name lt h. named_low c.args.activity.now.sets.acting (length bodies) slot name c.know_consistent.ensures lt h;
    } in
    rw (c.bodies.ensures, c.tell_some-gain.ensures.bodies, c.islands.ensures)
    (joints_can_follow labels bodies c.args.constraints.now.joints.joints c.args.activity.now.joint_sets c.requires.standing keep)

pub follow-requires-clause-others : goal.follow-requires-clause-others
follow-requires-clause-others c slot =
    let labels = c.args.activity.now.sets.acting.labels in
    let bodies = c.args.activity.now.bodies.bodies in
    rw (c.bodies.ensures, c.tell_some-gain.ensures.bodies, c.islands.ensures)
    (λ off. joint_beside bodies (told labels bodies) c.args.slots.now (joint_at c.args.constraints.now.joints.joints slot) (told_beside labels bodies c.args.slots.now c.requires.others) off ∙ sym (c.requires.standing.asleep slot))

pub returns-clause-standing : goal.returns-clause-standing
returns-clause-standing c =
    let labels = c.args.activity.now.sets.acting.labels in
    let bodies = c.args.activity.now.bodies.bodies in
    record {
      asleep = rw c.bodies.ensures at c.follow.ensures.asleep;
      items = λ slot on. let lt = c.requires.standing.items slot on in omega (arith, lt, c.follow.ensures.items);
      named =
          let long : length c.tell_some-gain.new.self.bodies ≡ length bodies = ap (λ (os : List (Option Body)). length os) (rw c.islands.ensures at c.tell_some-gain.ensures.bodies) ∙ length-told labels bodies in
          let room = c.requires.standing.named in
          omega (arith, long, room, c.follow.ensures.sets);
    }

pub returns-clause-items : goal.returns-clause-items
returns-clause-items c = c.follow.ensures.items

pub follow_contacts-requires-clause-can : goal.follow_contacts-requires-clause-can
follow_contacts-requires-clause-can c =
    let labels = c.args.activity.now.sets.acting.labels in
    let bodies = c.args.activity.now.bodies.bodies in
    let keep : KeepSets labels bodies = record {
      together = c.requires.together;
      named = λ slot name lt h. named_low c.args.activity.now.sets.acting (length bodies) slot name c.know_consistent.ensures lt h;
    } in
    rw (c.bodies-2.ensures, c.tell_some-gain.ensures.bodies, c.islands.ensures)
    (contacts_can_follow labels bodies c.args.constraints.now.contacts.numbered c.args.activity.now.contact_sets c.requires.contacts_standing keep)

pub follow_contacts-requires-clause-others : goal.follow_contacts-requires-clause-others
follow_contacts-requires-clause-others c number =
    let labels = c.args.activity.now.sets.acting.labels in
    let bodies = c.args.activity.now.bodies.bodies in
    let numbered = c.args.constraints.now.contacts.numbered in
    rw (c.bodies-2.ensures, c.tell_some-gain.ensures.bodies, c.islands.ensures)
    (λ off. contact_beside bodies (told labels bodies) c.args.slots.now (contact_at numbered number) (told_beside labels bodies c.args.slots.now c.requires.others) off ∙ sym (c.requires.contacts_standing.asleep number))

pub returns-clause-contacts_standing : goal.returns-clause-contacts_standing
returns-clause-contacts_standing c =
    let labels = c.args.activity.now.sets.acting.labels in
    let bodies = c.args.activity.now.bodies.bodies in
    record {
      asleep = rw c.bodies-2.ensures at c.follow_contacts.ensures.asleep;
      items = λ number on. let lt = c.requires.contacts_standing.items number on in omega (arith, lt, c.follow_contacts.ensures.items);
      named =
          let long : length c.tell_some-gain.new.self.bodies ≡ length bodies = ap (λ (os : List (Option Body)). length os) (rw c.islands.ensures at c.tell_some-gain.ensures.bodies) ∙ length-told labels bodies in
          let room = c.requires.contacts_standing.named in
          omega (arith, long, room, c.follow_contacts.ensures.sets);
    }

pub returns-clause-contact_items : goal.returns-clause-contact_items
returns-clause-contact_items c = c.follow_contacts.ensures.items
