use Rattle.std.proofs.Common.{arith}
use Rattle.world_core_base.specs.Turned.{AreTurned}
use Rattle.world_core.proofs.UpContactLaws.{contacts_turned}
use Rattle.world_core.proofs.committing.commit_collide.Goals as goal

pub apply_all_changes-requires-clause-ready : goal.apply_all_changes-requires-clause-ready
apply_all_changes-requires-clause-ready c =
    let is = c.requires.ready in record {
      few_bodies = rw c.clear_marks.ensures.bodies is.few_bodies;
      bodies = rw c.clear_marks.ensures.bodies is.bodies;
      told = rw c.clear_marks.ensures.bodies is.told;
      consistent = is.consistent;
      can_tell = is.can_tell;
      ties = rw c.clear_marks.ensures.bodies is.ties;
      standing = rw c.clear_marks.ensures.bodies is.standing;
      contacts_standing = rw c.clear_marks.ensures.bodies is.contacts_standing;
    }

pub returns-clause-marked : goal.returns-clause-marked
returns-clause-marked c = rw (c.clear_marks.ensures.bodies, c.clear_marks.ensures.cleared) at c.apply_all_changes.ensures.marked

pub returns-clause-contacts_standing : goal.returns-clause-contacts_standing
returns-clause-contacts_standing c =
    let turned : AreTurned c.apply_all_changes.new.activity.bodies.bodies c.args.constraints.now.contacts.contacts c.commit_pending.new.self.contacts = rw (c.apply_all_changes.ensures.bodies, c.apply_all_changes.ensures.acting, c.clear_marks.ensures.bodies, c.commit_pending.ensures.contacts) c.requires.turned in
    contacts_turned c.apply_all_changes.new.activity.bodies.bodies c.args.constraints.now.contacts.contacts c.commit_pending.new.self.contacts c.args.constraints.now.contacts.numbered c.commit_pending.new.self.numbered c.commit_pending.new.self.made c.commit_pending.new.self.gone c.apply_all_changes.new.activity.contact_sets
    c.know_numbered.ensures.numbered c.know_numbered-2.ensures.numbered c.commit_pending.ensures.turnover turned (omega (arith, c.commit_pending.ensures.bound, c.apply_all_changes.ensures.contact_items, c.requires.numbers)) c.apply_all_changes.ensures.contacts_standing
