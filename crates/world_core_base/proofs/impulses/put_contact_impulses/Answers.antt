use Rattle.std.proofs.Common.{refl, ◌∙◌}
use Rattle.world_core_base.proofs.GivenLaws.{all_given, next_given}
use Rattle.world_core_base.proofs.impulses.put_contact_impulses.Goals as goal

pub loop-index-init : goal.loop-index-init
loop-index-init c = record { given = refl; numbered = refl }

pub loop-index-preserved : goal.loop-index-preserved
loop-index-preserved c =
    let given = rw (c.key.ensures, c.impulses_of.ensures, c.second_impulses.ensures) at c.set_impulses.ensures.contacts in
    record {
      given = next_given c.args.rows.now c.loop-index.index _ _ c.loop-index.contacts.contacts _ _ c.loop-index-test.true refl given c.loop-index.invariant.given;
      numbered = c.set_impulses.ensures.numbered ∙ c.loop-index.invariant.numbered;
    }

pub returns-clause-contacts : goal.returns-clause-contacts
returns-clause-contacts c = all_given c.args.rows.now c.loop-index.index c.loop-index.contacts.contacts _ c.loop-index-test.false c.loop-index.invariant.given

pub returns-clause-numbered : goal.returns-clause-numbered
returns-clause-numbered c = c.loop-index.invariant.numbered
