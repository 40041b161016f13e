use Rattle.loaded_text.proofs.ContactLaws.{contact_more, contacts_end, no_contact_yet}
use Rattle.loaded_text.proofs.saved_contacts.add_contacts.Goals as goal

pub loop-count-init : goal.loop-count-init
loop-count-init c = no_contact_yet c.args.contacts.now.items _

pub loop-count-preserved : goal.loop-count-preserved
loop-count-preserved c = contact_more c.loop-count.count c.args.contacts.now.items _ _ c.in_ok-contact.contact _ _ _ _ c.loop-count.invariant (c.in_ok-more.ensures.more c.if-not-more.false) c.in_ok-contact.ensures c.in_ok-keep_contact.ensures

pub returns-then-not-more : goal.returns-then-not-more
returns-then-not-more c = contacts_end c.args.lead.now c.loop-count.count c.args.contacts.now.items c.loop-count.contacts.items _ _ _ _ _ c.in_ok-expect.ensures.taken c.in_ok-expect-2.ensures.taken c.loop-count.invariant (c.in_ok-more.ensures.end c.if-not-more.true)
