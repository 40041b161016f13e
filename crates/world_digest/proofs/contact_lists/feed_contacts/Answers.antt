use Rattle.std.proofs.Common.{◌∙◌, List, ap, length, sym}
use Rattle.contacts_base.specs.declared.contact.ContactEntry.{ContactEntry}
use Rattle.contacts_base.specs.Split.{contacts_in}
use Rattle.world_digest.specs.ConstraintWords.{contact_words}
use Rattle.world_digest.proofs.ContactLaws.{told_all}
use Rattle.world_digest.proofs.SumLaws.{fed_list}
use Rattle.world_digest.proofs.contact_lists.feed_contacts.Goals as goal

pub returns-then-is_one : goal.returns-then-is_one
returns-then-is_one c =
    fed_list contact_words c.long.result.now (contacts_in c.args.contacts.now) c.args.sums.now c.feed_all.new.sums (c.long.ensures.value ∙ sym (c.is_one.ensures c.if-is_one.true)) c.feed_all.ensures

pub returns : goal.returns
returns c =
    told_all contact_words c.args.contacts.now _ _ c.args.sums.now c.natural.new.self c.feed_both.new.sums c.count_long.ensures.count (c.count_short.ensures.count ∙ ap (λ (l : List ContactEntry). length l) c.short-short.ensures.value) c.natural.ensures c.feed_both.ensures
