use Rattle.std.proofs.Common.{◌∙◌, List, ap, get_or, sym}
use Rattle.contacts_base.specs.declared.contact.ContactEntry.{ContactEntry}
use Rattle.contacts_base.specs.ShortLists.{counted_from}
use Rattle.world_digest.specs.ConstraintWords.{contact_words}
use Rattle.world_digest.proofs.ContactLaws.{counts_by, over_by, told_next, told_passed}
use Rattle.world_digest.proofs.contact_lists.feed_at.Goals as goal

pub returns-then-not-counts_at-clause-told : goal.returns-then-not-counts_at-clause-told
returns-then-not-counts_at-clause-told c =
    let s = c.args.contacts.now in
    told_passed contact_words s.over s.long (counted_from c.args.next c.args.short.now) c.args.sums.now c.args.place c.know_ascending.ensures.flags c.requires.place
    (over_by s c.args.place c.requires.place (sym c.counts_at.ensures ∙ c.if-not-counts_at.true))

pub returns-clause-told : goal.returns-clause-told
returns-clause-told c =
    let s = c.args.contacts.now in
    let e = c.index-long-place.result in
    let is = c.index-long-place.is ∙ ap (λ (l : List ContactEntry). get_or l c.args.place e) c.long-long.ensures.value in
    told_next contact_words s.over s.long c.args.short.now c.args.sums.now c.feed_below-behind.new.sums c.feed.new.sums c.args.place c.args.next _ e e c.know_ascending.ensures.flags c.requires.place
    (counts_by s c.args.place (sym c.counts_at.ensures ∙ c.if-not-counts_at.false)) is c.know_ascending.ensures.long.rising c.requires.rising c.feed_below-behind.ensures.flags c.feed_below-behind.ensures.fed c.feed_below-behind.ensures.left c.feed.ensures
