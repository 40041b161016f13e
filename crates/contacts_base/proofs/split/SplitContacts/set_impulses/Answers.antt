use Rattle.std.proofs.Common.{ap, sym, ◌∙◌}
use Rattle.contacts_base.specs.ContactLists.{keys_of}
use Rattle.contacts_base.proofs.CountingLaws.{keys_given}
use Rattle.contacts_base.specs.ShortLists.{counted_in}
use Rattle.contacts_base.proofs.SplitLaws.{given_is, given_is_split, short_stays, split_of}
use Rattle.contacts_base.proofs.split.SplitContacts.set_impulses.Goals as goal

pub invariant_of-self-else-not-give_at : goal.invariant_of-self-else-not-give_at
invariant_of-self-else-not-give_at c =
    let s = c.self.inside in
    let split = split_of s.long.items s.over (counted_in s.short) in
    let stays = short_stays c.args.key c.args.first c.args.second split c.self.invariant (c.give_at.ensures.counts c.if-not-give_at.false) in
    given_is_split c.args.key c.args.first c.args.second split c.give_at.new.entries.items (counted_in s.short) (c.give_at.ensures.given c.if-not-give_at.false) (sym stays) c.self.invariant

pub returns-else-not-give_at-clause-contacts : goal.returns-else-not-give_at-clause-contacts
returns-else-not-give_at-clause-contacts c =
    let s = c.self.inside in
    let split = split_of s.long.items s.over (counted_in s.short) in
    let stays = short_stays c.args.key c.args.first c.args.second split c.self.invariant (c.give_at.ensures.counts c.if-not-give_at.false) in
    rw (← c.self.view_is) (given_is c.args.key c.args.first c.args.second split c.give_at.new.entries.items (counted_in s.short) (c.give_at.ensures.given c.if-not-give_at.false) (sym stays))

pub returns-else-not-give_at-clause-keys : goal.returns-else-not-give_at-clause-keys
returns-else-not-give_at-clause-keys c =
    let s = c.self.inside in
    rw (← c.self.view_is) (ap keys_of (c.give_at.ensures.given c.if-not-give_at.false) ∙ keys_given c.args.key c.args.first c.args.second s.long.items)
