use Rattle.std.proofs.Common.{◌≡◌, ◌∙◌, List, arith, ap, length}
use Rattle.contacts_base.specs.declared.contact.ContactEntry.{ContactEntry}
use Rattle.contacts_base.specs.ShortLists.{counted_from}
use Rattle.world_digest.specs.ConstraintWords.{contact_words}
use Rattle.world_digest.proofs.ContactLaws.{told_end, told_first}
use Rattle.world_digest.proofs.contact_lists.feed_both.Goals as goal

pub loop-place-init : goal.loop-place-init
loop-place-init c = record {
  within = omega arith;
  told = told_first contact_words c.args.contacts.now c.args.short.now c.args.sums.now c.requires.short;
}

pub loop-place-preserved : goal.loop-place-preserved
loop-place-preserved c = record {
  within = c.feed_at-next.ensures.within;
  told = c.feed_at-next.ensures.told ∙ c.loop-place.invariant.told;
}

pub returns : goal.returns
returns c =
    let s = c.args.contacts.now in
    let size : length c.long-long.result.now ≡ length s.long = ap (λ (l : List ContactEntry). length l) c.long-long.ensures.value in
    told_end contact_words s.over s.long (counted_from c.loop-place.next c.args.short.now) _ c.loop-place.sums c.feed_from.new.sums c.loop-place.place (omega (arith, c.loop-place-test.false, size)) c.loop-place.invariant.told c.feed_from.ensures
