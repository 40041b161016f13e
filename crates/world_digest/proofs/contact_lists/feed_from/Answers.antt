use Rattle.std.proofs.Common.{◌≡◌, ◌+◌, ◌∷◌, ◌∙◌, List, arith, ap, flat_map, sym}
use Rattle.contacts_base.specs.declared.contact.ContactEntry.{ContactEntry}
use Rattle.contacts_base.specs.ShortLists.{counted_from}
use Rattle.world_digest.specs.ConstraintWords.{contact_words}
use Rattle.world_digest.specs.Sums.{absorbed_all}
use Rattle.world_digest.proofs.ContactLaws.{fed_none, short_end, short_next, short_passed}
use Rattle.world_digest.proofs.SumLaws.{fed_head}
use Rattle.world_digest.proofs.contact_lists.feed_from.Goals as goal

pub loop-index-preserved-then-is_over : goal.loop-index-preserved-then-is_over
loop-index-preserved-then-is_over c =
    ap (λ (l : List ContactEntry). absorbed_all c.loop-index.sums (flat_map contact_words l))
    (short_passed c.args.short.now _ c.loop-index.index c.entries-entries.ensures.value c.entries-entries.ensures.flags c.loop-index-test.true (sym c.is_over.ensures ∙ c.if-is_over.true))
    ∙ c.loop-index.invariant

pub loop-index-preserved : goal.loop-index-preserved
loop-index-preserved c =
    let s = c.args.short.now in
    let x = c.index-entries-index.result in
    let i = c.loop-index.index in
    let next : counted_from i s ≡ x ∷ counted_from (i + 1) s = short_next s _ i x x c.entries-entries.ensures.value c.entries-entries.ensures.flags c.loop-index-test.true (sym c.is_over.ensures ∙ c.if-is_over.false) c.index-entries-index.is in
    fed_head contact_words x (counted_from i s) (counted_from (i + 1) s) _ c.loop-index.sums c.feed.new.sums next c.feed.ensures c.loop-index.invariant

pub returns : goal.returns
returns c =
    fed_none contact_words (counted_from c.loop-index.index c.args.short.now) _ c.loop-index.sums (short_end c.args.short.now _ c.loop-index.index c.entries-entries.ensures.value (omega (arith, c.loop-index-test.false))) c.loop-index.invariant
