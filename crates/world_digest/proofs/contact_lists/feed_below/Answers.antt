use Rattle.std.proofs.Common.{◌≡◌, ◌+◌, ◌∷◌, ◌∙◌, List, arith, ap, flat_map, sym}
use Rattle.contacts_base.specs.declared.contact.ContactEntry.{ContactEntry}
use Rattle.contacts_base.specs.Contacts.{number_of}
use Rattle.contacts_base.specs.Merge.{below_of, beyond_of}
use Rattle.contacts_base.specs.ShortLists.{counted_from}
use Rattle.world_digest.specs.ConstraintWords.{contact_words}
use Rattle.world_digest.specs.Sums.{absorbed_all}
use Rattle.world_digest.proofs.ContactLaws.{below_ends, below_more, below_none, beyond_ends, beyond_more, beyond_none, short_end, short_next, short_passed}
use Rattle.world_digest.proofs.contact_lists.feed_below.Goals as goal

pub loop-index-preserved-then-is_over : goal.loop-index-preserved-then-is_over
loop-index-preserved-then-is_over c =
    let passed = short_passed c.args.short.now _ c.loop-index.index c.entries-entries.ensures.value c.entries-entries.ensures.flags c.loop-index-test.true (sym c.is_over.ensures ∙ c.if-is_over.true) in
    record {
      fed = ap (λ (l : List ContactEntry). absorbed_all c.loop-index.sums (flat_map contact_words (below_of number_of c.args.entry.now l))) passed ∙ c.loop-index.invariant.fed;
      left = ap (λ (l : List ContactEntry). beyond_of number_of c.args.entry.now l) passed ∙ c.loop-index.invariant.left;
    }

pub loop-index-preserved : goal.loop-index-preserved
loop-index-preserved c =
    let s = c.args.short.now in
    let e = c.args.entry.now in
    let x = c.index-entries-index.result in
    let i = c.loop-index.index in
    let next : counted_from i s ≡ x ∷ counted_from (i + 1) s = short_next s _ i x x c.entries-entries.ensures.value c.entries-entries.ensures.flags c.loop-index-test.true (sym c.is_over.ensures ∙ c.if-is_over.false) c.index-entries-index.is in
    let before = sym c.is_before.ensures ∙ c.if-not-is_before.false in
    record {
      fed = below_more contact_words e x (counted_from i s) (counted_from (i + 1) s) _ c.loop-index.sums c.feed.new.sums next before c.feed.ensures c.loop-index.invariant.fed;
      left = beyond_more e x (counted_from i s) (counted_from (i + 1) s) _ next before c.loop-index.invariant.left;
    }

pub returns-then-not-is_before-clause-fed : goal.returns-then-not-is_before-clause-fed
returns-then-not-is_before-clause-fed c =
    let s = c.args.short.now in
    let x = c.index-entries-index.result in
    let i = c.loop-index.index in
    let next : counted_from i s ≡ x ∷ counted_from (i + 1) s = short_next s _ i x x c.entries-entries.ensures.value c.entries-entries.ensures.flags c.loop-index-test.true (sym c.is_over.ensures ∙ c.if-is_over.false) c.index-entries-index.is in
    below_ends contact_words c.args.entry.now x (counted_from i s) (counted_from (i + 1) s) _ c.loop-index.sums next (sym c.is_before.ensures ∙ c.if-not-is_before.true) c.loop-index.invariant.fed

pub returns-then-not-is_before-clause-left : goal.returns-then-not-is_before-clause-left
returns-then-not-is_before-clause-left c =
    let s = c.args.short.now in
    let x = c.index-entries-index.result in
    let i = c.loop-index.index in
    let next : counted_from i s ≡ x ∷ counted_from (i + 1) s = short_next s _ i x x c.entries-entries.ensures.value c.entries-entries.ensures.flags c.loop-index-test.true (sym c.is_over.ensures ∙ c.if-is_over.false) c.index-entries-index.is in
    beyond_ends c.args.entry.now x (counted_from i s) (counted_from (i + 1) s) _ next (sym c.is_before.ensures ∙ c.if-not-is_before.true) c.loop-index.invariant.left

pub returns-clause-fed : goal.returns-clause-fed
returns-clause-fed c =
    below_none contact_words c.args.entry.now (counted_from c.loop-index.index c.args.short.now) _ c.loop-index.sums (short_end c.args.short.now _ c.loop-index.index c.entries-entries.ensures.value (omega (arith, c.loop-index-test.false))) c.loop-index.invariant.fed

pub returns-clause-left : goal.returns-clause-left
returns-clause-left c =
    beyond_none c.args.entry.now (counted_from c.loop-index.index c.args.short.now) _ _
    (short_end c.args.short.now _ c.loop-index.index c.entries-entries.ensures.value (omega (arith, c.loop-index-test.false)))
    (short_end c.args.short.now _ _ c.entries-entries.ensures.value (omega arith)) c.loop-index.invariant.left
