use Rattle.std.proofs.Common.{◌≡◌, ◌<◌, ◌∙◌, List, length, arith, ap, sym}
use Rattle.contacts_base.specs.declared.contact.ContactEntry.{ContactEntry}
use Rattle.world_digest.proofs.ContactLaws.{count_end, count_more, count_passed}
use Rattle.world_digest.proofs.contact_lists.count_short.Goals as goal

pub loop-place-preserved-then-is_over : goal.loop-place-preserved-then-is_over
loop-place-preserved-then-is_over c =
    let s = c.args.short.now in
    let size : length c.entries-entries.result.now ≡ length s.entries = ap (λ (l : List ContactEntry). length l) c.entries-entries.ensures.value in
    let within : c.loop-place.place < length s.entries = omega (arith, c.loop-place-test.true, size) in
    record {
      sum = count_passed s.over s.entries c.loop-place.count c.loop-place.place _ (c.entries-entries.ensures.flags ∙ size) within (sym c.is_over.ensures ∙ c.if-is_over.true) c.loop-place.invariant.sum;
      low = omega (arith, c.loop-place.invariant.low);
    }

pub loop-place-preserved : goal.loop-place-preserved
loop-place-preserved c =
    let s = c.args.short.now in
    let size : length c.entries-entries.result.now ≡ length s.entries = ap (λ (l : List ContactEntry). length l) c.entries-entries.ensures.value in
    let within : c.loop-place.place < length s.entries = omega (arith, c.loop-place-test.true, size) in
    record {
      sum = count_more s.over s.entries c.loop-place.count c.loop-place.place _ (c.entries-entries.ensures.flags ∙ size) within (sym c.is_over.ensures ∙ c.if-is_over.false) c.loop-place.invariant.sum;
      low = omega (arith, c.loop-place.invariant.low);
    }

pub returns-clause-count : goal.returns-clause-count
returns-clause-count c =
    let s = c.args.short.now in
    let size : length c.entries-entries.result.now ≡ length s.entries = ap (λ (l : List ContactEntry). length l) c.entries-entries.ensures.value in
    count_end s.over s.entries c.loop-place.count c.loop-place.place _ (omega (arith, c.loop-place-test.false, size)) c.loop-place.invariant.sum
