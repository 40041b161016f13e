use Rattle.std.proofs.Common.{◌≡◌, ◌<◌, ◌∙◌, List, length, arith, ap, sym}
use Rattle.contacts_base.specs.declared.contact.ContactEntry.{ContactEntry}
use Rattle.world_digest.proofs.ContactLaws.{count_end, count_more, count_passed, counts_by, over_by}
use Rattle.world_digest.proofs.contact_lists.count_long.Goals as goal

pub loop-place-preserved-then-not-counts_at : goal.loop-place-preserved-then-not-counts_at
loop-place-preserved-then-not-counts_at c =
    let s = c.args.contacts.now in
    let size : length c.long-long.result.now ≡ length s.long = ap (λ (l : List ContactEntry). length l) c.long-long.ensures.value in
    let within : c.loop-place.place < length s.long = omega (arith, c.loop-place-test.true, size) in
    record {
      sum = count_passed s.over s.long c.loop-place.count c.loop-place.place _ c.know_ascending.ensures.flags within (over_by s c.loop-place.place within (sym c.counts_at.ensures ∙ c.if-not-counts_at.true)) c.loop-place.invariant.sum;
      low = omega (arith, c.loop-place.invariant.low);
    }

pub loop-place-preserved : goal.loop-place-preserved
loop-place-preserved c =
    let s = c.args.contacts.now in
    let size : length c.long-long.result.now ≡ length s.long = ap (λ (l : List ContactEntry). length l) c.long-long.ensures.value in
    let within : c.loop-place.place < length s.long = omega (arith, c.loop-place-test.true, size) in
    record {
      sum = count_more s.over s.long c.loop-place.count c.loop-place.place _ c.know_ascending.ensures.flags within (counts_by s c.loop-place.place (sym c.counts_at.ensures ∙ c.if-not-counts_at.false)) c.loop-place.invariant.sum;
      low = omega (arith, c.loop-place.invariant.low);
    }

pub returns-clause-count : goal.returns-clause-count
returns-clause-count c =
    let s = c.args.contacts.now in
    let size : length c.long-long.result.now ≡ length s.long = ap (λ (l : List ContactEntry). length l) c.long-long.ensures.value in
    count_end s.over s.long c.loop-place.count c.loop-place.place _ (omega (arith, c.loop-place-test.false, size)) c.loop-place.invariant.sum
