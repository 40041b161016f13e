use Rattle.std.proofs.Common.{◌∙◌, ap}
use Rattle.impulse_ledger.specs.Sums.{totals_of}
use Rattle.impulse_ledger.specs.declared.totals.Totals.{Totals}
use Rattle.sha2.specs.Sha256.{sha256}
use Rattle.world_rules.specs.World.{book_of}
use Rattle.world_digest.specs.Digests.{counts_words, digest_of, links_words, slots_words, totals_words, words_of}
use Rattle.world_digest.specs.Sums.{absorbed_all, bytes_of, first_sums}
use Rattle.world_digest.proofs.SumLaws.{fed_four}
use Rattle.world_digest.proofs.TotalLaws.{same_totals}
use Rattle.world_digest.proofs.digests.digest.Goals as goal

pub returns-clause-digest : goal.returns-clause-digest
unfolding digest_of words_of
returns-clause-digest c =
    let w = c.args.world.now in
    let p = w.plain in
    let totals = c.totals.ensures ∙ same_totals c.ledger.result.now w c.ledger.ensures.entries c.ledger.ensures.settled in
    let slots = c.feed_slots.ensures ∙ ap (λ s. absorbed_all s (slots_words p)) c.new-sums.ensures in
    let told = c.feed.ensures ∙ ap (λ (t : Totals). absorbed_all c.feed_counts.new.sums (totals_words t)) totals in
    let fed = fed_four first_sums c.feed_slots.new.sums c.feed_links.new.sums c.feed_counts.new.sums c.feed.new.sums
    (slots_words p) (links_words p) (counts_words p) (totals_words (totals_of (book_of w))) slots c.in_ok-feed_links.ensures.fed c.feed_counts.ensures told in
    c.finish.ensures ∙ ap (λ s. sha256 (bytes_of s)) fed
