use Rattle.std.proofs.Common.{ℕ, ◌∙◌, None, flat_map, arith, ap}
use Rattle.world_digest.specs.BodyWords.{label_words}
use Rattle.world_digest.specs.Sums.{absorbed, absorbed_all, option_words}
use Rattle.world_digest.proofs.SumLaws.{fed_slot}
use Rattle.world_digest.proofs.labels.feed_islands.Goals as goal

pub loop-slot-init : goal.loop-slot-init
loop-slot-init c =
    ap (λ u. absorbed_all u (flat_map (option_words label_words) c.args.islands.now.labels)) (c.natural.ensures ∙ ap (λ (n : ℕ). absorbed c.args.sums.now n) c.slots.ensures.value)

pub loop-slot-preserved : goal.loop-slot-preserved
loop-slot-preserved c =
    fed_slot (option_words label_words) c.args.islands.now.labels c.loop-slot.slot c.label_of.result None _ c.loop-slot.sums c.feed.new.sums (omega (arith, c.loop-slot-test.true)) c.label_of.ensures.value c.feed.ensures c.loop-slot.invariant
