use Rattle.world_digest.proofs.SumLaws.{fed_more}
use Rattle.world_digest.proofs.words.feed_all.Goals as goal

pub loop-item-preserved : goal.loop-item-preserved
loop-item-preserved g c =
    fed_more g.T.Words.words c.args.items.now c.loop-item.item-index c.item-item.result _ c.loop-item.sums c.feed.new.sums c.loop-item-test.true c.item-item.is c.feed.ensures c.loop-item.invariant
