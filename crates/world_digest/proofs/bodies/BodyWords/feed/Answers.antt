use Rattle.world_digest.specs.BodyWords.{box_words, kind_words, mass_words, motion_words, shape_words, state_words}
use Rattle.world_digest.specs.Sums.{list_words}
use Rattle.world_digest.proofs.SumLaws.{fed_list, fed_six}
use Rattle.world_digest.proofs.bodies.BodyWords.feed.Goals as goal

pub returns : goal.returns
returns c =
    let b = c.args.self.now in
    fed_six c.args.sums.now c.feed.new.sums c.feed-2.new.sums c.feed-3.new.sums c.feed_state.new.sums c.feed_all.new.sums c.feed_all-2.new.sums
    (motion_words b.motion) (mass_words b.mass) (kind_words b.kind) (state_words b) (list_words shape_words b.shapes) (list_words box_words b.fats)
    c.feed.ensures c.feed-2.ensures c.feed-3.ensures c.feed_state.ensures
    (fed_list shape_words c.as_slice.result.now b.shapes c.feed_state.new.sums c.feed_all.new.sums c.as_slice.ensures c.feed_all.ensures)
    (fed_list box_words c.as_slice-2.result.now b.fats c.feed_all.new.sums c.feed_all-2.new.sums c.as_slice-2.ensures c.feed_all-2.ensures)
