use Rattle.world_digest.proofs.ColourLaws.{colour_fed}
use Rattle.world_digest.proofs.constraints.feed_colours.Goals as goal

pub loop-colour-preserved : goal.loop-colour-preserved
loop-colour-preserved c = colour_fed c.args.colours.now.lists c.loop-colour.colour c.args.sums.now c.loop-colour.sums c.feed_colour.new.sums c.loop-colour.invariant c.in_ok-feed_colour.ensures.fed
