use Rattle.graph_colours.specs.Given.{members_of}
use Rattle.sleep_wake.specs.Acting.{acting}
use Rattle.sleep_wake.proofs.GivenLaws.{all_below}
use Rattle.sleep_wake.proofs.sets.Sets.from_parts.Goals as goal

pub from_lists-requires-clause-below : goal.from_lists-requires-clause-below
from_lists-requires-clause-below g c = all_below g.C.ConstraintId.number (acting c.args.ties.now c.args.labels.now (members_of c.args.lists.now)) c.requires.consistent
