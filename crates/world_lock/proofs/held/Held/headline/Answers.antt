use Rattle.world_lock.proofs.HeadlineLaws.{acts_coloured, has_one_colour, in_one_set, no_colour_shares, one_component, one_island, only_awake_have, share_island, stand_together}
use Rattle.world_lock.proofs.Replaying.{booked_since}
use Rattle.world_lock.proofs.held.Held.headline.Goals as goal

pub returns-clause-each_stands_in_one_set : goal.returns-clause-each_stands_in_one_set
returns-clause-each_stands_in_one_set g c = rw (← c.self.view_is) (in_one_set _ c.journal.ensures.headline.sound)

pub returns-clause-no_colour_shares_a_mover : goal.returns-clause-no_colour_shares_a_mover
returns-clause-no_colour_shares_a_mover g c = rw (← c.self.view_is) (no_colour_shares c.colours_are_apart.ensures _ c.journal.ensures.headline.sound)

pub returns-clause-what_acts_is_coloured : goal.returns-clause-what_acts_is_coloured
returns-clause-what_acts_is_coloured g c = rw (← c.self.view_is) (acts_coloured c.what_acts_has_a_colour.ensures _ c.journal.ensures.headline.sound)

pub returns-clause-each_has_one_colour : goal.returns-clause-each_has_one_colour
returns-clause-each_has_one_colour g c = rw (← c.self.view_is) (has_one_colour c.ties_are_within.ensures _ c.journal.ensures.headline.sound)

pub returns-clause-linked_share_an_island : goal.returns-clause-linked_share_an_island
returns-clause-linked_share_an_island g c = rw (← c.self.view_is) (share_island _ c.journal.ensures.headline.sound)

pub returns-clause-linked_stand_together : goal.returns-clause-linked_stand_together
returns-clause-linked_stand_together g c = rw (← c.self.view_is) (stand_together c.linked_movers_stand_together.ensures _ c.journal.ensures.headline.sound)

pub returns-clause-each_sleeping_set_is_one_component : goal.returns-clause-each_sleeping_set_is_one_component
returns-clause-each_sleeping_set_is_one_component g c = rw (← c.self.view_is) (one_component c.sleeping_sets_are_components.ensures _ c.journal.ensures.headline.sound)

pub returns-clause-entries : goal.returns-clause-entries
returns-clause-entries g c = rw (← c.self.view_is) (booked_since c.self.inside.journalled c.journal.ensures.headline)

pub returns-clause-each_sleeping_set_is_one_island : goal.returns-clause-each_sleeping_set_is_one_island
returns-clause-each_sleeping_set_is_one_island g c = rw (← c.self.view_is) (one_island _ c.journal.ensures.headline.sound)

pub returns-clause-only_awake_movers_have_momentum : goal.returns-clause-only_awake_movers_have_momentum
returns-clause-only_awake_movers_have_momentum g c = rw (← c.self.view_is) (only_awake_have _ c.journal.ensures.headline.sound)

pub returns-clause-totals : goal.returns-clause-totals
returns-clause-totals g c = rw (← c.self.view_is) c.journal.ensures.headline.totals
