-- Joints, contacts and rows may go to another thread, and joints and contacts may be read in any, as each of their parts
-- may: one search for all of them would come to its limit.
use denote.Param.Send.{IsSend, IsSync, sendable}
use Rattle.std.proofs.Crossing.{crosses}
use Rattle.contacts_base.specs.contracts.split.SplitContacts as SplitContacts
use Rattle.contacts.specs.contracts.survey_pieces.LookedPlaces as LookedPlaces
use Rattle.contacts.specs.contracts.pair_pieces.EvaluatedPairs as EvaluatedPairs
use Rattle.contacts.specs.contracts.pair_sweep.PairSweep as PairSweep
use Rattle.contacts.specs.contracts.contact_table.ContactTable as ContactTable
use Rattle.colour_solver.specs.contracts.colour_rows.Rows as Rows
use Rattle.world_core_base.specs.contracts.joint_table.JointTable as JointTable

pub joints_send : IsSend JointTable.the_row
joints_send = search (crosses, sendable) depth 60 fits 60000

pub joints_sync : IsSync JointTable.the_row
joints_sync = search (crosses, sendable) depth 60 fits 60000

pub split_send : IsSend SplitContacts.the_row
split_send = search (crosses, sendable) depth 60 fits 60000

pub split_sync : IsSync SplitContacts.the_row
split_sync = search (crosses, sendable) depth 60 fits 60000

places_send : IsSend LookedPlaces.the_row
places_send = search (crosses, sendable) depth 60 fits 60000

places_sync : IsSync LookedPlaces.the_row
places_sync = search (crosses, sendable) depth 60 fits 60000

evaluated_send : IsSend EvaluatedPairs.the_row
evaluated_send = search (crosses, sendable) depth 60 fits 60000

evaluated_sync : IsSync EvaluatedPairs.the_row
evaluated_sync = search (crosses, sendable) depth 60 fits 60000

sweep_send : IsSend PairSweep.the_row
sweep_send = search (evaluated_send, crosses, sendable) depth 60 fits 60000

sweep_sync : IsSync PairSweep.the_row
sweep_sync = search (evaluated_sync, crosses, sendable) depth 60 fits 60000

pub contacts_send : IsSend ContactTable.the_row
contacts_send = search (split_send, places_send, sweep_send, crosses, sendable) depth 90 fits 400000

pub contacts_sync : IsSync ContactTable.the_row
contacts_sync = search (split_sync, places_sync, sweep_sync, crosses, sendable) depth 90 fits 400000

pub rows_send : IsSend Rows.the_row
rows_send = search (crosses, sendable) depth 60 fits 60000
