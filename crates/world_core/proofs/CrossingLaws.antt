-- A world may cross threads, as each of its parts may: one search for all of them would come to its limit. What a collide
-- reads may be shared by them.
use denote.Param.Send.{IsSend, IsSync, sendable}
use Rattle.std.proofs.Crossing.{crosses}
use Rattle.box_tree.specs.contracts.boxes.BoxTree as BoxTree
use Rattle.world_core_base.specs.contracts.body_table.BodyTable as BodyTable
use Rattle.body_handles.specs.contracts.handles.Handles as Handles
use Rattle.impulse_ledger.specs.contracts.ledger.Ledger as Ledger
use Rattle.event_feed.specs.contracts.events.Events as Events
use Rattle.world_core.specs.contracts.world.WorldCore as World
use denote.RattleType.{RattleType}
use Rattle.graph_colours.specs.declared.member.ConstraintId.{Ghosts}
use Rattle.graph_colours.specs.contracts.colours.Colours as Colours
use Rattle.graph_colours.specs.contracts.edited.EditedList as EditedList
use Rattle.islands.specs.contracts.islands.Islands as Islands
use Rattle.islands.specs.contracts.scratch.SplitScratch as SplitScratch
use Rattle.plain_world.specs.contracts.constraint.Constraint as Constraint
use Rattle.sleep_wake.specs.contracts.sets.Sets as Sets
use Rattle.world_core.specs.contracts.collide.BodyShapes as BodyShapes
use Rattle.box_tree_base.proofs.CrossingLemmas.{tree_send, tree_sync}
use Rattle.world_core_base.proofs.CrossingLaws.{contacts_send, joints_send, rows_send}

boxes_send : IsSend BoxTree.the_row
boxes_send = search (tree_send, crosses, sendable) depth 40 fits 60000

table_send : IsSend BodyTable.the_row
table_send = search (boxes_send, crosses, sendable) depth 60 fits 60000

handles_send : IsSend Handles.the_row
handles_send = search (crosses, sendable) depth 60 fits 60000

ledger_send : IsSend Ledger.the_row
ledger_send = search (crosses, sendable) depth 60 fits 60000

events_send : IsSend Events.the_row
events_send = search (crosses, sendable) depth 60 fits 60000

constraint_send : IsSend Constraint.the_row
constraint_send = search (crosses, sendable) depth 60 fits 60000

islands_send : IsSend Islands.the_row
islands_send = search (crosses, sendable) depth 60 fits 60000

splits_send : IsSend SplitScratch.the_row
splits_send = search (crosses, sendable) depth 60 fits 60000

module _ (C : RattleType) (g : Ghosts C.Denot) (s : IsSend C) where
  list_send : IsSend (EditedList.the_row C g)
  list_send = search (crosses, sendable) depth 60 fits 60000

  colours_send : IsSend (Colours.the_row C g)
  colours_send = search (crosses, sendable) depth 60 fits 60000

  sets_send : IsSend (Sets.the_row C g)
  sets_send = search (list_send, colours_send, islands_send, splits_send, crosses, sendable) depth 60 fits 60000

pub world_send : IsSend World.the_row
world_send = search (sets_send, constraint_send, table_send, handles_send, joints_send, contacts_send, rows_send, ledger_send, events_send, crosses, sendable) depth 60 fits 60000

-- ---- what a collide reads

boxes_sync : IsSync BoxTree.the_row
boxes_sync = search (tree_sync, crosses, sendable) depth 40 fits 60000

table_sync : IsSync BodyTable.the_row
table_sync = search (boxes_sync, crosses, sendable) depth 60 fits 60000

pub shapes_send : IsSend BodyShapes.the_row
shapes_send = search (table_send, crosses, sendable) depth 60 fits 60000

pub shapes_sync : IsSync BodyShapes.the_row
shapes_sync = search (table_sync, crosses, sendable) depth 60 fits 60000
