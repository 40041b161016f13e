-- A seat may go to another thread, as each of its parts may: one search for all of them would come to its limit.
use denote.RattleType.{RattleType}
use denote.Param.Send.{IsSend, IsSync, sendable}
use Rattle.std.proofs.Crossing.{crosses}
use Rattle.std.proofs.Crossing as heap
use Rattle.std.specs.contracts.alloc.Global as Global
use Rattle.std.specs.contracts.impls.GlobalAllocator.TheImpl as over
use Rattle.std.specs.contracts.vec.Vec as Vec
use Rattle.rtrb.specs.declared.Protocol as Protocol
use Rattle.rtrb.specs.contracts.AnyItems as AnyItems
use Rattle.rtrb.specs.contracts.AnyItemsProtocol.TheImpl as any
use Rattle.rtrb.specs.contracts.consumer.Consumer as Consumer
use Rattle.rtrb.specs.contracts.end.End as End
use Rattle.rtrb.specs.contracts.producer.Producer as Producer
use Rattle.rtrb.proofs.end.End.TheSendSync as ends
use Rattle.momenta.specs.contracts.state.BodyState as BodyState
use Rattle.world_core_base.proofs.CrossingLaws.{contacts_send, contacts_sync, joints_send, joints_sync, rows_send}
use Rattle.part_solver.specs.contracts.alarm.Alarm as Alarm
use Rattle.part_solver.specs.contracts.lent.Lent as Lent
use Rattle.part_solver.specs.contracts.mail.Item as Item
use Rattle.part_solver.specs.contracts.mail.Mail as Mail
use Rattle.part_solver.specs.contracts.mail.MailProtocolItem.TheImpl as mail
use Rattle.part_solver.specs.contracts.ports.Ports as Ports
use Rattle.part_solver.specs.contracts.ports.Ports.TheInside as Ends
use Rattle.part_solver.specs.contracts.seat.Seat as Seat
use Rattle.part_solver.specs.contracts.step_lists.StepLists as StepLists

-- ---- the ends of a ring

module _ (T P : RattleType) (g : Protocol.Ghosts P.Denot T.Denot) (s : IsSend T) where
  end_send : IsSend (End.the_row T Global.the_row P over.ghosts g)
  end_send = ends.the_send T Global.the_row P over.ghosts g s heap.send heap.frees

  producer_send : IsSend (Producer.the_row T Global.the_row P over.ghosts g)
  producer_send = search (end_send, crosses, sendable) depth 60 fits 60000

  consumer_send : IsSend (Consumer.the_row T Global.the_row P over.ghosts g)
  consumer_send = search (end_send, crosses, sendable) depth 60 fits 60000

-- ---- what goes through it

body_send : IsSend BodyState.the_row
body_send = search (crosses, sendable) depth 60 fits 60000

letter_send : IsSend (Vec.the_row BodyState.the_row Global.the_row over.ghosts)
letter_send = search (body_send, crosses, sendable) depth 60 fits 60000

item_send : IsSend Item.the_row
item_send = search (letter_send, crosses, sendable) depth 60 fits 60000

-- ---- what is lent

lent_send : IsSend Lent.the_row
lent_send = search (joints_send, contacts_send, crosses, sendable) depth 60 fits 60000

lent_sync : IsSync Lent.the_row
lent_sync = search (joints_sync, contacts_sync, crosses, sendable) depth 60 fits 60000

-- ---- a seat

step_send : IsSend StepLists.the_row
step_send = search (letter_send, crosses, sendable) depth 60 fits 60000

step_sync : IsSync StepLists.the_row
step_sync = search (crosses, sendable) depth 60 fits 60000

outs_send : IsSend (Vec.the_row (Producer.the_row Item.the_row Global.the_row Mail.the_row over.ghosts mail.ghosts) Global.the_row over.ghosts)
outs_send = heap.Vec-send _ (producer_send Item.the_row Mail.the_row mail.ghosts item_send)

ins_send : IsSend (Vec.the_row (Consumer.the_row Item.the_row Global.the_row Mail.the_row over.ghosts mail.ghosts) Global.the_row over.ghosts)
ins_send = heap.Vec-send _ (consumer_send Item.the_row Mail.the_row mail.ghosts item_send)

returns_send : IsSend (Vec.the_row (Producer.the_row (Vec.the_row BodyState.the_row Global.the_row over.ghosts) Global.the_row AnyItems.the_row over.ghosts (any.ghosts (Vec.the_row BodyState.the_row Global.the_row over.ghosts))) Global.the_row over.ghosts)
returns_send = heap.Vec-send _ (producer_send (Vec.the_row BodyState.the_row Global.the_row over.ghosts) AnyItems.the_row (any.ghosts (Vec.the_row BodyState.the_row Global.the_row over.ghosts)) letter_send)

spares_send : IsSend (Vec.the_row (Consumer.the_row (Vec.the_row BodyState.the_row Global.the_row over.ghosts) Global.the_row AnyItems.the_row over.ghosts (any.ghosts (Vec.the_row BodyState.the_row Global.the_row over.ghosts))) Global.the_row over.ghosts)
spares_send = heap.Vec-send _ (consumer_send (Vec.the_row BodyState.the_row Global.the_row over.ghosts) AnyItems.the_row (any.ghosts (Vec.the_row BodyState.the_row Global.the_row over.ghosts)) letter_send)

alarm_send : IsSend Alarm.the_row
alarm_send = search (crosses, sendable) depth 60 fits 60000

alarm_sync : IsSync Alarm.the_row
alarm_sync = search (crosses, sendable) depth 60 fits 60000

ends_send : IsSend Ends.the_row
ends_send = search (alarm_send, alarm_sync, outs_send, spares_send, ins_send, returns_send, crosses, sendable) depth 60 fits 60000

ports_send : IsSend Ports.the_row
ports_send = search (ends_send, sendable) depth 60 fits 60000

pub seat_send : IsSend Seat.the_row
seat_send = search (step_send, step_sync, lent_send, lent_sync, rows_send, ports_send, crosses, sendable) depth 60 fits 60000
