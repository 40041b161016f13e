-- A world with its journal may cross threads.
use denote.Param.Send.{IsSend, sendable}
use Rattle.std.proofs.Crossing.{crosses}
use Rattle.world_rules.specs.contracts.command.Command as Command
use Rattle.world_rules.specs.contracts.command.Reply as Reply
use Rattle.world_lock.specs.contracts.journalled.JournalledWorld as JournalledWorld
use Rattle.world_lock.specs.contracts.opening.Opening as Opening
use Rattle.world_core.proofs.CrossingLaws.{world_send}

command_send : IsSend Command.the_row
command_send = search (crosses, sendable) depth 60 fits 60000

reply_send : IsSend Reply.the_row
reply_send = search (crosses, sendable) depth 60 fits 60000

pub journalled_send : IsSend Opening.the_row → IsSend JournalledWorld.the_row
journalled_send o = search (world_send, command_send, reply_send, crosses, sendable) depth 60 fits 60000
