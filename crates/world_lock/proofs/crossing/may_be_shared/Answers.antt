use denote.RattleType.{RattleType}
use denote.Param.Send.{IsSend, IsSync, sendable}
use denote.Param.SendFields.{declared_sync}
use Rattle.std.proofs.Crossing.{crosses}
use Rattle.seat_book.specs.contracts.book.Book as Book
use Rattle.seat_book.specs.contracts.book.Keeper as Keeper
use Rattle.world_rules.specs.contracts.command.Command as Command
use Rattle.world_rules.specs.contracts.command.Reply as Reply
use Rattle.world_lock.specs.contracts.held.Held as Held
use Rattle.world_lock.specs.contracts.journalled.JournalledWorld as JournalledWorld
use Rattle.world_lock.specs.contracts.opening.Opening as Opening
use Rattle.world_lock.specs.contracts.crossing.may_be_shared.{N-row}
use Rattle.world_lock.proofs.CrossingLaws.{journalled_send}
use Rattle.world_lock.proofs.crossing.may_be_shared.Goals as goal

pub returns : goal.returns
returns g c =
    let N : RattleType = N-row g.row.N in
    let opening : IsSend Opening.the_row = record { owned = c.shows_send.ensures.owned; leaving = λ k d w. tt } in
    let keeper : IsSend (Keeper.the_row N Command.the_row Reply.the_row g.N.Named) = record { owned = c.shows_send-2.ensures.owned; leaving = λ k d w. tt } in
    let journalled : IsSend JournalledWorld.the_row = journalled_send opening in
    let book : IsSync (Book.the_row N Command.the_row Reply.the_row g.N.Named) = record { shared = c.shows_sync.ensures.shared } in
    let held : IsSend (Held.the_row N g.N.Opened g.N.Named) = search (crosses, sendable) depth 60 fits 60000 in
    search (book, held, declared_sync, crosses) depth 60 fits 60000
