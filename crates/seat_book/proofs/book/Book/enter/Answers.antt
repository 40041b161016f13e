use Rattle.std.proofs.Common.{◌<◌, sym, ◌∙◌, arith}
use Rattle.seat_book.specs.Rules.{desk_of, known_by}
use Rattle.seat_book.proofs.Moves.{holds_idle, enters_at, clears_at}
use Rattle.seat_book.proofs.book.Book.enter.Goals as goal

pub compare_exchange_with-requires : goal.compare_exchange_with-requires
compare_exchange_with-requires g c =
    let named = c.args.self.now.of_its_name in
    let one : 0 < c.args.self.now.table.shared.table_id.words = omega (arith, named.1) in
    let was = c.keeper.inside.seat.me in
    let known = known_by c.pass.inside.badge.views in
    let holds = holds_idle was c.take_in.new.desk.me known c.keeper.invariant.1 c.take_in.ensures.1 in
    (c.take_in.ensures.0 ∙ sym named.0, one, enters_at _ _ c.take_in.new.desk.me (desk_of was.0).history (desk_of was.0).dealt known _ _ holds c.pass.invariant.2)

pub store-requires : goal.store-requires
store-requires g c =
    let named = c.args.self.now.of_its_name in
    let one : 0 < c.args.self.now.table.shared.table_id.words = omega (arith, named.1) in
    (c.compare_exchange_with.ensures.0 ∙ (c.take_in.ensures.0 ∙ sym named.0), one, clears_at c.args.self.now.table.shared.table_id.slots c.compare_exchange_with.new.seat.id c.compare_exchange_with.new.seat.me _ _ c.compare_exchange_with.ensures.2.1)
