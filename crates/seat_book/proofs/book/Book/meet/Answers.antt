use Rattle.std.proofs.Common.{◌<◌, sym, ◌∙◌, arith}
use Rattle.seat_book.specs.Rules.{desk_of, known_by}
use Rattle.seat_book.proofs.Moves.{meets_at}
use Rattle.seat_book.proofs.book.Book.meet.Goals as goal

pub load-requires : goal.load-requires
load-requires g c =
    let named = c.args.self.now.of_its_name in
    let one : 0 < c.args.self.now.table.shared.table_id.words = omega (arith, named.1) in
    (c.take_in.ensures.0 ∙ sym named.0, one, meets_at _ _ _ (desk_of c.keeper.inside.seat.me.0) (known_by c.pass.inside.badge.views) c.take_in.ensures.1)
