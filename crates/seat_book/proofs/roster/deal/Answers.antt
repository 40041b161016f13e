use Rattle.std.proofs.Common.{◌<◌, sym, ◌∙◌, arith}
use Rattle.seat_book.proofs.Moves.{deals_at}
use Rattle.seat_book.proofs.roster.deal.Goals as goal

pub split_seat-dealt-requires : goal.split_seat-dealt-requires
split_seat-dealt-requires g c =
    let named = c.args.book.now.of_its_name in
    let one : 0 < c.args.book.now.table.shared.table_id.words = omega (arith, named.1) in
    (c.requires.0 ∙ sym named.0, one, deals_at c.args.desk.now.id c.args.desk.now.me c.args.number c.requires.1)
