use Rattle.std.proofs.Common.{◌<◌, sym, ◌∙◌, arith}
use Rattle.seat_book.proofs.Moves.{gives_out_at}
use Rattle.seat_book.proofs.book.Book.give_out.Goals as goal

pub split_seat-requires : goal.split_seat-requires
split_seat-requires g c =
    let named = c.args.self.now.of_its_name in
    let one : 0 < c.args.self.now.table.shared.table_id.words = omega (arith, named.1) in
    (c.requires.0 ∙ sym named.0, one, gives_out_at c.args.desk.now.id c.args.desk.now.me c.requires.1)
