use Rattle.std.proofs.Common.{◌≡◌, ◌<◌, sym, ap, ◌∙◌, arith}
use Rattle.seat_book.specs.Rules.{passing, known_by}
use Rattle.seat_book.proofs.Moves.{takes_in_at}
use Rattle.seat_book.proofs.book.Book.take_in.Goals as goal

pub join_seat-requires : goal.join_seat-requires
join_seat-requires g c =
    let named = c.args.self.now.of_its_name in
    let one : 0 < c.args.self.now.table.shared.table_id.words = omega (arith, named.1) in
    let seat = c.into_seat.ensures in
    let taken = c.replace-taken.ensures.value in
    let badge = c.args.badge.now in
    let pass : c.into_seat.result.me.0 ≡ passing (known_by badge.views) = cc (seat.2, ap (λ b. b.views) taken, c.requires.badge.1) in (
      c.requires.desk.0 ∙ sym named.0,
      seat.0 ∙ (ap (λ b. b.table_id) taken ∙ (c.requires.badge.0 ∙ sym named.0)),
      seat.3,
      one,
      takes_in_at c.args.desk.now.id c.args.desk.now.me c.into_seat.result.id c.into_seat.result.me.0 (known_by badge.views) c.requires.desk.1 pass,
    )
