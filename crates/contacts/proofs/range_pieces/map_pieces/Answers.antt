use Rattle.std.proofs.Common.{◌≡◌, ◌∙◌, ◌++◌, [], ap, length, map, rules}
use Rattle.contacts.proofs.range_pieces.map_pieces.Goals as goal

pub returns-clause-answers : goal.returns-clause-answers
returns-clause-answers g c = λ done.
    let lent = c.args.lent in
    let worked = map (g.P.Piece.worked lent) c.cut.new.pieces.items in
    let items = g.P.RangePiece.items lent in
    let long : length items ≡ c.count_items-all.result = search rules in
    let empty : c.reserve.new.self.items ≡ [] = c.reserve.ensures.items ∙ c.requires.empty in
    ap (λ l. g.P.RangePiece.joined l) (c.map_pieces.ensures.answers done ∙ ap (λ l. l ++ worked) empty)
    ∙ c.know_joined.ensures lent c.cut.new.pieces.items
    ∙ ap (g.P.RangePiece.answer_at lent) (c.in-Ok.ensures.cut items long)
