use Rattle.std.proofs.Common.{rules, ◌≡◌, length, map, ◌-◌, ◌/◌, ap, ◌∙◌, arith}
use Rattle.crew.proofs.PieceLaws.{one_more, none_left}
use Rattle.crew.proofs.pieces.start_all.Goals as goal

pub loop-piece-preserved : goal.loop-piece-preserved
loop-piece-preserved g c =
    let answer = g.W.Work.answer in
    let rest = c.loop-piece.rest.now in
    let left = c.args.of - c.loop-piece.piece in
    let here = ap (λ q. map (answer q.work.now) q.items.now) c.in-Ok.ensures.ok ∙ ap (map (answer c.args.asked.work.now)) c.split_at.ensures.front in
    record {
      len = search rules;
      room = search rules;
      accepted = search rules;
      whole = rw (c.push_reserved.ensures.items, c.split_at.ensures.back) (one_more (λ h. map (answer h.promise.work.now) h.promise.items.now) (answer c.args.asked.work.now) c.loop-piece.pieces.items c.in-Ok.handle rest c.args.asked.items.now (length rest / left) c.loop-piece.invariant.whole here);
      last = λ done. let one : left ≡ 1 = omega arith in rw c.split_at.ensures.back (none_left rest left one);
    }
