use Rattle.std.proofs.Common.{◌≡◌, ◌<◌, ◌∙◌, arith, length, min, refl}
use Rattle.dillmonth.proofs.ListLaws.{written_at, written_whole}
use Rattle.dillmonth.proofs.shown.write_all.Goals as goal

pub loop-at-preserved : goal.loop-at-preserved
loop-at-preserved g c =
    let low : c.loop-at.at < length c.args.items.now = omega (arith, c.loop-at-test.true, c.min-count.ensures) in
    let room : c.loop-at.at < length c.args.out.now = omega (arith, c.loop-at-test.true, c.min-count.ensures) in
    written_at g.T.Shown.shown c.args.items.now c.args.out.now c.loop-at.out _ c.loop-at.at c.index-items-at.result c.show.result low room c.index-items-at.is c.show.ensures c.loop-at.invariant refl

pub returns-clause-written : goal.returns-clause-written
returns-clause-written g c =
    let done : c.loop-at.at ≡ min (length c.args.items.now) (length c.args.out.now) = omega (arith, c.loop-at-test.false, c.loop-at.auto.at-end, c.min-count.ensures) in
    c.loop-at.invariant ∙ written_whole g.T.Shown.shown c.args.items.now c.args.out.now c.loop-at.at done
