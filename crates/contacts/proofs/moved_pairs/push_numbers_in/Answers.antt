use Rattle.std.proofs.Common.{arith}
use Rattle.contacts.proofs.NearMarkedLaws.{numbers_pushed}
use Rattle.contacts.proofs.moved_pairs.push_numbers_in.Goals as goal

pub loop-index-preserved : goal.loop-index-preserved
loop-index-preserved g c = numbers_pushed (g.S.ShapesById.proxies c.args.shapes.now) c.args.p.now c.args.slot c.loop-index.index _ _ _ _ _ c.loop-index.invariant (omega arith) c.number_with.ensures c.in_ok-push_number.ensures.pushed
