use Rattle.std.proofs.Common.{arith}
use Rattle.contacts.proofs.NearMarkedLaws.{index_step}
use Rattle.contacts.proofs.moved_pairs.push_numbers_of_slot.Goals as goal

pub loop-index-preserved : goal.loop-index-preserved
loop-index-preserved g c = record {
  kept = λ n h. c.in_ok-push_numbers_of.ensures.kept n (c.loop-index.invariant.kept n h);
  near = index_step (g.S.ShapesById.proxies c.args.shapes.now) c.args.slot c.loop-index.index _ c.loop-index.numbers.items _ c.in_ok-push_numbers_of.ensures.kept c.loop-index.invariant.near (omega arith) c.in_ok-push_numbers_of.ensures.near;
}
