use Rattle.std.proofs.Common.{◌≡◌, add-one, arith, get_or}
use Rattle.std.proofs.lemmas.Grind.{common_steps}
use Rattle.contacts_base.proofs.MergeLaws.{merged_more}
use Rattle.contacts_base.proofs.ascending.merge.Goals as goal

pub loop-item-preserved : goal.loop-item-preserved
loop-item-preserved g c =
    let is : c.item-item.result ≡ get_or c.args.first.now c.loop-item.item-index c.item-item.result = grind (arith, common_steps) in
    record {
      within = c.in_ok-place.ensures.within;
      merged = rw add-one (merged_more g.T.Numbered.number c.args.first.now c.args.second.now c.loop-item.all.items c.push_below.new.all.items c.push.new.self.items _ c.loop-item.item-index c.loop-item.place c.in_ok-place.place c.item-item.result c.item-item.result
          c.loop-item-test.true is c.requires.first c.requires.second c.loop-item.invariant.merged c.in_ok-place.ensures.pushed c.in_ok-place.ensures.left (grind (arith, common_steps)));
    }
