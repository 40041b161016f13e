use Rattle.std.proofs.Common.{◌≡◌, ◌∙◌, ◌++◌, ◌∷◌, [], sym}
use Rattle.contacts_base.specs.ShortLists.{counted_from}
use Rattle.contacts_base.proofs.JoinedLaws.{joined_next, joined_passed}
use Rattle.contacts_base.proofs.split.join.Goals as goal

pub loop-place-preserved-then-is_set : goal.loop-place-preserved-then-is_set
loop-place-preserved-then-is_set c = record {
  within = c.loop-place.invariant.within;
  joined = joined_passed c.args.over.now c.args.long.now (counted_from c.loop-place.next c.args.short.now) c.loop-place.all.items _ c.loop-place.place c.requires.flags c.loop-place-test.true (sym c.is_set.ensures ∙ c.if-is_set.true) c.loop-place.invariant.joined;
}

pub loop-place-preserved : goal.loop-place-preserved
loop-place-preserved c =
    let long = c.args.long.now in
    let k = c.loop-place.place in
    let e = c.index-long-place.result in
    let added : c.push.new.self.items ≡ c.push_below.new.all.items ++ e ∷ [] = c.in_ok-push.ensures.items in
    record {
      within = c.in_ok-next.ensures.within;
      joined = joined_next c.args.over.now long c.args.short.now c.loop-place.all.items c.push_below.new.all.items c.push.new.self.items _ k c.loop-place.next c.in_ok-next.next e e c.requires.flags c.loop-place-test.true (sym c.is_set.ensures ∙ c.if-is_set.false) c.index-long-place.is c.requires.long c.requires.short c.len.ensures c.loop-place.invariant.joined c.in_ok-next.ensures.pushed c.in_ok-next.ensures.left added;
    }
