use Rattle.std.proofs.Common.{◌≡◌, ◌<◌, ◌≤◌, subst, arith}
use Rattle.contacts_base.specs.ContactLists.{IsNoneBelow}
use Rattle.contacts_base.proofs.SeekLemmas.{all_below, none_below, first_from}
use Rattle.contacts_base.proofs.contact.place_between.Goals as goal

pub loop-low-preserved-then-number-wanted : goal.loop-low-preserved-then-number-wanted
loop-low-preserved-then-number-wanted c = record {
  below = all_below _ c.requires.rising _ _ _ (omega (arith, c.loop-low.invariant.above.within)) (subst (λ n. n < c.args.wanted) c.number.ensures.value c.if-number-wanted.true);
  above = c.loop-low.invariant.above;
  order = omega arith;
}

pub loop-low-preserved : goal.loop-low-preserved
loop-low-preserved c = record {
  below = c.loop-low.invariant.below;
  above = none_below _ c.requires.rising _ _ _ (omega (arith, c.loop-low.invariant.above.within)) (subst (λ n. c.args.wanted ≤ n) c.number.ensures.value c.if-number-wanted.false);
  order = omega arith;
}

pub returns : goal.returns
returns c =
    let met : c.loop-low.high ≡ c.loop-low.low = omega (arith, c.loop-low.invariant.order) in
    first_from _ _ _ c.loop-low.invariant.below (subst (IsNoneBelow c.args.entries.now c.args.wanted) met c.loop-low.invariant.above)
