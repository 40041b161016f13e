use Rattle.std.proofs.Common.{◌<◌, ◌≤◌, subst, arith}
use Rattle.contacts_base.proofs.SeekLemmas.{all_below, none_below}
use Rattle.contacts_base.proofs.contact.place_from.Goals as goal

pub place_between-requires-clause-high : goal.place_between-requires-clause-high
place_between-requires-clause-high c =
    none_below _ c.requires.rising _ _ _ (omega (arith, c.loop-width.invariant.below.within)) (subst (λ n. c.args.wanted ≤ n) c.number.ensures.value c.if-number-wanted.true)

pub loop-width-preserved : goal.loop-width-preserved
loop-width-preserved c = record {
  below = all_below _ c.requires.rising _ _ _ (omega (arith, c.loop-width.invariant.below.within)) (subst (λ n. n < c.args.wanted) c.number.ensures.value c.if-number-wanted.false);
  some = omega arith;
}
