use Rattle.std.proofs.Common.{arith, refl}
use Rattle.std.proofs.lemmas.List.{take_all}
use Rattle.dillmonth.proofs.BatchLaws.{ran_next, ran_through}
use Rattle.dillmonth.proofs.batch.answer_all.Goals as goal

pub loop-at-preserved : goal.loop-at-preserved
loop-at-preserved c = record {
  within = omega (arith, c.loop-at-test.true);
  ran = ran_next c.args.shapes.now c.args.commands.now c.loop-at.answers c.loop-at.at _ _ _ _ _ _ c.loop-at-test.true (omega (arith, c.loop-at-test.true, c.loop-at.auto.answers, c.requires)) refl c.loop-at.invariant.ran c.answer_one.ensures;
}

pub returns-clause-ran : goal.returns-clause-ran
returns-clause-ran c =
    ran_through c.args.shapes.now c.args.commands.now c.loop-at.answers c.loop-at.at _ _ (take_all _ _ c.loop-at-test.false)
    (take_all _ _ (omega (arith, c.loop-at-test.false, c.loop-at.auto.answers, c.requires))) c.loop-at.invariant.ran
