use Rattle.std.proofs.Common.{◌≡◌, ◌∙◌, ap, subst, sym}
use Rattle.contacts_base.specs.Split.{Split}
use Rattle.contacts_base.specs.ChangedKeys.{AreRising}
use Rattle.contacts.proofs.ChangeLemmas.{keys_not_in_rise, keys_touching_rise}
use Rattle.contacts.proofs.changes.update.Goals as goal

pub returns-clause-made_rising : goal.returns-clause-made_rising
returns-clause-made_rising g c = subst AreRising (sym c.in_ok-present.ensures.made) (keys_not_in_rise c.args.old.now.long _ c.in_ok-present.ensures.contacts.rising)

pub returns-clause-gone_rising : goal.returns-clause-gone_rising
returns-clause-gone_rising g c =
    let same : c.long.result.now ≡ c.args.old.now.long = c.long.ensures.value ∙ ap (λ (s : Split). s.long) c.evaluate_pairs.ensures.old in
    rw (c.in_ok-past.ensures.gone, same) (keys_not_in_rise _ c.args.old.now.long c.requires.old.rising)

pub returns-clause-begin_rising : goal.returns-clause-begin_rising
returns-clause-begin_rising g c = subst AreRising (sym c.in_ok-present.ensures.begin) (keys_touching_rise c.args.old.now.long _ c.in_ok-present.ensures.contacts.rising)

pub returns-clause-end_rising : goal.returns-clause-end_rising
returns-clause-end_rising g c =
    let same : c.long.result.now ≡ c.args.old.now.long = c.long.ensures.value ∙ ap (λ (s : Split). s.long) c.evaluate_pairs.ensures.old in
    rw (c.in_ok-past.ensures.end, same) (keys_touching_rise _ c.args.old.now.long c.requires.old.rising)
