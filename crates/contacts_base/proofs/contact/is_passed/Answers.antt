use Rattle.std.proofs.Common.{◌<◌, subst, ltb-true}
use Rattle.contacts_base.proofs.SeekLemmas.{all_below}
use Rattle.contacts_base.proofs.contact.is_passed.Goals as goal

pub returns-then-place-entries : goal.returns-then-place-entries
returns-then-place-entries c = λ h.
    all_below _ c.requires _ _ _ c.if-place-entries.true (subst (λ n. n < c.args.wanted) c.number.ensures.value (ltb-true _ _ h))
