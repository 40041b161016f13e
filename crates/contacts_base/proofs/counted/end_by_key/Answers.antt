use Rattle.std.proofs.Common.{◌≡◌, ◌∙◌, ap, refl, true}
use Rattle.std.specs.Option.{is_some}
use Rattle.contacts_base.specs.Contacts.{lookup}
use Rattle.contacts_base.specs.Split.{counting}
use Rattle.contacts_base.proofs.CountingLaws.{found_behind}
use Rattle.contacts_base.proofs.EndedLaws.{found_ended, none_ended}
use Rattle.contacts_base.proofs.counted.end_by_key.Goals as goal

pub returns-then-is_some-clause-counts : goal.returns-then-is_some-clause-counts
returns-then-is_some-clause-counts c =
    let es = c.args.entries.now in
    let some : is_some (lookup es c.args.key) ≡ true = found_behind (λ x. x.now) c.contact_at.result c.is_some.result es es c.args.key c.contact_at.ensures refl c.is_some.ensures ∙ c.if-is_some.true in
    ap (λ l. counting l es) c.set.ensures ∙ found_ended c.args.over.now es c.args.key c.seek-place.result c.requires.rising c.requires.flags c.seek-place.ensures some

pub returns-else-is_some-clause-counts : goal.returns-else-is_some-clause-counts
returns-else-is_some-clause-counts c =
    let es = c.args.entries.now in
    none_ended c.args.over.now es c.args.key (found_behind (λ x. x.now) c.contact_at.result c.is_some.result es es c.args.key c.contact_at.ensures refl c.is_some.ensures ∙ c.if-is_some.false)
