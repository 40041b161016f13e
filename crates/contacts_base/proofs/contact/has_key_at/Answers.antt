use Rattle.std.proofs.Common.{◌≡◌, ap, sym, ◌∙◌, rules, tests}
use Rattle.contacts_base.specs.Contacts.{number_of}
use Rattle.contacts_base.specs.Keys.{key_number}
use Rattle.contacts_base.proofs.SeekLemmas.{first_with}
use Rattle.contacts_base.proofs.contact.has_key_at.Goals as goal

pub returns-then-place-entries : goal.returns-then-place-entries
returns-then-place-entries c = λ h.
    let key : c.index-entries-place.result.key ≡ c.args.key = search (rules, tests) in
    first_with c.args.entries.now c.requires _ c.args.place c.index-entries-place.result c.if-place-entries.true (ap number_of (sym c.index-entries-place.is) ∙ ap key_number key)
