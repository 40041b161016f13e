use Rattle.std.proofs.Common.{◌≡◌, ◌∙◌, ap, get_or, sym, ltb-true}
use Rattle.std.proofs.lemmas.Bool.{eqb-true}
use Rattle.contacts_base.specs.Keys.{key_number}
use Rattle.contacts_base.specs.Contacts.{number_of}
use Rattle.contacts_base.proofs.LookupLemmas.{lookup-found}
use Rattle.contacts_base.proofs.SeekLemmas.{first_with}
use Rattle.contacts_base.proofs.contact.found_at.Goals as goal

pub returns-then-is_same : goal.returns-then-is_same
returns-then-is_same c =
    let entries = c.args.entries.now in
    let e = c.in_ok-entry.entry.now in
    let within = ltb-true _ _ (sym c.in_ok-entry.ensures.lookup.0) in
    let at : e ≡ get_or entries c.args.place e = c.in_ok-entry.ensures.lookup.1 in
    let same : number_of e ≡ key_number c.args.key = eqb-true (number_of e) (key_number c.args.key) (sym c.is_same.ensures ∙ c.if-is_same.true) in
    let first = first_with entries c.requires (key_number c.args.key) c.args.place e within (ap number_of (sym at) ∙ same) in
    λ x q. lookup-found entries c.args.key c.args.place e first.below.before within at same ∙ q
