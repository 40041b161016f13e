use Rattle.std.proofs.Common.{◌≡◌, ◌∙◌, sym, refl, ap, ltb-true, ltb-false}
use Rattle.std.proofs.lemmas.Bool.{eqb-false, eqb-true}
use Rattle.std.specs.Option.{option_copied}
use Rattle.contacts_base.specs.Keys.{key_number}
use Rattle.contacts_base.specs.Contacts.{number_of}
use Rattle.contacts_base.proofs.LookupLemmas.{lookup-found, lookup-missed, lookup-beyond}
use Rattle.contacts_base.proofs.contact.contact_at.Goals as goal

pub returns-in_err-entry : goal.returns-in_err-entry
returns-in_err-entry c =
    rw (lookup-beyond c.args.entries.now c.args.key c.args.place c.requires.place.below.before (ltb-false _ _ (sym c.in_err-entry.ensures.lookup.0))) (ap option_copied c.from_residual.ensures)

pub returns-then-is_same : goal.returns-then-is_same
returns-then-is_same c =
    let e = c.in_ok-entry.entry.now in
    let same : number_of e ≡ key_number c.args.key = eqb-true (number_of e) (key_number c.args.key) (sym c.is_same.ensures ∙ c.if-is_same.true) in
    rw (lookup-found c.args.entries.now c.args.key c.args.place e c.requires.place.below.before (ltb-true _ _ (sym c.in_ok-entry.ensures.lookup.0)) c.in_ok-entry.ensures.lookup.1 same) refl

pub returns-else-is_same : goal.returns-else-is_same
returns-else-is_same c =
    let e = c.in_ok-entry.entry.now in
    let other : number_of e ≡ key_number c.args.key → ⊥ = eqb-false (number_of e) (key_number c.args.key) (sym c.is_same.ensures ∙ c.if-is_same.false) in
    rw (lookup-missed c.args.entries.now c.args.key c.args.place e c.requires.rising c.requires.place.below.before (c.requires.place.there e) (ltb-true _ _ (sym c.in_ok-entry.ensures.lookup.0)) c.in_ok-entry.ensures.lookup.1 other) refl
