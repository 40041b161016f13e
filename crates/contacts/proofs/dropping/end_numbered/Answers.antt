use Rattle.std.proofs.Common.{◌≡◌, ap, sym, ◌∙◌}
use Rattle.std.proofs.lemmas.Option.{same_Some}
use Rattle.contacts_base.specs.declared.key.ContactKey.{ContactKey}
use Rattle.contacts_base.specs.Contacts.{contacts_but}
use Rattle.contacts_base.specs.Split.{contacts_in}
use Rattle.contacts.specs.Numbered.{key_of}
use Rattle.contacts.proofs.DroppingLaws.{key_over}
use Rattle.contacts.proofs.dropping.end_numbered.Goals as goal

pub returns-in-Some-clause-over : goal.returns-in-Some-clause-over
returns-in-Some-clause-over c = λ key is.
    let same : c.in-Some.contact.key ≡ key = same_Some c.in-Some.contact.key key (sym (ap key_of c.in-Some.is) ∙ ap key_of c.contact.ensures ∙ is) in
    key_over key c.args.contacts.now c.end.new.self (c.end.ensures.contacts ∙ ap (λ (k : ContactKey). contacts_but k (contacts_in c.args.contacts.now)) same) c.end.ensures.long c.end.ensures.over
