use Rattle.std.proofs.Common.{List, ap, refl, ◌∙◌}
use Rattle.std.specs.List.{filter_map}
use Rattle.std.specs.Option.{option_map}
use Rattle.contacts_base.specs.declared.contact.ContactEntry.{ContactEntry}
use Rattle.contacts_base.specs.declared.key.ContactKey.{ContactKey}
use Rattle.contacts_base.specs.Contacts.{lookup}
use Rattle.contacts.specs.Numbered.{numbered_of}
use Rattle.contacts.proofs.ChangeOfLaws.{whole_pending}
use Rattle.contacts.proofs.by_sweep.note_changes.Goals as goal

pub returns-clause-pending : goal.returns-clause-pending
returns-clause-pending c s are noted =
    let same = c.in_ok-note_touches.ensures.same in
    whole_pending _ s c.in_ok-from_entries.field-0 c.args.changes are noted (same.notes ∙ c.requires.nothing.notes) (same.ends ∙ c.requires.nothing.ends) (same.short ∙ c.requires.nothing.short) refl (c.in_ok-from_entries.ensures.contacts ∙ c.into_entries.ensures.value) (same.any ∙ c.requires.any)
    (same.made ∙ c.in_ok-note_made.ensures.noted ∙ ap (λ (es : List ContactEntry). filter_map (λ key. option_map numbered_of (lookup es key)) c.deref.result.now) c.as_slice.ensures.value ∙ ap (λ (keys : List ContactKey). filter_map (λ key. option_map numbered_of (lookup c.args.changes.now key)) keys) c.deref.ensures.value)
    refl c.in_ok-note_touches.ensures.begin c.in_ok-note_touches.ensures.end
