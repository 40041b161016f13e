use Rattle.std.proofs.Common.{codes, List, Option, ℕ, ap, ◌∙◌, nat_eq, subst}
use Rattle.std.specs.HashMap.{get}
use Rattle.serde_json.specs.Data.{Data}
use Rattle.contacts_base.specs.declared.contact.ContactEntry.{ContactEntry}
use Rattle.world_file_base.specs.SavedContacts.{contacts_data}
use Rattle.world_file.specs.Files.{contact_colours}
use Rattle.world_file.specs.Taken.{contact_colours_by}
use Rattle.world_file.proofs.Numbered.{contacts_numbered}
use Rattle.saved_text.specs.Tokens.{AddsValue}
use Rattle.saved_text.proofs.Adding.{member_added, wrote}
use Rattle.saved_text.proofs.world.put_all_contacts.Goals as goal

pub returns : goal.returns
returns c =
    let p = c.args.plain.now in
    let of = get nat_eq c.args.by_number.now in
    let listed = ap (λ (es : List ContactEntry). contacts_data es (contact_colours_by of es)) c.contacts.ensures in
    let coloured = ap (λ (cs : List (Option ℕ)). contacts_data p.contacts cs) (contacts_numbered of p.colours p.contacts c.requires.colours) in
    let written = subst (λ (d : Data). AddsValue d c.key.new.self c.put_contacts.new.out) (listed ∙ coloured) c.in_ok-put_contacts.ensures.text in
    record { text = member_added (codes "contacts") (contacts_data p.contacts (contact_colours p.colours p.contacts)) _ _ _ (wrote _ _ _ _ c.in_ok-key.ensures) written }
