use Rattle.std.proofs.Common.{◌∙◌, Some, refl, sym, ap}
use Rattle.std.specs.Prelude.{option_map}
use Rattle.std.proofs.lemmas.Option.{none-some}
use Rattle.contacts.specs.Numbered.{contact_at}
use Rattle.solver_sets.specs.Census.{standing_of_contact}
use Rattle.world_core.proofs.ContactSetLaws.{keyed, numbered_set, unnumbered_set}
use Rattle.world_core.proofs.world.WorldCore.stand_of_contact.Goals as goal

pub returns-in_err-number : goal.returns-in_err-number
returns-in_err-number c =
    let bodies = c.self.inside.activity.bodies.bodies in
    let contacts = c.self.inside.constraints.contacts in
    rw (← c.self.view_is)
    (c.from_residual.ensures
    ∙ sym (ap (option_map (standing_of_contact bodies)) (unnumbered_set contacts.contacts contacts.numbered c.args.key c.know_numbered.ensures.numbered (λ number h. none-some number ((c.in_err-number.ensures.number number).1 h)))))

pub returns-in_err-contact : goal.returns-in_err-contact
returns-in_err-contact c =
    let number = c.in_ok-number.number in
    absurd (keyed (contact_at c.self.inside.constraints.contacts.numbered number) c.args.key ((c.in_ok-number.ensures.number number).0 refl) c.in_err-contact.ensures)

pub returns : goal.returns
returns c =
    let bodies = c.self.inside.activity.bodies.bodies in
    let contacts = c.self.inside.constraints.contacts in
    let number = c.in_ok-number.number in
    rw (← c.self.view_is)
    (ap Some c.standing_by_key.ensures
    ∙ rw c.bodies.ensures (numbered_set bodies contacts.contacts contacts.numbered number c.args.key c.in_ok-contact.contact c.know_numbered.ensures.numbered ((c.in_ok-number.ensures.number number).0 refl) (sym c.in_ok-contact.ensures)))
