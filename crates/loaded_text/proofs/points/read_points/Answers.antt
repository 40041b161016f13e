use Rattle.std.proofs.Common.{Some, refl, sym, ap, ◌∙◌}
use Rattle.contacts_base.specs.declared.contact.Contact.{Contact}
use Rattle.loaded_text.specs.declared.points.Points.{Points}
use Rattle.loaded_text.proofs.ContactLaws.{one_point_holds, two_points_hold}
use Rattle.loaded_text.proofs.points.read_points.Goals as goal

pub returns-then-take-2 : goal.returns-then-take-2
returns-then-take-2 c =
    let p = c.in_ok-read_point.field-0 in
    let points : Points = record { contact = c.with_first-contact.result; count = 1 } in
    one_point_holds c.args.lead.now points p _ _ _ _ _ (c.with_first-contact.ensures ∙ ap (λ (x : Contact). record { first = Some p; second = x.second }) c.apart-contact.ensures) refl
    c.in_ok-expect.ensures.taken (sym (c.take.ensures.kept c.if-take.false) ∙ c.in_ok-expect-2.ensures.taken) c.in_ok-read_point.ensures.text (c.take-2.ensures.taken c.if-take-2.true)

pub returns : goal.returns
returns c =
    let p = c.in_ok-read_point.field-0 in
    let q = c.in_ok-read_point-2.field-0 in
    let points : Points = record { contact = c.with_second-contact.result; count = 2 } in
    two_points_hold c.args.lead.now points p q _ _ _ _ _ _ _ (c.with_second-contact.ensures ∙ ap (λ (x : Contact). record { first = x.first; second = Some q }) c.with_first-contact.ensures) refl
    c.in_ok-expect.ensures.taken (sym (c.take.ensures.kept c.if-take.false) ∙ c.in_ok-expect-2.ensures.taken) c.in_ok-read_point.ensures.text
    (sym (c.take-2.ensures.kept c.if-take-2.false) ∙ c.in_ok-expect-3.ensures.taken) c.in_ok-read_point-2.ensures.text c.in_ok-expect-4.ensures.taken
