use Rattle.std.proofs.Common.{map, sym, ◌∙◌}
use Rattle.colour_solver.specs.declared.colour_ends.ColourEnd.{ColourEnd}
use Rattle.colour_solver.proofs.KeptRowLaws.{as_many_ends, contacts_kept}
use Rattle.colour_solver.proofs.colour_rows.Rows.contacts.Goals as goal

pub returns : goal.returns
returns c =
    let ends = c.self.inside.ends.items in
    rw (← c.self.view_is)
    (c.as_slice.ensures.value ∙ sym (contacts_kept (map (λ (e : ColourEnd). e.joints) ends) (map (λ (e : ColourEnd). e.contacts) ends) c.self.inside.joints.items c.self.inside.contacts.items (as_many_ends (λ (e : ColourEnd). e.joints) (λ (e : ColourEnd). e.contacts) ends)))
