use Rattle.std.proofs.Common.{rules, ◌≡◌, length, map, sym, ◌∙◌}
use Rattle.std.proofs.lemmas.List.{length-map}
use Rattle.colour_solver.specs.declared.colour_ends.ColourEnd.{ColourEnd}
use Rattle.colour_solver.proofs.KeptRowLaws.{as_many_ends}
use Rattle.colour_solver.proofs.RowPlaceLaws.{colours_count}
use Rattle.colour_solver.proofs.colour_rows.Rows.colours.Goals as goal

pub returns : goal.returns
returns c =
    let ends = c.self.inside.ends.items in
    let long = colours_count (map (λ (e : ColourEnd). e.joints) ends) (map (λ (e : ColourEnd). e.contacts) ends) c.self.inside.joints.items c.self.inside.contacts.items (as_many_ends (λ (e : ColourEnd). e.joints) (λ (e : ColourEnd). e.contacts) ends) in
    let counted : c.len.result ≡ length ends = search rules in
    rw (← c.self.view_is) (counted ∙ sym (long ∙ length-map ends (λ (e : ColourEnd). e.joints)))
