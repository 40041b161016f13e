use Rattle.std.proofs.Common.{◌≡◌, ℕ, length, map, take, arith, ap, sym, ◌∙◌}
use Rattle.std.proofs.lemmas.List.{length-map, take_all}
use Rattle.colour_solver.specs.declared.colour_ends.ColourEnd.{ColourEnd}
use Rattle.colour_solver.specs.ColourRows.{last_end}
use Rattle.colour_solver.specs.RowVisits.{between}
use Rattle.colour_solver.proofs.KeptRowLaws.{left_between, start_inside}
use Rattle.colour_solver.proofs.colour_ends.contacts_behind.Goals as goal

abbrev end_of : ColourEnd → ℕ
end_of e = e.contacts

pub part-requires-clause-ascend : goal.part-requires-clause-ascend
part-requires-clause-ascend c = start_inside end_of c.args.ends.now (length c.args.ends.now) c.start_of.result.contacts (length c.args.contacts.now) c.requires c.start_of.ensures.contacts

pub returns : goal.returns
returns c =
    let ends = map end_of c.args.ends.now in
    let all : take (length c.args.ends.now) ends ≡ ends = take_all (length c.args.ends.now) ends (let long = length-map c.args.ends.now end_of in omega (arith, long)) in
    c.part.ensures
    ∙ ap (λ (n : ℕ). between n (length c.args.contacts.now) c.args.contacts.now) (c.start_of.ensures.contacts ∙ ap (last_end 0) all)
    ∙ sym (left_between ends c.args.contacts.now c.requires)
