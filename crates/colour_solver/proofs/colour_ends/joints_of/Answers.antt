use Rattle.std.proofs.Common.{ℕ, length, map, ap₂, sym, ◌∙◌}
use Rattle.colour_solver.specs.declared.colour_ends.ColourEnd.{ColourEnd}
use Rattle.colour_solver.specs.RowVisits.{between}
use Rattle.colour_solver.proofs.KeptRowLaws.{below_ends, end_inside, end_there, start_low}
use Rattle.colour_solver.proofs.RowPlaceLaws.{cut_there}
use Rattle.colour_solver.proofs.colour_ends.joints_of.Goals as goal

abbrev end_of : ColourEnd → ℕ
end_of e = e.joints

pub part-requires-clause-ascend : goal.part-requires-clause-ascend
part-requires-clause-ascend c =
    start_low end_of c.args.ends.now c.args.colour c.start_of.result.joints (length c.args.joints.now) (record { joints = 0; contacts = 0 }) c.requires.ends c.requires.colour c.start_of.ensures.joints

pub part-requires-clause-end : goal.part-requires-clause-end
part-requires-clause-end c = end_inside end_of c.args.ends.now c.args.colour (length c.args.joints.now) (record { joints = 0; contacts = 0 }) c.requires.ends c.requires.colour

pub returns : goal.returns
returns c =
    let ends = c.args.ends.now in
    let k = c.args.colour in
    c.part.ensures
    ∙ ap₂ (λ (n e : ℕ). between n e c.args.joints.now) c.start_of.ensures.joints (end_there end_of ends k (record { joints = 0; contacts = 0 }) c.requires.colour)
    ∙ sym (cut_there (map end_of ends) c.args.joints.now k c.requires.ends (below_ends end_of ends k c.requires.colour))
