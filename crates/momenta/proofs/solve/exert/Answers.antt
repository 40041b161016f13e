use Rattle.std.proofs.Common.{◌≡◌, ◌∙◌, ap, sym}
use Rattle.std.proofs.lemmas.Int.{to_z-of_z}
use Rattle.std.specs.Int.{w64}
use mir.Val.{SFits, to_z}
use Rattle.momenta.proofs.NoImpulse.{exerted_none}
use Rattle.momenta.proofs.solve.exert.Goals as goal

pub returns-then-new-old-clause-value : goal.returns-then-new-old-clause-value
returns-then-new-old-clause-value c =
    let new : SFits w64 c.args.new = c.ranges.new in
    let same : c.args.new ≡ c.args.old = sym (to_z-of_z w64 c.args.new c.ranges.new) ∙ ap (to_z w64) c.if-new-old.true ∙ to_z-of_z w64 c.args.old c.ranges.old in
    simp to_z-of_z (rw same (sym (exerted_none c.args.line.now c.args.old c.args.ends.now c.requires.states)))

pub returns-else-new-old-clause-total : goal.returns-else-new-old-clause-total
returns-else-new-old-clause-total c =
    let new : SFits w64 c.args.new = c.ranges.new in
    let old : SFits w64 c.args.old = c.ranges.old in
    let result : SFits w64 c.exert_difference.result = record { sfits = c.exert_difference.type_inv } in
    simp to_z-of_z (simp to_z-of_z at c.exert_difference.ensures.total)

pub returns-else-new-old-clause-still : goal.returns-else-new-old-clause-still
returns-else-new-old-clause-still c =
    let old : SFits w64 c.args.old = c.ranges.old in
    let result : SFits w64 c.exert_difference.result = record { sfits = c.exert_difference.type_inv } in
    simp to_z-of_z (simp to_z-of_z at c.exert_difference.ensures.still)
