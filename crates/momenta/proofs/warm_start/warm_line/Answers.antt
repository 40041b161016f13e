use Rattle.std.proofs.Common.{◌≡◌, ◌∙◌, ap, sym, pos}
use Rattle.std.proofs.lemmas.Int.{to_z-of_z}
use Rattle.std.specs.Int.{w64}
use mir.Val.{to_z}
use Rattle.momenta.proofs.NoImpulse.{warmed_none}
use Rattle.momenta.proofs.warm_start.warm_line.Goals as goal

pub returns-else-total-ne0-clause-value : goal.returns-else-total-ne0-clause-value
returns-else-total-ne0-clause-value c =
    let none : c.args.total ≡ pos 0 = sym (to_z-of_z w64 c.args.total c.ranges.total) ∙ ap (to_z w64) c.if-total-ne0.false in
    rw none (sym (warmed_none c.args.line.now c.args.ends.now c.requires.states))
