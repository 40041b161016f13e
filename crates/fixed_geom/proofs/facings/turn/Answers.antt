use Rattle.std.proofs.Common.{◌≡◌, pos, arith, sym, ◌∙◌, ap, of_z}
use Rattle.std.proofs.lemmas.Int.{to_z-of_z, ints}
use Rattle.std.specs.Int.{w64}
use mir.Val.{SFits}
use Rattle.fixed_geom.specs.Facings.{facing_along}
use Rattle.fixed_geom.proofs.FacingLemmas.{turn-still, turn-spun}
use Rattle.fixed_geom.proofs.facings.turn.Goals as goal

pub returns-then-w-eq0-clause-value : goal.returns-then-w-eq0-clause-value
returns-then-w-eq0-clause-value c =
    let still : c.args.w ≡ pos 0 = omega (arith, ints) in
    sym (turn-still c.args.q c.args.w still)

pub returns-else-w-eq0-clause-value : goal.returns-else-w-eq0-clause-value
returns-else-w-eq0-clause-value c =
    let w : SFits w64 c.args.w = c.ranges.w in
    let swung = simp to_z-of_z at c.swung.ensures.value in
    c.facing_along.ensures.value ∙ ap facing_along swung ∙ sym (turn-spun c.args.q c.args.w (λ e. c.if-w-eq0.false (ap (of_z w64) e)))
