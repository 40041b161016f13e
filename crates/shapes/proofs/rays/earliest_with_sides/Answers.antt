use Rattle.std.proofs.Common.{◌≡◌, false, pos, rules, tests}
use Rattle.std.proofs.lemmas.Int.{to_z-of_z}
use Rattle.std.specs.Int.{w64}
use Rattle.std.specs.Ordering.{int_eq}
use mir.Val.{SFits}
use Rattle.shapes.proofs.BeamLemmas.{with_sides}
use Rattle.shapes.proofs.rays.earliest_with_sides.Goals as goal

pub returns : goal.returns
returns c =
    let radius : SFits w64 c.args.radius = c.ranges.radius in
    let wide : int_eq c.args.radius (pos 0) ≡ false = search (rules, tests) in
    let by = simp to_z-of_z at c.to_side-by.ensures.value in
    rw (c.earlier-3.ensures, c.earlier-2.ensures, c.side_hit-left.ensures, c.side_hit-right.ensures, c.shifted.ensures.value, c.shifted-2.ensures.value, c.opposite.ensures.value, by)
    (with_sides c.args.best c.args.beam.now c.args.core.now c.args.radius wide)
