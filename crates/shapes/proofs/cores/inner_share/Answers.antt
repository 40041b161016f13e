use Rattle.std.proofs.Common.{◌≡◌, ◌*ℤ◌, arith, ◌∙◌, ap, sym}
use Rattle.std.proofs.lemmas.Int.{to_z-of_z, ints}
use Rattle.std.specs.Int.{w64}
use mir.Val.{SFits}
use Rattle.fixed_geom.specs.Numbers.{rdiv}
use Rattle.fixed_geom.specs.Vectors.{unit_length}
use Rattle.shapes.specs.Cores.{part_clamped}
use Rattle.shapes.proofs.CoreLemmas.{clamped_inside, rdiv_nonnegative}
use Rattle.shapes.proofs.cores.inner_share.Goals as goal

pub returns-clause-value : goal.returns-clause-value
returns-clause-value c =
    let part : SFits w64 c.args.part = c.ranges.part in
    let whole : SFits w64 c.args.whole = c.ranges.whole in
    let fits : SFits w64 c.share.result = record { sfits = c.share.type_inv } in
    let value : c.share.result ≡ rdiv (c.args.part *ℤ unit_length) c.args.whole = simp to_z-of_z at c.share.ensures.value in
    let small = c.share.ensures.within in
    let inside = clamped_inside c.share.result (rw value (rdiv_nonnegative (c.args.part *ℤ unit_length) c.args.whole (omega (arith, ints, c.requires.nonnegative)))) small in
    simp to_z-of_z (sym inside ∙ ap part_clamped value)
