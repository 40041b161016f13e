use Rattle.std.proofs.Common.{rules}
use Rattle.std.proofs.lemmas.Int.{to_z-of_z}
use Rattle.std.specs.Int.{w64, w128}
use mir.Val.{SFits}
use Rattle.fixed_geom.proofs.Shifts.{shift_by_sign, size}
use Rattle.fixed_geom.proofs.products_64.rdiv_unit_by_sign.Goals as goal

pub returns-clause-value : goal.returns-clause-value
returns-clause-value c =
    let x : SFits w128 c.args.x = c.ranges.x in
    let u : SFits w64 c.halves_of.result.upper = search rules in
    shift_by_sign c.args.x c.halves_of.result.upper c.requires (simp to_z-of_z at c.halves_of.ensures.upper)

pub returns-clause-within : goal.returns-clause-within
returns-clause-within c = rw (returns-clause-value c) (size c.args.x c.requires)
