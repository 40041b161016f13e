use Rattle.std.proofs.Common.{arith, ◌≡◌}
use Rattle.std.proofs.lemmas.Int.{to_z-of_z}
use Rattle.std.specs.Int.{w128}
use mir.Val.{SFits}
use Rattle.fixed_geom.specs.Numbers.{fdiv}
use Rattle.fixed_geom.proofs.QuotientLemmas.{fdiv-euclid, fdiv-floor}
use Rattle.fixed_geom.proofs.quotients.fdiv.Goals as goal

pub returns : goal.returns
returns c =
    let fits : SFits w128 c.div_euclid.result = record { sfits = c.div_euclid.type_inv } in
    let value : c.div_euclid.result ≡ fdiv c.args.a c.args.b = grind (arith, to_z-of_z, fdiv-euclid) in
    record { value = simp to_z-of_z value; floor = simp to_z-of_z (rw value (fdiv-floor c.args.a c.args.b c.requires.positive)) }
