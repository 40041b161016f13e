use Rattle.std.proofs.Common.{◌≡◌, ◌^◌, arith}
use Rattle.std.proofs.lemmas.Int.{to_z-of_z, ints}
use Rattle.std.specs.Int.{w64}
use mir.Val.{SFits}
use Rattle.fixed_geom.specs.Vectors.{cross, unit_length}
use Rattle.fixed_geom.proofs.QuotientLemmas.{rdiv_le}
use Rattle.momenta.proofs.inverse.lever.Goals as goal

pub rdiv_unit_64-requires : goal.rdiv_unit_64-requires
rdiv_unit_64-requires c =
    let crossed : SFits w64 c.cross_64.result = record { sfits = c.cross_64.type_inv } in
    simp to_z-of_z (omega (arith, c.cross_64.ensures.within))

pub returns-clause-value : goal.returns-clause-value
returns-clause-value c =
    let product : SFits w64 c.cross_64.result = record { sfits = c.cross_64.type_inv } in
    let quotient : SFits w64 c.rdiv_unit_64.result = record { sfits = c.rdiv_unit_64.type_inv } in
    let crossed : c.cross_64.result ≡ cross c.args.r c.args.direction = c.cross_64.ensures.value in
    simp to_z-of_z (rw crossed at (simp to_z-of_z at c.rdiv_unit_64.ensures.value))

pub returns-clause-within : goal.returns-clause-within
returns-clause-within c =
    let product : SFits w64 c.cross_64.result = record { sfits = c.cross_64.type_inv } in
    let quotient : SFits w64 c.rdiv_unit_64.result = record { sfits = c.rdiv_unit_64.type_inv } in
    let value = simp to_z-of_z at c.rdiv_unit_64.ensures.value in
    simp to_z-of_z (rw value (rdiv_le c.cross_64.result unit_length (2 ^ 28) (omega (arith, ints)) (omega (arith, ints, c.cross_64.ensures.size (2 ^ 27) (2 ^ 30) c.requires.offset c.requires.direction))))
