use Rattle.std.proofs.Common.{◌≡◌, pos, ◌^◌}
use Rattle.std.proofs.lemmas.Int.{to_z-of_z}
use Rattle.std.specs.Int.{w64}
use mir.Val.{SFits}
use Rattle.fixed_geom.specs.Numbers.{rdiv}
use Rattle.momenta.proofs.Shares.{share_of_mass}
use Rattle.momenta.proofs.inverse.share_of_mass.Goals as goal

value : (c : goal.After-inverse_by) → c.inverse_by.result ≡ rdiv (pos (2 ^ 40)) c.args.mass
value c =
    let mass : SFits w64 c.args.mass = c.ranges.mass in
    simp to_z-of_z at c.inverse_by.ensures.value

pub returns-clause-some : goal.returns-clause-some
returns-clause-some c =
    let result : SFits w64 c.inverse_by.result = record { sfits = c.inverse_by.type_inv } in
    simp to_z-of_z (rw (value c) (share_of_mass c.args.mass c.requires.positive c.requires.mass).some)
