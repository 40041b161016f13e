use Rattle.std.proofs.Common.{ap, sym, ◌∙◌, ◌^◌}
use Rattle.std.proofs.lemmas.Int.{to_z-of_z}
use Rattle.std.specs.Int.{w64}
use mir.Val.{SFits}
use Rattle.momenta.specs.Motions.{limited}
use Rattle.momenta.proofs.Spins.{spin_turning}
use Rattle.momenta.proofs.motion.spin_64.Goals as goal

pub returns-clause-value : goal.returns-clause-value
returns-clause-value c =
    let l : SFits w64 c.args.l = c.ranges.l in
    let inertia : SFits w64 c.args.inertia = c.ranges.inertia in
    let quotient : SFits w64 c.share.result = record { sfits = c.share.type_inv } in
    let result : SFits w64 c.limit_spin.result = record { sfits = c.limit_spin.type_inv } in
    let turn = simp to_z-of_z at c.limit_spin.ensures.value in
    let divided = simp to_z-of_z at c.share.ensures.value in
    simp to_z-of_z (turn ∙ ap (limited (2 ^ 28)) divided ∙ sym (spin_turning c.args.inertia c.args.l c.requires.positive))
