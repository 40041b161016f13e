use Rattle.std.proofs.Common.{rules}
use Rattle.std.proofs.lemmas.Int.{to_z-of_z}
use Rattle.std.specs.Int.{w64}
use mir.Val.{SFits}
use Rattle.momenta.specs.Motions.{advanced}
use Rattle.momenta.proofs.Laws64.{inertia_reciprocal, mass_reciprocal}
use Rattle.momenta.proofs.travel.advance.Goals as goal

pub returns-clause-value : goal.returns-clause-value
unfolding advanced
returns-clause-value c = search rules

pub aim-to-requires-clause-reciprocal : goal.aim-to-requires-clause-reciprocal
aim-to-requires-clause-reciprocal c =
    let reciprocal : SFits w64 c.args.reciprocals.mass = search rules in
    simp to_z-of_z (mass_reciprocal c.args.mass c.args.reciprocals c.requires.reciprocals)

pub spin_by-spin-requires-clause-reciprocal : goal.spin_by-spin-requires-clause-reciprocal
spin_by-spin-requires-clause-reciprocal c =
    let inertia : SFits w64 c.args.mass.inertia = search rules in
    let reciprocal : SFits w64 c.args.reciprocals.inertia = search rules in
    simp to_z-of_z (inertia_reciprocal c.args.mass c.args.reciprocals c.requires.reciprocals)
