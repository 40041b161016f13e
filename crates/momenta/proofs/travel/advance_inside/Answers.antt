use Rattle.std.proofs.Common.{◌^◌, refl, rules}
use Rattle.std.proofs.lemmas.Int.{to_z-of_z}
use Rattle.std.specs.Int.{w64, w128}
use mir.Val.{SFits}
use Rattle.fixed_geom.specs.Vectors.{IsWithin}
use Rattle.momenta.proofs.Laws64.{inertia_reciprocal, mass_reciprocal}
use Rattle.momenta.proofs.MotionLaws.{advanced_inside}
use Rattle.momenta.proofs.travel.advance_inside.Goals as goal

pub aim-x-requires-clause-reciprocal : goal.aim-x-requires-clause-reciprocal
aim-x-requires-clause-reciprocal c =
    let reciprocal : SFits w64 c.args.reciprocals.mass = search rules in
    simp to_z-of_z (mass_reciprocal c.args.mass c.args.reciprocals c.requires.reciprocals)

pub spin_by-spin-requires-clause-reciprocal : goal.spin_by-spin-requires-clause-reciprocal
spin_by-spin-requires-clause-reciprocal c =
    let inertia : SFits w64 c.args.mass.inertia = search rules in
    let reciprocal : SFits w64 c.args.reciprocals.inertia = search rules in
    simp to_z-of_z (inertia_reciprocal c.args.mass c.args.reciprocals c.requires.reciprocals)

pub returns-then-not-are_in-clause-room : goal.returns-then-not-are_in-clause-room
returns-then-not-are_in-clause-room c = λ x y.
    let to_x : SFits w64 c.aim-x.result.x = search rules in
    let to_y : SFits w64 c.aim-x.result.y = search rules in
    c.if-not-are_in.ensures.room (simp to_z-of_z (rw c.aim-x.ensures.value x)) (simp to_z-of_z (rw c.aim-x.ensures.value y))

pub returns-clause-value : goal.returns-clause-value
returns-clause-value c =
    let to_x : SFits w64 c.aim-x.result.x = search rules in
    let to_y : SFits w64 c.aim-x.result.y = search rules in
    let l : SFits w128 c.args.motion.l = search rules in
    let inertia : SFits w64 c.args.mass.inertia = search rules in
    let spin : SFits w64 c.spin_by-spin.result = record { sfits = c.spin_by-spin.type_inv } in
    let x = simp to_z-of_z at (c.if-not-are_in.ensures.x refl) in
    let y = simp to_z-of_z at (c.if-not-are_in.ensures.y refl) in
    let inside : IsWithin (2 ^ 36) c.aim-x.result = record { x = x; y = y } in
    simp to_z-of_z (advanced_inside c.args.mass c.args.motion c.aim-x.result c.spin_by-spin.result c.turn-rot.result c.aim-x.ensures.value inside (simp to_z-of_z at c.spin_by-spin.ensures.value) (simp to_z-of_z at c.turn-rot.ensures.value))

pub returns-clause-motion : goal.returns-clause-motion
returns-clause-motion c =
    let to_x : SFits w64 c.aim-x.result.x = search rules in
    let to_y : SFits w64 c.aim-x.result.y = search rules in
    let l : SFits w128 c.args.motion.l = search rules in
    let x = simp to_z-of_z at (c.if-not-are_in.ensures.x refl) in
    let y = simp to_z-of_z at (c.if-not-are_in.ensures.y refl) in
    let motion = c.requires.motion in
    simp to_z-of_z (record { p = motion.p; l = motion.l; still = motion.still; x = record { x = x; y = y }; facing = c.turn-rot.ensures.facing })
