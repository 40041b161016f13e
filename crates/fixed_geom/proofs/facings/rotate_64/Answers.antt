use Rattle.std.proofs.Common.{◌≡◌, rules}
use Rattle.std.proofs.lemmas.Int.{to_z-of_z}
use Rattle.std.specs.Int.{w64}
use mir.Val.{SFits}
use Rattle.fixed_geom.specs.Facings.{rotate}
use Rattle.fixed_geom.proofs.FacingLemmas.{rotate_within, rotate_by_products}
use Rattle.fixed_geom.proofs.facings.rotate_64.Goals as goal

value : (c : goal.After-rdiv_unit_64-2) → record { x = c.rdiv_unit_64.result; y = c.rdiv_unit_64-2.result } ≡ rotate c.args.q c.args.v
value c =
    let qc : SFits w64 c.args.q.c = search rules in
    let qs : SFits w64 c.args.q.s = search rules in
    let vx : SFits w64 c.args.v.x = search rules in
    let vy : SFits w64 c.args.v.y = search rules in
    let across : SFits w64 c.cross_64.result = record { sfits = c.cross_64.type_inv } in
    let along : SFits w64 c.dot_64.result = record { sfits = c.dot_64.type_inv } in
    let x = simp to_z-of_z at c.rdiv_unit_64.ensures.value in
    let y = simp to_z-of_z at c.rdiv_unit_64-2.ensures.value in
    rw (x, y, c.cross_64.ensures.value, c.dot_64.ensures.value) (simp to_z-of_z (rotate_by_products c.args.q c.args.v))

pub returns : goal.returns
returns c =
    let x : SFits w64 c.rdiv_unit_64.result = record { sfits = c.rdiv_unit_64.type_inv } in
    let y : SFits w64 c.rdiv_unit_64-2.result = record { sfits = c.rdiv_unit_64-2.type_inv } in
    simp to_z-of_z (record { value = value c; within = λ k h. rw (value c) (rotate_within c.args.q c.args.v k c.requires.facing h) })
