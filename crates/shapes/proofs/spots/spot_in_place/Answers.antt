use Rattle.std.proofs.Common.{refl, rules}
use Rattle.std.proofs.lemmas.Int.{to_z-of_z}
use Rattle.std.specs.Int.{w64}
use mir.Val.{SFits}
use Rattle.shapes.specs.Spots.{position_of, spot_of}
use Rattle.shapes.proofs.spots.spot_in_place.Goals as goal

pub returns-clause-value : goal.returns-clause-value
unfolding position_of spot_of
returns-clause-value c =
    let dist : SFits w64 c.args.candidate.now.dist = search rules in
    let radius : SFits w64 c.args.pair.now.radius_a = search rules in
    let separation : SFits w64 c.separation_of-separation.result = record { sfits = c.separation_of-separation.type_inv } in
    let far : SFits w64 c.reach.result = record { sfits = c.reach.type_inv } in
    let reach = simp to_z-of_z at c.reach.ensures.value in
    let at = simp to_z-of_z at c.position_along-at.ensures.value in
    simp to_z-of_z (rw (at, reach, c.normal_of-normal.ensures.value, c.separation_of-separation.ensures.value) refl)

pub returns-clause-spot : goal.returns-clause-spot
returns-clause-spot c =
    let dist : SFits w64 c.args.candidate.now.dist = search rules in
    record { at = c.position_along-at.ensures.within; dist = simp to_z-of_z c.requires.candidate.small }
