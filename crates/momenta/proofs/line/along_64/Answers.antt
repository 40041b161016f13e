use Rattle.std.proofs.Common.{rules}
use Rattle.std.proofs.lemmas.Int.{to_z-of_z}
use Rattle.std.specs.Int.{w64}
use mir.Val.{SFits}
use Rattle.momenta.proofs.Laws64.{scaled_within}
use Rattle.momenta.proofs.line.along_64.Goals as goal

pub returns-clause-within : goal.returns-clause-within
returns-clause-within c =
    let size : SFits w64 c.args.size = c.ranges.size in
    let x : SFits w64 c.args.direction.x = search rules in
    let y : SFits w64 c.args.direction.y = search rules in
    let jx : SFits w64 c.scaled_64.result = record { sfits = c.scaled_64.type_inv } in
    let jy : SFits w64 c.scaled_64-2.result = record { sfits = c.scaled_64-2.type_inv } in
    λ k h. record {
      x = simp to_z-of_z (scaled_within c.args.size c.args.direction.x c.scaled_64.result k (simp to_z-of_z at c.scaled_64.ensures.value) h c.requires.direction.x);
      y = simp to_z-of_z (scaled_within c.args.size c.args.direction.y c.scaled_64-2.result k (simp to_z-of_z at c.scaled_64-2.ensures.value) h c.requires.direction.y);
    }
