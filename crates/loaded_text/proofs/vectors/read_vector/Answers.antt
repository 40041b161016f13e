use Rattle.std.proofs.Common.{rules, to_z-of_z}
use Rattle.std.specs.Int.{w64}
use mir.Val.{SFits}
use Rattle.world_file_base.specs.Written.{integer}
use Rattle.loaded_text.proofs.Joined.{pair_stands}
use Rattle.loaded_text.proofs.vectors.read_vector.Goals as goal

pub returns-clause-text : goal.returns-clause-text
returns-clause-text c =
    let x = c.in_ok-x.x in
    let y = c.in_ok-y.y in
    let first : SFits w64 x = search rules in
    let second : SFits w64 y = search rules in
    simp to_z-of_z (pair_stands c.args.lead.now (integer x) (integer y) _ _ _ _ _ c.in_ok-expect.ensures.taken c.in_ok-x.ensures.text c.in_ok-y.ensures.text c.in_ok-expect-2.ensures.taken)

pub returns-clause-signed : goal.returns-clause-signed
returns-clause-signed c =
    let first : SFits w64 c.in_ok-x.x = search rules in
    let second : SFits w64 c.in_ok-y.y = search rules in
    simp to_z-of_z (c.in_ok-x.ensures.signed, c.in_ok-y.ensures.signed)
