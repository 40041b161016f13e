use Rattle.std.proofs.Common.{rules, to_z-of_z}
use Rattle.std.specs.Int.{w128}
use mir.Val.{SFits}
use Rattle.world_file_base.specs.Written.{decimal_of}
use Rattle.loaded_text.specs.Totals.{IsSmall}
use Rattle.loaded_text.proofs.Joined.{pair_stands}
use Rattle.loaded_text.proofs.totals.read_total.Goals as goal

pub returns-clause-text : goal.returns-clause-text
returns-clause-text c =
    let x = c.in_ok-x.x in
    let y = c.in_ok-y.y in
    let first : SFits w128 x = search rules in
    let second : SFits w128 y = search rules in
    simp to_z-of_z (pair_stands c.args.lead.now (decimal_of x) (decimal_of y) _ _ _ _ _ c.in_ok-expect.ensures.taken c.in_ok-x.ensures.text c.in_ok-y.ensures.text c.in_ok-expect-2.ensures.taken)

pub returns-clause-small : goal.returns-clause-small
returns-clause-small c =
    let first : SFits w128 c.in_ok-x.x = search rules in
    let second : SFits w128 c.in_ok-y.y = search rules in
    let small : IsSmall (record { x = c.in_ok-x.x; y = c.in_ok-y.y }) = record { x = c.in_ok-x.ensures.size; y = c.in_ok-y.ensures.size } in
    simp to_z-of_z small
