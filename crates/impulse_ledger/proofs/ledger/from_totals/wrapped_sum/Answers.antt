use Rattle.std.proofs.Common.{rules}
use mir.Val.{SFits}
use Rattle.std.specs.Int.{w128}
use Rattle.std.proofs.lemmas.Int.{wrapping_add_is}
use Rattle.impulse_ledger.proofs.ledger.from_totals.wrapped_sum.Goals as goal

pub returns : goal.returns
returns c =
    let x : SFits w128 c.args.a.x = search rules in
    let y : SFits w128 c.args.a.y = search rules in
    let other_x : SFits w128 c.args.b.x = search rules in
    let other_y : SFits w128 c.args.b.y = search rules in
    λ i. record { x = wrapping_add_is w128 c.args.a.x c.args.b.x x other_x i; y = wrapping_add_is w128 c.args.a.y c.args.b.y y other_y i }
