use Rattle.impulse_ledger.proofs.GivenLaws.{wrapped_six}
use Rattle.impulse_ledger.proofs.ledger.from_totals.sum_over.Goals as goal

pub returns : goal.returns
returns c =
    let t = c.args.totals.now in
    rw (c.wrapped_sum.ensures, c.wrapped_sum-five.ensures, c.wrapped_sum-four.ensures, c.wrapped_sum-three.ensures, c.wrapped_sum-two.ensures)
    (λ i. record {
      x = wrapped_six t.command.x t.gravity.x t.immovable.x t.clamp.x t.rest.x t.departed.x c.requires.x i;
      y = wrapped_six t.command.y t.gravity.y t.immovable.y t.clamp.y t.rest.y t.departed.y c.requires.y i;
    })
