use Rattle.saved_text.specs.Bodies.{numbers_of_body, position_of_body}
use Rattle.saved_text.proofs.Adding.{members_then}
use Rattle.saved_text.proofs.bodies.put_first.Goals as goal

pub returns : goal.returns
returns c =
    let b = c.args.body.now in
    let membership = c.args.membership in
    record { text = members_then (position_of_body b membership) (numbers_of_body b membership) _ _ _ c.in_ok-put_position.ensures.text c.in_ok-put_numbers.ensures.text }
