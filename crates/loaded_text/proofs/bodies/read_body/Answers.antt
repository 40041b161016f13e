use Rattle.json.specs.Print.{escape_byte}
use Rattle.loaded_text.proofs.BodyLaws.{body_holds}
use Rattle.loaded_text.proofs.bodies.read_body.Goals as goal

pub returns-then-does_body_fit : goal.returns-then-does_body_fit
unfolding escape_byte
returns-then-does_body_fit c = body_holds c.args.lead.now c.in_ok-front.front c.in_ok-shapes.shapes c.in_ok-last.last c.body_with-loaded.result _ _ _ _ _ _ _ c.body_with-loaded.ensures
    (record { mass = c.does_body_fit.ensures.mass c.if-does_body_fit.true; still = c.does_body_fit.ensures.turn c.if-does_body_fit.true; whole = c.does_body_fit.ensures.whole c.if-does_body_fit.true })
    c.in_ok-front.ensures.fits c.in_ok-last.ensures.course c.in_ok-last.ensures.kind c.in_ok-expect.ensures.taken c.in_ok-expect-2.ensures.taken c.in_ok-front.ensures.text c.in_ok-shapes.ensures c.in_ok-last.ensures.text c.in_ok-expect-3.ensures.taken
