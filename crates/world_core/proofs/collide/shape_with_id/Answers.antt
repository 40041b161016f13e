use Rattle.std.proofs.Common.{◌∙◌, sym, ltb-true, ltb-false, arith}
use Rattle.world_core.proofs.NamedLaws.{body_there, named_beyond, named_there}
use Rattle.world_core.proofs.collide.shape_with_id.Goals as goal

pub shape_of-requires-in-Some-Some : goal.shape_of-requires-in-Some-Some
shape_of-requires-in-Some-Some c = body_there c.args.bodies.now c.args.id.slot c.in-Some-Some.field-0.now _ c.requires (ltb-true _ _ (sym c.in-Some-Some.ensures.lookup.0)) c.in-Some-Some.ensures.lookup.1 c.in-Some-Some.field-0-is

pub returns-in-None : goal.returns-in-None
returns-in-None c = sym (named_beyond c.args.bodies.now c.args.id c.requires (omega arith) (ltb-false _ _ (sym c.in-None.ensures.lookup.0)))

pub returns-in-Some-None : goal.returns-in-Some-None
returns-in-Some-None c = sym (named_there c.args.bodies.now c.args.id c.in-Some-None.field-0.now _ c.requires (omega arith) (ltb-true _ _ (sym c.in-Some-None.ensures.lookup.0)) c.in-Some-None.ensures.lookup.1 c.in-Some-None.field-0-is)

pub returns-in-Some-Some : goal.returns-in-Some-Some
returns-in-Some-Some c = c.shape_of.ensures ∙ sym (named_there c.args.bodies.now c.args.id c.in-Some-Some.field-0.now _ c.requires (omega arith) (ltb-true _ _ (sym c.in-Some-Some.ensures.lookup.0)) c.in-Some-Some.ensures.lookup.1 c.in-Some-Some.field-0-is)
