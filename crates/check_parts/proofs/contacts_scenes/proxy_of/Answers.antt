use Rattle.std.proofs.Common.{arith, rules, pos}
use Rattle.shapes.specs.declared.shape.ShapeDef.{ShapeDef}
use Rattle.check_parts.proofs.contacts_scenes.proxy_of.Goals as goal

pub tight_box-requires-clause-shape : goal.tight_box-requires-clause-shape
tight_box-requires-clause-shape c =
    let def : ShapeDef = record { shape = c.args.shape; friction = pos 0; restitution = pos 0; filter = c.default.result } in
    (c.in_ok-check.ensures.allowed 0 def (omega arith)).shape

pub returns : goal.returns
returns c =
    let def : ShapeDef = record { shape = c.args.shape; friction = pos 0; restitution = pos 0; filter = c.default.result } in
    record { shape = (c.in_ok-check.ensures.allowed 0 def (omega arith)).shape; pose = search rules; surface = search rules; slot = omega arith; index = omega arith }
