use Rattle.std.proofs.Common.{Option, ◌∙◌, ap, sym, ltb-true, ltb-false, arith}
use Rattle.contacts_base.specs.declared.near.Proxy.{Proxy}
use Rattle.contacts.specs.Fates.{stirs_in}
use Rattle.world_core.proofs.NamedLaws.{body_there, named_beyond, named_there}
use Rattle.world_core.proofs.collide.stirs_by_id.Goals as goal

pub stirs_with-requires : goal.stirs_with-requires
stirs_with-requires c = body_there c.args.bodies.now c.args.id.slot c.in-Some-Some.field-0.now _ c.requires (ltb-true _ _ (sym c.in-Some-Some.ensures.lookup.0)) c.in-Some-Some.ensures.lookup.1 c.in-Some-Some.field-0-is

pub returns-in-None : goal.returns-in-None
returns-in-None c = sym (ap (λ (o : Option Proxy). stirs_in o) (named_beyond c.args.bodies.now c.args.id c.requires (omega arith) (ltb-false _ _ (sym c.in-None.ensures.lookup.0))))

pub returns-in-Some-None : goal.returns-in-Some-None
returns-in-Some-None c = sym (ap (λ (o : Option Proxy). stirs_in o) (named_there c.args.bodies.now c.args.id c.in-Some-None.field-0.now _ c.requires (omega arith) (ltb-true _ _ (sym c.in-Some-None.ensures.lookup.0)) c.in-Some-None.ensures.lookup.1 c.in-Some-None.field-0-is))

pub returns-in-Some-Some : goal.returns-in-Some-Some
returns-in-Some-Some c = c.stirs_with.ensures ∙ sym (ap (λ (o : Option Proxy). stirs_in o) (named_there c.args.bodies.now c.args.id c.in-Some-Some.field-0.now _ c.requires (omega arith) (ltb-true _ _ (sym c.in-Some-Some.ensures.lookup.0)) c.in-Some-Some.ensures.lookup.1 c.in-Some-Some.field-0-is))
