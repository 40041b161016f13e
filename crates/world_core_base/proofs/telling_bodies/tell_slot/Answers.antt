use Rattle.std.proofs.Common.{◌≡◌, ◌∙◌, None, Option, get_or, sym, subst, ◌^◌}
use Rattle.std.specs.Prelude.{option_map}
use Rattle.std.specs.Option.{ForSome}
use Rattle.std.proofs.lemmas.List.{get_or-set_same, get_or_default}
use Rattle.fixed_geom.specs.declared.vectors.Vec2.{Vec2}
use Rattle.fixed_geom.specs.Vectors.{IsWithin}
use Rattle.plain_world.specs.declared.body.Body.{Body}
use Rattle.plain_world.specs.Bodies.{IsBody}
use Rattle.plain_world.specs.Momentum.{momentum_in}
use Rattle.plain_world.specs.Sleep.{told_body}
use Rattle.world_core_base.proofs.TellLaws.{small_told}
use Rattle.world_core_base.proofs.telling_bodies.tell_slot.Goals as goal

pub gain_between-requires-clause-second : goal.gain_between-requires-clause-second
gain_between-requires-clause-second c =
    let bodies = c.args.bodies.now.items in
    let o : Option Body = c.index_mut.result.now in
    let was : get_or bodies c.args.slot None ≡ o = get_or_default bodies c.args.slot None o c.requires.slot ∙ sym c.index_mut.ensures.value in
    let now : c.index-3.result.now ≡ option_map (told_body c.args.label) o = c.index-3.ensures ∙ get_or-set_same bodies c.args.slot c.tell_entry.new.entry c.index-3.result.now c.requires.slot ∙ c.tell_entry.ensures in
    let is : ForSome o IsBody = subst (λ (p : Option Body). ForSome p IsBody) was c.requires.body in
    subst (λ (v : Vec2). IsWithin (2 ^ 61) v) (sym c.momentum_in.ensures) (subst (λ (p : Option Body). IsWithin (2 ^ 61) (momentum_in p)) (sym now) (small_told c.args.label o is))
