-- The body that a handle names is sound.
use Rattle.std.proofs.Common.{◌≡◌, Option, Some, None, IfSome, Bor, sym}
use Rattle.std.specs.Option.{option_copied}
use Rattle.body_handles.specs.SlotEntries.{is_live}
use Rattle.body_handles.specs.declared.handle.Handle.{Handle}
use Rattle.plain_world.specs.Bodies.{IsBody}
use Rattle.plain_world.specs.declared.body.Body.{Body}
use Rattle.world_core.proofs.Whole.{named}
use Rattle.world_rules.specs.Sound.{IsSound}
use Rattle.world_rules.specs.World.{World, body_named}

-- the body that a handle names
pub is_body : (w : World) (h : Handle) (o : Option (Bor Body)) → IsSound w → option_copied o ≡ body_named w.plain h → IfSome o (λ (b : Bor Body). IsBody b.now)
is_body w h None sound e = tt
is_body w h (Some b) sound e = named (is_live w.plain.slot_entries h) w.plain.bodies h.slot b.now sound.formed.bodies (sym e)
