-- Changes of one body that a world may make.
use Rattle.std.specs.Prelude.{◌≡◌}
use Rattle.body_handles.specs.declared.handle.Handle.{Handle}
use Rattle.plain_world.specs.declared.body.Body.{Body}
use Rattle.world_rules.specs.Apply.{with_body_changed}
use Rattle.world_rules.specs.Sets.{acting_of, stirred}
use Rattle.world_rules.specs.Sound.{IsSound}
use Rattle.world_rules.specs.World.{World}

-- once the islands that it stirs are awake, the change leaves the world sound, and what acts in it as it is
pub record MayChange (w : World) (h : Handle) (f : Body → Body) : Type 0 where
  pub sound : IsSound (record w { plain = (with_body_changed w.plain h f).plain })
  pub acting : acting_of (with_body_changed w.plain h f).plain ≡ acting_of (stirred w.plain h.slot)
