-- What the broad phase sees of a body.
use Rattle.std.specs.Prelude.{◌≡◌}
use Rattle.plain_world.specs.declared.body.Body.{Body}
use Rattle.plain_world.specs.Kinds.{is_dynamic}

-- the two bodies show the broad phase the same shapes
pub record IsShownAlike (b c : Body) : Type 0 where
  pub enabled : b.enabled ≡ c.enabled
  pub dynamic : is_dynamic b.kind ≡ is_dynamic c.kind
  pub shapes : b.shapes ≡ c.shapes
  pub fats : b.fats ≡ c.fats
