-- Inner: what must hold of the shapes that a collide is given.
use Rattle.std.specs.Prelude.{ℕ, ◌<◌, List, map, All}
use Rattle.std.specs.List.Sorted.{IsStrictlyIncreasing}
use Rattle.shapes.specs.Shapes.{IsShape}
use Rattle.shapes.specs.Poses.{IsPose}
use Rattle.shapes.specs.declared.limits.TheConstants.{MAX_SHAPES}
use Rattle.body_handles.specs.declared.slot_table.TheConstants.{MAX_SLOTS}
use Rattle.contacts_base.specs.declared.near.Proxy.{Proxy}
use Rattle.contacts_base.specs.Keys.{id_number}
use Rattle.contacts_base.specs.Surfaces.{IsSurface}

-- a shape of a body
pub record IsProxy (p : Proxy) : Type 0 where
  pub shape : IsShape p.shape
  pub pose : IsPose p.pose
  pub surface : IsSurface p.surface
  pub slot : p.id.slot < MAX_SLOTS
  pub index : p.id.index < MAX_SHAPES

abbrev pub number_of : Proxy → ℕ
number_of p = id_number p.id

-- shapes of bodies, ascending, none twice
pub record IsProxyList (ps : List Proxy) : Type 0 where
  pub each : All IsProxy ps
  pub rising : IsStrictlyIncreasing (map number_of ps)
