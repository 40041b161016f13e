-- Trusted: Which shapes are near one another, by a scan of all pairs.
use Rattle.std.specs.Prelude.{◌==◌, Bool, false, ◌||◌, cond}
use Rattle.fixed_geom.specs.Boxes.{overlaps}
use Rattle.shapes.specs.Filters.{should_collide}
use Rattle.contacts_base.specs.declared.near.Proxy.{Proxy}

-- two bodies, one of them dynamic at least, filters that let them collide, and fat boxes that overlap
unfoldable pub is_near : Proxy → Proxy → Bool
is_near p q = cond (p.id.slot == q.id.slot) false (cond (p.dynamic || q.dynamic) (cond (should_collide p.filter q.filter) (overlaps p.fat q.fat) false) false)

-- the body of one of them stirs, so that their contact is evaluated
abbrev pub one_stirs : Proxy → Proxy → Bool
one_stirs p q = p.stirs || q.stirs
