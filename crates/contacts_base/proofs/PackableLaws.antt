-- A point of a manifold of shapes that touch is small enough to be packed, whatever impulses it keeps.
use Rattle.std.specs.Prelude.{Option, unsigned_abs}
use Rattle.fixed_geom.specs.declared.limits.TheConstants.{MAX_OFFSET}
use Rattle.shapes.specs.PointsWithin.{IsPointWithin}
use Rattle.shapes.specs.declared.points.Point.{Point}
use Rattle.contacts_base.specs.Evaluate.{kept_point}
use Rattle.contacts_base.specs.Limits.{IsPackable}
use Rattle.contacts_base.specs.declared.contact.ContactEntry.{ContactEntry}

pub packable : (old : Option ContactEntry) (p : Point) → IsPointWithin (unsigned_abs MAX_OFFSET) p → IsPackable (kept_point old p)
packable old p h = record { normal = h.normal; separation = h.separation; ra = h.ra; rb = h.rb; candidate = h.candidate }
