-- A point of a contact, or none, as it is packed: without a point all numbers are zero.
use Rattle.std.specs.Prelude.{◌≡◌, cond, false, true, pos, Option, Some, None}
use Rattle.contacts_base.specs.declared.contact.ContactPoint.{ContactPoint}
use Rattle.contacts_base.specs.declared.packed.PackedPoint.TheInside.{Inside}

abbrev pub point_in : Inside → ContactPoint
point_in a = record {
  normal = record { x = a.normal_x; y = a.normal_y };
  separation = a.separation;
  ra = record { x = a.ra_x; y = a.ra_y };
  rb = record { x = a.rb_x; y = a.rb_y };
  normal_impulse = a.normal_impulse;
  tangent_impulse = a.tangent_impulse;
  candidate = a.candidate;
}

abbrev pub seen : Inside → Option ContactPoint
seen a = cond a.is_there (Some (point_in a)) None

abbrev pub packed : Option ContactPoint → Inside
packed None = record {
  normal_impulse = pos 0;
  tangent_impulse = pos 0;
  normal_x = pos 0;
  normal_y = pos 0;
  separation = pos 0;
  ra_x = pos 0;
  ra_y = pos 0;
  rb_x = pos 0;
  rb_y = pos 0;
  candidate = 0;
  is_there = false;
}
packed (Some p) = record {
  normal_impulse = p.normal_impulse;
  tangent_impulse = p.tangent_impulse;
  normal_x = p.normal.x;
  normal_y = p.normal.y;
  separation = p.separation;
  ra_x = p.ra.x;
  ra_y = p.ra.y;
  rb_x = p.rb.x;
  rb_y = p.rb.y;
  candidate = p.candidate;
  is_there = true;
}

-- what is packed is what the point, or none, is packed as
abbrev pub IsPacked : Inside → Type 0
IsPacked a = packed (seen a) ≡ a
