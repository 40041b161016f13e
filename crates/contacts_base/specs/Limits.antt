-- Trusted: The limits of a contact's numbers.
use Rattle.std.specs.Prelude.{◌≤◌, pos, ◌≤ℤ◌, unsigned_abs}
use Rattle.std.specs.Option.{ForSome}
use Rattle.fixed_geom.specs.Vectors.{IsWithin}
use Rattle.contacts_base.specs.declared.limits.TheConstants.{MAX_NORMAL, MAX_SEPARATION, MAX_OFFSET, MAX_NORMAL_IMPULSE, MAX_TANGENT_IMPULSE}
use Rattle.contacts_base.specs.declared.contact.ContactPoint.{ContactPoint}
use Rattle.contacts_base.specs.declared.contact.Contact.{Contact}

-- a point of shapes that touch, with the impulses that it keeps
pub record IsContactPoint (p : ContactPoint) : Type 0 where
  pub normal : IsWithin MAX_NORMAL p.normal
  pub separation : unsigned_abs p.separation ≤ MAX_SEPARATION
  pub ra : IsWithin MAX_OFFSET p.ra
  pub rb : IsWithin MAX_OFFSET p.rb
  pub normal_impulse_low : pos 0 ≤ℤ p.normal_impulse
  pub normal_impulse_high : unsigned_abs p.normal_impulse ≤ MAX_NORMAL_IMPULSE
  pub tangent_impulse : unsigned_abs p.tangent_impulse ≤ MAX_TANGENT_IMPULSE

pub record IsContact (c : Contact) : Type 0 where
  pub first : ForSome c.first IsContactPoint
  pub second : ForSome c.second IsContactPoint

-- a point with numbers in the ranges in which it is packed
pub record IsPackable (p : ContactPoint) : Type 0 where
  pub normal : IsWithin MAX_NORMAL p.normal
  pub separation : unsigned_abs p.separation ≤ MAX_SEPARATION
  pub ra : IsWithin MAX_OFFSET p.ra
  pub rb : IsWithin MAX_OFFSET p.rb
  pub candidate : p.candidate ≤ 3
