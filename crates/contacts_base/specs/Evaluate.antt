-- Trusted: What a contact becomes when its shapes are evaluated.
use Rattle.std.specs.Prelude.{ℕ, ◌==◌, Bool, cond, pos, int_lt, Option, Some, None, option_map, is_some, option_and_then, unwrap_or}
use Rattle.std.specs.Option.{option_or}
use Rattle.shapes.specs.declared.points.Point.{Point}
use Rattle.shapes.specs.declared.points.Manifold.{Manifold}
use Rattle.contacts_base.specs.declared.contact.ContactPoint.{ContactPoint}
use Rattle.contacts_base.specs.declared.contact.Contact.{Contact}
use Rattle.contacts_base.specs.declared.contact.ContactEntry.{ContactEntry}
use Rattle.contacts_base.specs.declared.evaluation.Impulses.{Impulses}

abbrev pub no_impulses : Impulses
no_impulses = record { normal_impulse = pos 0; tangent_impulse = pos 0 }

-- the impulses of the point, if it is the candidate's
abbrev pub impulses_at : Option ContactPoint → ℕ → Option Impulses
impulses_at point candidate = option_and_then (λ (p : ContactPoint). cond (p.candidate == candidate) (Some (record { normal_impulse = p.normal_impulse; tangent_impulse = p.tangent_impulse })) None) point

-- the impulses that the contact kept at the candidate
abbrev pub kept : Option ContactEntry → ℕ → Impulses
kept None candidate = no_impulses
kept (Some e) candidate = unwrap_or (option_or (impulses_at e.contact.first candidate) (impulses_at e.contact.second candidate)) no_impulses

-- the point with the impulses kept at its candidate
abbrev pub kept_point : Option ContactEntry → Point → ContactPoint
kept_point old p = record { normal = p.normal; separation = p.separation; ra = p.ra; rb = p.rb; normal_impulse = (kept old p.candidate).normal_impulse; tangent_impulse = (kept old p.candidate).tangent_impulse; candidate = p.candidate }

-- the shapes don't touch
abbrev pub apart : Contact
apart = record { first = None; second = None }

-- the shapes touch: a contact that doesn't has no points
abbrev pub touches : Contact → Bool
touches c = is_some c.first

-- the contact of two shapes with the manifold, which was `old` before
unfoldable pub evaluated : Option ContactEntry → Manifold → Contact
evaluated old m = cond (int_lt (pos 0) m.first.separation) apart (record { first = Some (kept_point old m.first); second = option_map (kept_point old) m.second })
