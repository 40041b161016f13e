-- What is known of the points of a contact that are within their limits.
use Rattle.std.proofs.Common.{◌≡◌, ℕ, ◌≤◌, ◌==◌, true, nat_le, Option, Some, None, codes, pos, unsigned_abs, int_le, refl, sym, arith, Bool, ◌&&◌}
use Rattle.std.proofs.lemmas.Option.{none-some}
use Rattle.serde_json.specs.Data.{Data, Items, no_items, item}
use Rattle.serde_json.specs.Events.{items_len}
use Rattle.serde_json.specs.Find.{get}
use Rattle.contacts_base.specs.Limits.{IsContactPoint}
use Rattle.contacts_base.specs.declared.contact.Contact.{Contact}
use Rattle.contacts_base.specs.declared.contact.ContactPoint.{ContactPoint}
use Rattle.contacts_base.specs.declared.limits.TheConstants.{MAX_NORMAL, MAX_NORMAL_IMPULSE, MAX_OFFSET, MAX_SEPARATION, MAX_TANGENT_IMPULSE}
use Rattle.world_file_base.specs.Reading.{number_in}
use Rattle.world_file_base.specs.SavedContacts.{last_candidate, no_points, point_in, with_point, with_points}
use Rattle.world_file_base.proofs.PointLaws.{size_small}
use Rattle.world_file.proofs.Tests.{at_most, at_most_z, both_true, equal_n, unsigned_small, vector_small}
use Rattle.world_file.specs.SavedForms.{all_items}
use Rattle.world_file.specs.SavedLimits.{is_number, is_point_within, is_sized, is_up_to}

-- ---- a point

pub record IsPoint (p : ContactPoint) : Type 0 where
  pub point : IsContactPoint p
  pub candidate : p.candidate ≤ 3

point_is : (d : Data) → is_point_within d ≡ true → IsPoint (point_in d)
unfolding is_point_within point_in
point_is d h =
    let slip : Bool = is_sized MAX_TANGENT_IMPULSE (get (codes "slip") d) in
    let push : Bool = is_sized MAX_NORMAL_IMPULSE (get (codes "push") d) in
    let low : Bool = int_le (pos 0) (number_in (get (codes "push") d)) in
    let all = both_true (_ && slip) (is_up_to last_candidate (get (codes "candidate") d)) h in
    let slips = both_true (_ && (push && low)) slip all.0 in
    let pushes = both_true push low (both_true _ (push && low) slips.0).1 in
    record {
      point = record {
        normal = vector_small MAX_NORMAL (get (codes "normal") d);
        separation = size_small MAX_SEPARATION (get (codes "sep") d);
        ra = vector_small MAX_OFFSET (get (codes "ra") d);
        rb = vector_small MAX_OFFSET (get (codes "rb") d);
        normal_impulse_low = at_most_z (pos 0) (number_in (get (codes "push") d)) pushes.1;
        normal_impulse_high = small MAX_NORMAL_IMPULSE (get (codes "push") d) pushes.0;
        tangent_impulse = small MAX_TANGENT_IMPULSE (get (codes "slip") d) slips.1;
      };
      candidate = unsigned_small last_candidate (get (codes "candidate") d);
    }
  where
    small : (most : ℕ) (v : Option Data) → is_sized most v ≡ true → unsigned_abs (number_in v) ≤ most
    small most v h = at_most (unsigned_abs (number_in v)) most (both_true (is_number v) (nat_le (unsigned_abs (number_in v)) most) h).1

-- ---- the points of a contact

abbrev pub OnPoint : Option ContactPoint → Type 0
OnPoint None = Unit {0}
OnPoint (Some p) = IsPoint p

-- its points are whole, and a second stands beside a first
pub record ArePoints (c : Contact) : Type 0 where
  pub first : OnPoint c.first
  pub second : OnPoint c.second
  pub beside : c.first ≡ None → c.second ≡ None

abbrev points : Option ContactPoint → Option ContactPoint → Contact
points first second = record { first = first; second = second }

point_put : (first second : Option ContactPoint) (p : ContactPoint) → ArePoints (points first second) → IsPoint p → ArePoints (with_point (points first second) p)
point_put None second p h is = record { first = is; second = h.second; beside = λ no. absurd (none-some p (sym no)) }
point_put (Some q) None p h is = record { first = h.first; second = is; beside = λ no. absurd (none-some q (sym no)) }
point_put (Some q) (Some s) p h is = h

points_put : (ds : Items) (c : Contact) → all_items is_point_within ds ≡ true → ArePoints c → ArePoints (with_points ds c)
points_put no_items c h are = are
points_put (item d ds) c h are =
    let o = both_true (is_point_within d) (all_items is_point_within ds) h in
    points_put ds (with_point c (point_in d)) o.1 (point_put c.first c.second (point_in d) are (point_is d o.0))

pub points_are : (ds : Items) → all_items is_point_within ds ≡ true → ArePoints (with_points ds no_points)
points_are ds h = points_put ds no_points h (record { first = tt; second = tt; beside = λ no. refl })

-- where there are none, the contact has none
pub none_put : (ds : Items) → (items_len ds == 0) ≡ true → with_points ds no_points ≡ no_points
none_put no_items h = refl
none_put (item d ds) h = let e : items_len (item d ds) ≡ 0 = equal_n (items_len (item d ds)) 0 h in absurd (omega arith)
