-- The numbers of a point that is read are small enough to be packed, whatever its value says.
use Rattle.std.proofs.Common.{◌≡◌, ℕ, ◌≤◌, ◌&&◌, Bool, true, false, cond, nat_le, Option, Some, None, unwrap_or, codes, ℤ, pos, negsuc, unsigned_abs, refl, arith}
use Rattle.std.proofs.lemmas.Bool.{false≢true}
use Rattle.std.proofs.lemmas.Bool.Decides.{nat_tests}
use Rattle.fixed_geom.specs.Vectors.{IsWithin, is_within, zero_vector}
use Rattle.fixed_geom.specs.declared.vectors.Vec2.{Vec2}
use Rattle.contacts_base.specs.Limits.{IsPackable}
use Rattle.contacts_base.specs.declared.limits.TheConstants.{MAX_NORMAL, MAX_OFFSET, MAX_SEPARATION}
use Rattle.serde_json.specs.Data.{Data}
use Rattle.serde_json.specs.Find.{get}
use Rattle.world_file_base.specs.Reading.{natural_of, number_in, unsigned_in, vector_in, vector_within, whole_in}
use Rattle.world_file_base.specs.SavedContacts.{last_candidate, point_in, size_in}

size_or : (most : ℕ) (z : ℤ) (t : Bool) → nat_le (unsigned_abs z) most ≡ t → unsigned_abs (cond t z (pos 0)) ≤ most
size_or most z true e = grind (arith, nat_tests)
size_or most z false e = omega arith

pub size_small : (most : ℕ) (v : Option Data) → unsigned_abs (size_in most v) ≤ most
size_small most v = size_or most (number_in v) (nat_le (unsigned_abs (number_in v)) most) refl

within_by : (n x y : ℕ) → (t u : Bool) → nat_le x n ≡ t → nat_le y n ≡ u → (t && u) ≡ true → (x ≤ n) × (y ≤ n)
within_by n x y true u e f h = (grind (arith, nat_tests), grind (arith, nat_tests))
within_by n x y false u e f h = absurd (false≢true h)

within_or : (n : ℕ) (v : Vec2) (t : Bool) → is_within n v ≡ t → IsWithin n (cond t v zero_vector)
within_or n v true e = let o = within_by n (unsigned_abs v.x) (unsigned_abs v.y) (nat_le (unsigned_abs v.x) n) (nat_le (unsigned_abs v.y) n) refl refl e in record { x = o.0; y = o.1 }
within_or n v false e = record { x = omega arith; y = omega arith }

vector_small : (most : ℕ) (v : Option Data) → IsWithin most (vector_within most v)
vector_small most v = within_or most (vector_in v) (is_within most (vector_in v)) refl

natural_or : (high n : ℕ) (t : Bool) → nat_le n high ≡ t → unwrap_or (cond t (Some n) None) 0 ≤ high
natural_or high n true e = grind (arith, nat_tests)
natural_or high n false e = omega arith

natural_small : (high : ℕ) (z : ℤ) → unwrap_or (natural_of high z) 0 ≤ high
natural_small high (pos n) = natural_or high n (nat_le n high) refl
natural_small high (negsuc n) = omega arith

unsigned_small : (high : ℕ) (v : Option Data) → unsigned_in high v ≤ high
unsigned_small high v = natural_small high (whole_in v)

pub packable : (d : Data) → IsPackable (point_in d)
unfolding point_in
packable d = record {
  normal = vector_small MAX_NORMAL (get (codes "normal") d);
  separation = size_small MAX_SEPARATION (get (codes "sep") d);
  ra = vector_small MAX_OFFSET (get (codes "ra") d);
  rb = vector_small MAX_OFFSET (get (codes "rb") d);
  candidate = unsigned_small last_candidate (get (codes "candidate") d);
}
