-- What is known of contacts that are within their limits, and of joints as they are read.
use Rattle.std.proofs.Common.{◌≡◌, ℕ, ◌^◌, ◌-◌, ◌≤◌, ◌==◌, Bool, true, false, cond, nat_lt, Option, Some, None, codes, pos, neg_ℤ, unsigned_abs, refl, arith}
use Rattle.std.proofs.lemmas.Int.{ints}
use Rattle.std.proofs.lemmas.Option.{none-some, same_Some}
use Rattle.serde_json.specs.Data.{Data, Items, no_items, item}
use Rattle.serde_json.specs.Find.{get}
use Rattle.contacts_base.proofs.Members.{Each}
use Rattle.graph_colours.specs.declared.limits.TheConstants.{COLOURS, OVERFLOW}
use Rattle.joint_rows.specs.Joints.{IsJoint}
use Rattle.joint_rows.specs.declared.limits.TheConstants.{MAX_ANCHOR, MAX_JOINT_IMPULSE, MAX_JOINT_LENGTH}
use Rattle.world_file_base.specs.Reading.{first_in, is_null, items_in, second_item, unsigned_in}
use Rattle.world_file_base.specs.SavedContacts.{contact_in, contacts_in, no_points}
use Rattle.world_file_base.specs.SavedJoints.{joint_in}
use Rattle.world_file_base.specs.Versions.{colour_in, colour_of_number, overflow_of}
use Rattle.world_file_base.specs.declared.saved.SavedContact.{SavedContact}
use Rattle.world_file_base.specs.declared.saved.SavedJoint.{SavedJoint}
use Rattle.world_file_base.specs.declared.version.Version.{Version}
use Rattle.world_file_base.specs.declared.version.Version.TheVariants.{First, Second}
use Rattle.solver_sets.specs.Ties.{IsKeyWithin}
use Rattle.world_file.proofs.ReadPoints.{ArePoints, none_put, points_are}
use Rattle.world_file.proofs.Tests.{below, both_true, signed_from, size_from, unsigned_small, vector_small}
use Rattle.world_file.specs.SavedForms.{all_items}
use Rattle.world_file.specs.SavedLimits.{is_contact_within, is_point_within}

-- ---- colours

-- a colour, or the overflow
abbrev pub IsColour : Option ℕ → Type 0
IsColour o = (k : ℕ) → o ≡ Some k → k ≤ COLOURS

no_colour : IsColour None
no_colour k e = absurd (none-some k e)

one_colour : (n : ℕ) → n ≤ COLOURS → IsColour (Some n)
one_colour n h k e = let same : n ≡ k = same_Some n k e in omega (arith, h, same)

overflow_small : (v : Version) → overflow_of v ≤ COLOURS
overflow_small First = omega arith
overflow_small Second = omega arith

colour_or : (v : Version) (n : ℕ) (t u : Bool) → nat_lt n (overflow_of v) ≡ t → IsColour (cond t (Some n) (cond u (Some OVERFLOW) None))
colour_or v n true u e = let few = overflow_small v in let low = below n (overflow_of v) e in one_colour n (omega (arith, few, low))
colour_or v n false true e = one_colour OVERFLOW (omega arith)
colour_or v n false false e = no_colour

null_or : (t : Bool) (v : Version) (n : ℕ) → IsColour (cond t None (colour_of_number v n))
null_or true v n = no_colour
null_or false v n = colour_or v n (nat_lt n (overflow_of v)) (n == overflow_of v) refl

pub colour_is : (v : Version) (value : Option Data) → IsColour (colour_in v value)
colour_is v value = null_or (is_null value) v (unsigned_in 255 value)

-- ---- a contact

pub record IsSavedContact (c : SavedContact) : Type 0 where
  pub named : IsKeyWithin c.key
  pub points : ArePoints c.contact
  pub none : (c.points == 0) ≡ true → c.contact ≡ no_points
  pub colour : IsColour c.colour

named_in : (a b : Option Data) → IsKeyWithin (record { first = record { slot = unsigned_in (2 ^ 32 - 1) (first_in a); index = unsigned_in 255 (second_item a) }; second = record { slot = unsigned_in (2 ^ 32 - 1) (first_in b); index = unsigned_in 255 (second_item b) } })
named_in a b = record {
  first = let k = unsigned_small 255 (second_item a) in omega (arith, k);
  second = let k = unsigned_small 255 (second_item b) in omega (arith, k);
  slot = let k = unsigned_small (2 ^ 32 - 1) (first_in b) in omega (arith, k);
}

contact_is : (v : Version) (d : Data) → is_contact_within d ≡ true → IsSavedContact (contact_in v d)
unfolding is_contact_within contact_in
contact_is v d h = record {
  named = named_in (get (codes "a") d) (get (codes "b") d);
  points = points_are (items_in (get (codes "points") d)) (both_true _ (all_items is_point_within (items_in (get (codes "points") d))) h).1;
  none = none_put (items_in (get (codes "points") d));
  colour = colour_is v (get (codes "colour") d);
}

pub contacts_are : (v : Version) (ds : Items) → all_items is_contact_within ds ≡ true → Each IsSavedContact (contacts_in v ds)
contacts_are v no_items h = tt
contacts_are v (item d ds) h =
    let o = both_true (is_contact_within d) (all_items is_contact_within ds) h in
    (contact_is v d o.0, contacts_are v ds o.1)

-- ---- a joint

pub record IsSavedJoint (j : SavedJoint) : Type 0 where
  pub a : j.joint.a ≡ j.a.slot
  pub b : j.joint.b ≡ j.b.slot
  pub joint : IsJoint j.joint.joint
  pub colour : IsColour j.colour

pub joint_is : (v : Version) (d : Data) → IsSavedJoint (joint_in v d)
unfolding joint_in
joint_is v d =
    let long = signed_from (pos 0) MAX_JOINT_LENGTH (get (codes "length") d) (omega (arith, ints)) in
    let impulse = signed_from (neg_ℤ MAX_JOINT_IMPULSE) MAX_JOINT_IMPULSE (get (codes "impulse") d) (omega (arith, ints)) in
    let least = long.least in
    let most = long.most in
    record {
      a = refl;
      b = refl;
      joint = record {
        from = vector_small (unsigned_abs MAX_ANCHOR) (get (codes "from") d);
        to = vector_small (unsigned_abs MAX_ANCHOR) (get (codes "to") d);
        nonnegative = least;
        length = omega (arith, ints, least, most);
        impulse = size_from (unsigned_abs MAX_JOINT_IMPULSE) _ impulse;
      };
      colour = colour_is v (get (codes "colour") d);
    }
