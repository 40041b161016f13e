-- What stands under the keys of a body that is read, and what its kind, its mass, its motion and its island are read
-- as.
use Rattle.std.proofs.Common.{◌≡◌, ℕ, ◌++◌, ◌∷◌, [], true, List, Some, codes, refl, ◌∙◌}
use Rattle.plain_world.specs.declared.kind.Kind.{Kind}
use Rattle.plain_world.specs.declared.kind.Kind.TheVariants.{Static, Kinematic, Dynamic}
use Rattle.saved_text.specs.Bodies.{last_of_body}
use Rattle.saved_text.specs.Leaves.{facing_of}
use Rattle.saved_text.specs.Tokens.{have_whole, in_order}
use Rattle.saved_text.specs.Whole.{are_members_whole}
use Rattle.serde_json.specs.Data.{Data, boolean, object, string}
use Rattle.serde_json.specs.Find.{get}
use Rattle.world_file_base.specs.Reading.{island_in, truth_in}
use Rattle.world_file_base.specs.AskedValues.{island_asks, truth_asks}
use Rattle.world_file_base.specs.SavedBodies.{kind_name, membership_in}
use Rattle.world_file_base.specs.AskedBodies.{membership_asks}
use Rattle.world_file_base.specs.Written.{Member, decimal_of, integer, list_data, natural, natural_or_null, vector_of}
use Rattle.world_file_base.specs.declared.reader.Reader.{Reader}
use Rattle.world_file_base.specs.declared.saved.Membership.{Membership}
use Rattle.world_file.proofs.BackBodies.{truth_back, HasCourseKeys, back_at}
use Rattle.loaded_text.specs.Bodies.{IsFront, IsStill, front_named, membership_of}
use Rattle.loaded_text.specs.Stands.{MembersStand, Stands, key_text}
use Rattle.loaded_text.specs.declared.body_members.Front.{Front}
use Rattle.loaded_text.proofs.Joined.{member_then, no_member}
use Rattle.loaded_text.proofs.Back.{island_or_none}

-- ---- its members

abbrev pub body_members : Front → Kind → List Data → ℕ → List Member
body_members f kind shapes timer = front_named f (kind_name kind) ++ ((codes "shapes", list_data shapes) ∷ last_of_body kind timer)

abbrev pub body_data : Front → Kind → List Data → ℕ → Data
body_data f kind shapes timer = object (in_order (body_members f kind shapes timer))

pub body_ascends : (f : Front) (kind : Kind) (shapes : List Data) (timer : ℕ) → are_members_whole (in_order (body_members f kind shapes timer)) ≡ have_whole (body_members f kind shapes timer)
body_ascends f Static shapes timer = refl
body_ascends f (Kinematic course) shapes timer = refl
body_ascends f Dynamic shapes timer = refl

pub record HasKeys (d : Data) (f : Front) (kind : Kind) (shapes : List Data) (timer : ℕ) : Type 0 where
  pub asleep : get (codes "asleep") d ≡ Some (boolean f.asleep)
  pub at : get (codes "at") d ≡ Some (vector_of f.at)
  pub enabled : get (codes "enabled") d ≡ Some (boolean f.enabled)
  pub facing : get (codes "facing") d ≡ Some (facing_of f.facing)
  pub inertia : get (codes "inertia") d ≡ Some (integer f.inertia)
  pub island : get (codes "island") d ≡ Some (natural_or_null f.island)
  pub kind_is : get (codes "kind") d ≡ Some (string (kind_name kind))
  pub l : get (codes "l") d ≡ Some (decimal_of f.l)
  pub loose : get (codes "loose") d ≡ Some (boolean f.loose)
  pub mass : get (codes "mass") d ≡ Some (integer f.mass)
  pub p : get (codes "p") d ≡ Some (vector_of f.p)
  pub shapes_are : get (codes "shapes") d ≡ Some (list_data shapes)
  pub timer_is : get (codes "timer") d ≡ Some (natural timer)

pub has_keys_of : (f : Front) (kind : Kind) (shapes : List Data) (timer : ℕ) → HasKeys (body_data f kind shapes timer) f kind shapes timer
has_keys_of f Static shapes timer = record { asleep = refl; at = refl; enabled = refl; facing = refl; inertia = refl; island = refl; kind_is = refl; l = refl; loose = refl; mass = refl; p = refl; shapes_are = refl; timer_is = refl }
has_keys_of f (Kinematic course) shapes timer = record { asleep = refl; at = refl; enabled = refl; facing = refl; inertia = refl; island = refl; kind_is = refl; l = refl; loose = refl; mass = refl; p = refl; shapes_are = refl; timer_is = refl }
has_keys_of f Dynamic shapes timer = record { asleep = refl; at = refl; enabled = refl; facing = refl; inertia = refl; island = refl; kind_is = refl; l = refl; loose = refl; mass = refl; p = refl; shapes_are = refl; timer_is = refl }

pub has_course_of : (f : Front) (kind : Kind) (shapes : List Data) (timer : ℕ) → HasCourseKeys kind (body_data f kind shapes timer)
has_course_of f Static shapes timer = refl
has_course_of f (Kinematic course) shapes timer = (refl, refl, refl)
has_course_of f Dynamic shapes timer = refl

-- ---- its island

pub record IsMembershipRead (m : Membership) (d : Data) : Type 0 where
  pub value : membership_in d ≡ m
  pub asks : (r : Reader) → membership_asks d r ≡ r

pub membership_read : (f : Front) (kind : Kind) (shapes : List Data) (timer : ℕ) (d : Data) → HasKeys d f kind shapes timer → IsFront f → IsMembershipRead (membership_of f) d
unfolding membership_in membership_asks
membership_read f kind shapes timer d keys h =
    let island = back_at island_in island_asks (get (codes "island") d) (natural_or_null f.island) f.island keys.island (island_or_none f.island h.island) in
    let loose = back_at truth_in truth_asks (get (codes "loose") d) (boolean f.loose) f.loose keys.loose (truth_back f.loose) in
    let asleep = back_at truth_in truth_asks (get (codes "asleep") d) (boolean f.asleep) f.asleep keys.asleep (truth_back f.asleep) in
    record { value = λ i. record { island = island.value i; loose = loose.value i; asleep = asleep.value i }; asks = λ r. asleep.asks _ ∙ loose.asks _ ∙ island.asks r }

-- ---- what stands behind the shapes of a body without a course

pub still_stands : (kind : Kind) (timer : ℕ) (a b : List ℕ) → IsStill kind → Stands (key_text true (codes "timer")) (natural timer) a b → MembersStand true (last_of_body kind timer) a b
still_stands Static timer a b still h = member_then true _ (codes "timer") (natural timer) [] a b b refl h (no_member true b)
still_stands (Kinematic course) timer a b still h = absurd still
still_stands Dynamic timer a b still h = member_then true _ (codes "timer") (natural timer) [] a b b refl h (no_member true b)
