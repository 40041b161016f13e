-- What is known of a body that keeps each clause by itself.
use Rattle.std.proofs.Common.{◌≡◌, ℕ, ◌^◌, ◌≤◌, ◌&&◌, ◌||◌, Bool, true, false, not, cond, length, Option, Some, None, is_none, is_some, codes, ℤ, pos, neg_ℤ, unsigned_abs, int_eq, inl, inr, refl, sym, ap, ◌∙◌, arith, le_trans}
use Rattle.std.proofs.lemmas.Bool.{false≢true}
use Rattle.std.proofs.lemmas.Int.{ints}
use Rattle.serde_json.specs.Data.{Data}
use Rattle.serde_json.specs.Find.{get}
use Rattle.contacts_base.proofs.Members.{Each}
use Rattle.fixed_geom.specs.Boxes.{IsBoxWithin}
use Rattle.fixed_geom.specs.Facings.{is_facing}
use Rattle.fixed_geom.specs.declared.limits.TheConstants.{MAX_POSITION, MAX_SPIN}
use Rattle.momenta.specs.Motions.{IsMass, IsMotion}
use Rattle.momenta.specs.declared.limits.TheConstants.{MAX_ANGULAR_MOMENTUM, MAX_MOMENTUM, MAX_SPEED}
use Rattle.momenta.specs.declared.mass.MassData.{MassData}
use Rattle.momenta.specs.declared.motion.Motion.{Motion}
use Rattle.plain_world.specs.Formed.{HasFilter}
use Rattle.plain_world.specs.Bodies.{IsAtRest, IsBody, IsMassOf, is_awake, is_mover, pose_of}
use Rattle.plain_world.specs.Kinds.{IsCourse, carried_by, is_moving, is_static}
use Rattle.plain_world.specs.declared.body.Body.{Body}
use Rattle.plain_world.specs.declared.kind.Kind.{Kind}
use Rattle.plain_world.specs.declared.kind.Kind.TheVariants.{Static, Kinematic, Dynamic}
use Rattle.shapes.specs.declared.shape.ShapeDef.{ShapeDef}
use Rattle.world_file_base.specs.Reading.{items_in, signed_in}
use Rattle.world_file_base.specs.SavedBodies.{bare_kind, body_in, facing_in, island_fits, is_island_or_nothing, is_at_rest, kind_in, mass_in, membership_in, momenta_in, most_angular, motion_in, pose_in, sleeping_under, with_course}
use Rattle.world_file_base.specs.declared.saved.Membership.{Membership}
use Rattle.world_file.proofs.ReadShapes.{as_many, boxes_small, fat_boxes_are, filters_small, forms_of}
use Rattle.world_file.proofs.Tests.{IsFrom, both_true, decimal_small, either_true, equal_z, facing, not_true, signed_from, size_from, unsigned_small, vector_small}
use Rattle.fixed_geom.specs.declared.refusal.Refusal.{Refusal}
use Rattle.world_file.specs.SavedLimits.{are_two_numbers, is_body_within, is_course_within, is_motion_within, is_vector_within, may_have_shapes}
use Rattle.world_file.specs.Clauses.{is_boxed, is_membership_right, is_rested}
use Rattle.shapes.specs.Shapes.{shapes_refusal}

-- ---- its kind

course_of : (k : Kind) (d : Data) → IsCourse (carried_by (with_course k d))
course_of Static d = record { velocity = record { x = omega arith; y = omega arith }; spin = omega arith }
course_of (Kinematic course) d = record {
  velocity = vector_small (unsigned_abs MAX_SPEED) (get (codes "velocity") d);
  spin = size_from (unsigned_abs MAX_SPIN) _ (signed_from (neg_ℤ MAX_SPIN) MAX_SPIN (get (codes "spin") d) (omega (arith, ints)));
}
course_of Dynamic d = record { velocity = record { x = omega arith; y = omega arith }; spin = omega arith }

course_is : (d : Data) → IsCourse (carried_by (kind_in d))
unfolding kind_in
course_is d = course_of (bare_kind d) d

-- ---- its numbers

none_of : (z : ℤ) → IsFrom (pos 0) (pos 0) z → z ≡ pos 0
none_of z h = let least = h.least in let most = h.most in omega (arith, ints, least, most)

no_mass : (v w : Option Data) → (signed_in (pos 0) (pos 0) v ≡ pos 0) × (signed_in (pos 0) (pos 0) w ≡ pos 0)
no_mass v w = (none_of _ (signed_from (pos 0) (pos 0) v (omega (arith, ints))), none_of _ (signed_from (pos 0) (pos 0) w (omega (arith, ints))))

is_mass : (m : MassData) → IsFrom (pos 1) (pos (2 ^ 20)) m.mass → IsFrom (pos 0) (pos (2 ^ 60)) m.inertia → IsMass m
is_mass m h k =
    let least = h.least in
    let most = h.most in
    let low = k.least in
    let high = k.most in
    record { positive = least; mass = omega (arith, ints, least, most); nonnegative = low; inertia = omega (arith, ints, low, high) }

mass_is : (k : Kind) (d : Data) → IsMassOf k (mass_in k d)
unfolding mass_in
mass_is Static d = no_mass (get (codes "mass") d) (get (codes "inertia") d)
mass_is (Kinematic course) d = no_mass (get (codes "mass") d) (get (codes "inertia") d)
mass_is Dynamic d = is_mass (mass_in Dynamic d) (signed_from (pos 1) (pos (2 ^ 20)) (get (codes "mass") d) (omega (arith, ints))) (signed_from (pos 0) (pos (2 ^ 60)) (get (codes "inertia") d) (omega (arith, ints)))

angular_small : (inertia : ℤ) (t : Bool) → int_eq inertia (pos 0) ≡ t → cond t 0 (unsigned_abs MAX_ANGULAR_MOMENTUM) ≤ unsigned_abs MAX_ANGULAR_MOMENTUM
angular_small inertia true e = omega arith
angular_small inertia false e = omega arith

none_turns : (inertia l : ℤ) → unsigned_abs l ≤ most_angular inertia → inertia ≡ pos 0 → l ≡ pos 0
none_turns inertia l h e =
    let none : most_angular inertia ≡ 0 = ap most_angular e in
    omega (arith, ints, h, none)

motion_is : (m : MassData) (d : Data) → is_facing (pose_in d).rot ≡ true → IsMotion m (motion_in m.inertia d)
unfolding motion_in momenta_in pose_in
motion_is m d h =
    let small = decimal_small (most_angular m.inertia) (get (codes "l") d) in
    record {
      p = vector_small (unsigned_abs MAX_MOMENTUM) (get (codes "p") d);
      l = le_trans small (angular_small m.inertia (int_eq m.inertia (pos 0)) refl);
      still = none_turns m.inertia _ small;
      x = vector_small (unsigned_abs MAX_POSITION) (get (codes "at") d);
      facing = facing (facing_in (get (codes "facing") d)) h;
    }

-- ---- the whole body

at_rest_is : (m : Motion) → is_at_rest m ≡ true → IsAtRest m
at_rest_is m h =
    let o = both_true (int_eq m.p.x (pos 0)) (int_eq m.p.y (pos 0) && int_eq m.l (pos 0)) h in
    let p = both_true (int_eq m.p.y (pos 0)) (int_eq m.l (pos 0)) o.1 in
    record { x = equal_z m.p.x (pos 0) o.0; y = equal_z m.p.y (pos 0) p.0; l = equal_z m.l (pos 0) p.1 }

still_by : (b : Body) → (is_awake b || is_at_rest b.motion) ≡ true → is_awake b ≡ false → IsAtRest b.motion
still_by b h e = elim (either_true (is_awake b) (is_at_rest b.motion) h) [
  | inl on ↦ absurd (false≢true (sym e ∙ on))
  | inr rest ↦ at_rest_is b.motion rest
]

halted_by : (b : Body) → (b.enabled || not (is_moving (carried_by b.kind))) ≡ true → b.enabled ≡ false → is_moving (carried_by b.kind) ≡ false
halted_by b h e = elim (either_true b.enabled (not (is_moving (carried_by b.kind))) h) [
  | inl on ↦ absurd (false≢true (sym e ∙ on))
  | inr halted ↦ not_true (is_moving (carried_by b.kind)) halted
]

-- just a mover has an island
fits_by : (t : Bool) (island : Option ℕ) → cond t (is_some island) (is_none island) ≡ true → is_some island ≡ t
fits_by true island h = h
fits_by false island h = not_true (is_some island) h

none_under : (asleep : Bool) (island : Option ℕ) → is_some island ≡ false → cond asleep island None ≡ None
none_under true None h = refl
none_under true (Some n) h = absurd (false≢true (sym h))
none_under false island h = refl

-- a body and what it says of its island
pub record IsSavedBody (most : ℕ) (b : Body) (m : Membership) : Type 0 where
  pub body : IsBody b
  pub timer : b.timer ≤ most
  pub island : is_some m.island ≡ is_mover b
  pub asleep : b.asleep ≡ sleeping_under m
  pub told : is_island_or_nothing m ≡ true
  pub filters : Each (λ (d : ShapeDef). HasFilter d.filter) b.shapes

-- what is known of its numbers
record HasNumbers (b : Body) : Type 0 where
  mass : IsMassOf b.kind b.mass
  motion : IsMotion b.mass b.motion
  course : IsCourse (carried_by b.kind)
  long : length b.fats ≡ length b.shapes
  small : Each (IsBoxWithin (2 ^ 37)) b.fats

none_is : (o : Option Refusal) → is_none o ≡ true → o ≡ None
none_is None h = refl
none_is (Some e) h = absurd (false≢true h)

body_is : (b : Body) (m : Membership) → HasNumbers b → b.asleep ≡ sleeping_under m → may_have_shapes b ≡ true → is_boxed (Some b) ≡ true
    → (is_awake b || is_at_rest b.motion) ≡ true → (b.enabled || not (is_moving (carried_by b.kind))) ≡ true → island_fits b m ≡ true → IsBody b
body_is b m n asleep allowed boxed still halted fits = record {
  mass = n.mass;
  motion = n.motion;
  rest = still_by b still;
  asleep = λ e. asleep ∙ none_under m.asleep m.island (fits_by (is_mover b) m.island fits ∙ e);
  course = n.course;
  halted = halted_by b halted;
  shapes = none_is (shapes_refusal (is_static b.kind) b.shapes) allowed;
  forms = forms_of (is_static b.kind) b.shapes (none_is (shapes_refusal (is_static b.kind) b.shapes) allowed);
  fats = fat_boxes_are (pose_of b) b.shapes b.fats n.long boxed n.small;
}

has_numbers : (t : ℕ) (d : Data) → is_facing (pose_in d).rot ≡ true → HasNumbers (body_in t d)
unfolding body_in
has_numbers t d h = record {
  mass = mass_is (kind_in d) d;
  motion = motion_is (mass_in (kind_in d) d) d h;
  course = course_is d;
  long = as_many (items_in (get (codes "shapes") d));
  small = boxes_small (items_in (get (codes "shapes") d));
}

timer_small : (t : ℕ) (d : Data) → (body_in t d).timer ≤ t
unfolding body_in
timer_small t d = unsigned_small t (get (codes "timer") d)

asleep_as : (t : ℕ) (d : Data) → (body_in t d).asleep ≡ sleeping_under (membership_in d)
unfolding body_in
asleep_as t d = refl

filtered : (t : ℕ) (d : Data) → Each (λ (s : ShapeDef). HasFilter s.filter) (body_in t d).shapes
unfolding body_in
filtered t d = filters_small (items_in (get (codes "shapes") d))

faced : (course mass inertia p l at numbers facing island timer shapes allowed : Bool) → (course && mass && inertia && (p && l && at && (numbers && facing)) && island && timer && shapes && allowed) ≡ true → (allowed ≡ true) × (facing ≡ true)
faced course mass inertia p l at numbers facing island timer shapes allowed h =
    let motion : Bool = p && l && at && (numbers && facing) in
    let one = both_true (course && mass && inertia && motion && island && timer && shapes) allowed h in
    let two = both_true (course && mass && inertia && motion && island && timer) shapes one.0 in
    let three = both_true (course && mass && inertia && motion && island) timer two.0 in
    let four = both_true (course && mass && inertia && motion) island three.0 in
    let five = both_true (course && mass && inertia) motion four.0 in
    let six = both_true (p && l && at) (numbers && facing) five.1 in
    let seven = both_true numbers facing six.1 in
    (one.1, seven.1)

-- a body within its limits may have its shapes, and has a facing
pub told_within : (t : ℕ) (d : Data) → is_body_within t d ≡ true → (may_have_shapes (body_in t d) ≡ true) × (is_facing (pose_in d).rot ≡ true)
unfolding is_body_within is_motion_within pose_in
told_within t d h = faced (is_course_within (bare_kind d) d) _ _ (is_vector_within (unsigned_abs MAX_MOMENTUM) (get (codes "p") d)) _ _ (are_two_numbers (get (codes "facing") d)) (is_facing (facing_in (get (codes "facing") d))) _ _ _ (may_have_shapes (body_in t d)) h

pub body_kept : (t : ℕ) (d : Data) → is_body_within t d ≡ true → is_boxed (Some (body_in t d)) ≡ true → is_membership_right (Some (body_in t d)) (membership_in d) ≡ true → is_rested (Some (body_in t d)) ≡ true → IsSavedBody t (body_in t d) (membership_in d)
body_kept t d within boxed right rested =
    let b : Body = body_in t d in
    let told = told_within t d within in
    let own = both_true (island_fits b (membership_in d)) (is_island_or_nothing (membership_in d)) right in
    let still = both_true (is_awake b || is_at_rest b.motion) (b.enabled || not (is_moving (carried_by b.kind))) rested in
    record {
      body = body_is b (membership_in d) (has_numbers t d told.1) (asleep_as t d) told.0 boxed still.0 still.1 own.0;
      timer = timer_small t d;
      island = fits_by (is_mover b) (membership_in d).island own.0;
      asleep = asleep_as t d;
      told = own.1;
      filters = filtered t d;
    }
