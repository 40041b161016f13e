-- A body is read as it is written.
use Rattle.std.proofs.Common.{◌≡◌, ℕ, ◌-◌, ◌^◌, ◌<◌, ◌≤◌, ◌&&◌, ◌||◌, Bool, true, false, not, cond, List, [], ◌∷◌, length, Option, Some, None, is_some, is_none, codes, unwrap_or, All, ℤ, pos, neg_ℤ, ◌≤ℤ◌, unsigned_abs, int_eq, int_le, refl, sym, ap, ap₂, ◌∙◌, arith}
use Rattle.std.proofs.lemmas.Bool.Decides.{Decides-int_eq}
use Rattle.std.proofs.lemmas.Int.{ints}
use Rattle.serde_json.specs.Data.{Data, Items, boolean, no_members, null, object, string}
use Rattle.serde_json.specs.Find.{get}
use Rattle.serde_json.specs.View.{items_of}
use Rattle.contacts_base.proofs.Members.{Each}
use Rattle.fixed_geom.specs.Boxes.{Contains, IsBoxWithin, contains, covers}
use Rattle.fixed_geom.specs.Facings.{is_facing}
use Rattle.fixed_geom.specs.declared.boxes.Box2.{Box2}
use Rattle.fixed_geom.specs.declared.facings.Rot.{Rot}
use Rattle.fixed_geom.specs.declared.limits.TheConstants.{MAX_POSITION, MAX_SPIN}
use Rattle.fixed_geom.specs.declared.refusal.Refusal.{Refusal}
use Rattle.islands.specs.declared.label.Label.{Label}
use Rattle.fixed_geom.specs.declared.vectors.Vec2.{Vec2}
use Rattle.momenta.specs.Motions.{IsMotion}
use Rattle.momenta.specs.declared.limits.TheConstants.{MAX_MOMENTUM, MAX_SPEED}
use Rattle.momenta.specs.declared.mass.MassData.{MassData}
use Rattle.momenta.specs.declared.motion.Motion.{Motion}
use Rattle.plain_world.specs.Formed.{HasFilter}
use Rattle.plain_world.specs.Bodies.{IsAtRest, IsBody, IsMassOf, is_awake, is_mover, pose_of}
use Rattle.plain_world.specs.Fats.{EachIsFatBox}
use Rattle.plain_world.specs.Kinds.{IsCourse, carried_by, is_moving, is_static, no_course}
use Rattle.plain_world.specs.declared.body.Body.{Body}
use Rattle.plain_world.specs.declared.kind.Kind.{Kind}
use Rattle.plain_world.specs.declared.kind.Kind.TheVariants.{Static, Kinematic, Dynamic}
use Rattle.shapes.specs.Bounds.{tight_box}
use Rattle.shapes.specs.Shapes.{IsShapeDef, shapes_refusal}
use Rattle.shapes.specs.declared.pose.Pose.{Pose}
use Rattle.shapes.specs.declared.shape.ShapeDef.{ShapeDef}
use Rattle.world_file_base.specs.Asks.{Ask, asked, noted}
use Rattle.world_file_base.specs.Reading.{has_keys, island_in, items_in, signed_in, text_in, truth_in, unsigned_in, vector_in, vector_within}
use Rattle.world_file_base.specs.AskedValues.{island_asks, list_asks, signed_asks, text_asks, truth_asks, unsigned_asks, vector_asks, vector_within_asks, decimal_asks}
use Rattle.world_file_base.specs.Texts.{decimal_in}
use Rattle.world_file_base.specs.Written.{decimal_of, integer, list_data, natural, vector_of}
use Rattle.world_file_base.specs.declared.clause.Clause.TheVariants.{FatBoxes, Form, Islands, Limits, Memberships}
use Rattle.world_file_base.specs.declared.reader.Reader.{Reader}
use Rattle.world_file_base.specs.SavedBodies.{are_in_boxes, bare_kind, body_in, body_data, facing_in, island_fits, is_island_or_nothing, is_at_rest, kind_in, kind_name, least_mass, mass_in, membership_in, momenta_in, most_angular, most_inertia, most_mass, motion_in, named_kind, pose_in, put_course_data, put_label, put_numbers, sleeping_under, with_course}
use Rattle.world_file_base.specs.AskedBodies.{body_asks, course_asks, fit_asks, is_pose, keys_asks, kind_asks, mass_asks, membership_asks, momenta_asks, motion_asks, numbers_asks, pose_asks, rest_asks, fitting_membership_asks, whole_body_asks}
use Rattle.world_file_base.specs.SavedShapes.{defs_in, fats_in, shapes_of}
use Rattle.world_file_base.specs.AskedShapes.{shapes_asks}
use Rattle.world_file_base.specs.declared.saved.Membership.{Membership}
use Rattle.world_file.specs.Again.{membership_of}
use Rattle.world_file.proofs.AgainParts.{both_hold, each_from_all}
use Rattle.world_file.proofs.BackNumbers.{IsBack, asked_true, between_true, decimal_back, facing_true, island_back, signed_back, unsigned_back, vector_back, within_back}
use Rattle.world_file.proofs.BackShapes.{shapes_back}

-- what stands under a key is read as x, and nothing is broken
pub record IsBackAt {X : Type 0} (read : Option Data → X) (ask : Option Data → Ask) (o : Option Data) (x : X) : Type 0 where
  pub value : read o ≡ x
  pub asks : (r : Reader) → ask o r ≡ r

pub back_at : {X : Type 0} (read : Option Data → X) (ask : Option Data → Ask) (o : Option Data) (d : Data) (x : X) → o ≡ Some d → IsBack read ask d x → IsBackAt read ask o x
back_at read ask o d x e h = record { value = ap read e ∙ h.value; asks = λ r. ap (λ (v : Option Data). ask v r) e ∙ h.asks r }

pub truth_back : (b : Bool) → IsBack truth_in truth_asks (boolean b) b
truth_back b = record { value = refl; asks = λ r. refl }

-- ---- its keys

abbrev data_by_kind : Kind → Body → Option Label → Data
data_by_kind k b label = object (put_label label (put_course_data k (put_numbers b no_members)))

abbrev island_of : Option Label → Data
island_of None = null
island_of (Some l) = natural l.name

record HasBodyKeys (d : Data) (b : Body) (label : Option Label) : Type 0 where
  at : get (codes "at") d ≡ Some (vector_of b.motion.x)
  enabled : get (codes "enabled") d ≡ Some (boolean b.enabled)
  facing : get (codes "facing") d ≡ Some (vector_of (record { x = b.motion.rot.c; y = b.motion.rot.s }))
  inertia : get (codes "inertia") d ≡ Some (integer b.mass.inertia)
  kind : get (codes "kind") d ≡ Some (string (kind_name b.kind))
  l : get (codes "l") d ≡ Some (decimal_of b.motion.l)
  mass : get (codes "mass") d ≡ Some (integer b.mass.mass)
  p : get (codes "p") d ≡ Some (vector_of b.motion.p)
  shapes : get (codes "shapes") d ≡ Some (list_data (shapes_of b.shapes b.fats))
  timer : get (codes "timer") d ≡ Some (natural b.timer)
  asleep : get (codes "asleep") d ≡ Some (boolean (membership_of label).asleep)
  island : get (codes "island") d ≡ Some (island_of label)
  loose : get (codes "loose") d ≡ Some (boolean (membership_of label).loose)

body_keys : (k : Kind) (label : Option Label) (b : Body) → HasBodyKeys (data_by_kind k b label) b label
unfolding put_numbers
body_keys Static None b = record { at = refl; enabled = refl; facing = refl; inertia = refl; kind = refl; l = refl; mass = refl; p = refl; shapes = refl; timer = refl; asleep = refl; island = refl; loose = refl }
body_keys Static (Some label) b = record { at = refl; enabled = refl; facing = refl; inertia = refl; kind = refl; l = refl; mass = refl; p = refl; shapes = refl; timer = refl; asleep = refl; island = refl; loose = refl }
body_keys (Kinematic course) None b = record { at = refl; enabled = refl; facing = refl; inertia = refl; kind = refl; l = refl; mass = refl; p = refl; shapes = refl; timer = refl; asleep = refl; island = refl; loose = refl }
body_keys (Kinematic course) (Some label) b = record { at = refl; enabled = refl; facing = refl; inertia = refl; kind = refl; l = refl; mass = refl; p = refl; shapes = refl; timer = refl; asleep = refl; island = refl; loose = refl }
body_keys Dynamic None b = record { at = refl; enabled = refl; facing = refl; inertia = refl; kind = refl; l = refl; mass = refl; p = refl; shapes = refl; timer = refl; asleep = refl; island = refl; loose = refl }
body_keys Dynamic (Some label) b = record { at = refl; enabled = refl; facing = refl; inertia = refl; kind = refl; l = refl; mass = refl; p = refl; shapes = refl; timer = refl; asleep = refl; island = refl; loose = refl }

abbrev pub HasCourseKeys : Kind → Data → Type 0
HasCourseKeys Static d = has_keys 13 d ≡ true
HasCourseKeys (Kinematic course) d = (get (codes "velocity") d ≡ Some (vector_of course.velocity)) × (get (codes "spin") d ≡ Some (integer course.spin)) × (has_keys 15 d ≡ true)
HasCourseKeys Dynamic d = has_keys 13 d ≡ true

course_keys : (k : Kind) (label : Option Label) (b : Body) → HasCourseKeys k (data_by_kind k b label)
unfolding put_numbers
course_keys Static None b = refl
course_keys Static (Some l) b = refl
course_keys (Kinematic course) None b = (refl, refl, refl)
course_keys (Kinematic course) (Some l) b = (refl, refl, refl)
course_keys Dynamic None b = refl
course_keys Dynamic (Some l) b = refl

-- ---- its kind

abbrev bare : Kind → Kind
bare Static = Static
bare (Kinematic course) = Kinematic no_course
bare Dynamic = Dynamic

name_back : (k : Kind) → named_kind (kind_name k) ≡ Some (bare k)
name_back Static = refl
name_back (Kinematic course) = refl
name_back Dynamic = refl

record IsCourseBack (k : Kind) (d : Data) : Type 0 where
  value : with_course (bare k) d ≡ k
  asks : (r : Reader) → course_asks (bare k) d r ≡ r

spin_between : (z : ℤ) → unsigned_abs z ≤ 2 ^ 28 → (neg_ℤ (pos (2 ^ 28)) ≤ℤ z) × (z ≤ℤ pos (2 ^ 28))
spin_between z h = (omega (arith, ints, h), omega (arith, ints, h))

course_back : (k : Kind) (d : Data) → IsCourse (carried_by k) → HasCourseKeys k d → IsCourseBack k d
course_back Static d is h = record { value = refl; asks = λ r. asked_true (has_keys 13 d) Form r h }
course_back (Kinematic course) d is h =
    let size = spin_between course.spin is.spin in
    let v = back_at (vector_within (unsigned_abs MAX_SPEED)) (vector_within_asks (unsigned_abs MAX_SPEED)) (get (codes "velocity") d) (vector_of course.velocity) course.velocity h.0 (within_back (unsigned_abs MAX_SPEED) course.velocity (omega arith) is.velocity) in
    let w = back_at (signed_in (neg_ℤ MAX_SPIN) MAX_SPIN) (signed_asks (neg_ℤ MAX_SPIN) MAX_SPIN) (get (codes "spin") d) (integer course.spin) course.spin h.1 (signed_back (neg_ℤ MAX_SPIN) MAX_SPIN course.spin (between_true (neg_ℤ MAX_SPIN) MAX_SPIN course.spin size.0 size.1)) in
    record {
      value = λ i. Kinematic (record { velocity = v.value i; spin = w.value i });
      asks = λ r. asked_true (has_keys 15 d) Form _ h.2 ∙ w.asks _ ∙ v.asks r;
    }
course_back Dynamic d is h = record { value = refl; asks = λ r. asked_true (has_keys 13 d) Form r h }

pub record IsKindBack (k : Kind) (d : Data) : Type 0 where
  pub value : kind_in d ≡ k
  pub asks : (r : Reader) → kind_asks d r ≡ r

pub kind_back : (k : Kind) (d : Data) → get (codes "kind") d ≡ Some (string (kind_name k)) → IsCourse (carried_by k) → HasCourseKeys k d → IsKindBack k d
unfolding kind_in kind_asks
kind_back k d e is h =
    let named : named_kind (text_in (get (codes "kind") d)) ≡ Some (bare k) = ap (λ (o : Option Data). named_kind (text_in o)) e ∙ name_back k in
    let plain : bare_kind d ≡ bare k = ap (λ (o : Option Kind). unwrap_or o Static) named in
    let course = course_back k d is h in
    record {
      value = ap (λ (v : Kind). with_course v d) plain ∙ course.value;
      asks = λ r.
          ap (λ (v : Kind). course_asks v d (asked (is_some (named_kind (text_in (get (codes "kind") d)))) Form (text_asks (get (codes "kind") d) r))) plain ∙ course.asks _
          ∙ asked_true (is_some (named_kind (text_in (get (codes "kind") d)))) Form (text_asks (get (codes "kind") d) r) (ap (λ (o : Option Kind). is_some o) named)
          ∙ ap (λ (o : Option Data). text_asks o r) e;
    }

-- ---- its mass and its motion

pub record IsMassBack (k : Kind) (m : MassData) (d : Data) : Type 0 where
  pub value : mass_in k d ≡ m
  pub asks : (r : Reader) → mass_asks k d r ≡ r

mass_by : (k : Kind) (m : MassData) (d : Data) → get (codes "mass") d ≡ Some (integer m.mass) → get (codes "inertia") d ≡ Some (integer m.inertia) → least_mass k ≤ℤ m.mass → m.mass ≤ℤ most_mass k → pos 0 ≤ℤ m.inertia → m.inertia ≤ℤ most_inertia k → IsMassBack k m d
unfolding mass_in mass_asks
mass_by k m d e f low high least most =
    let a = back_at (signed_in (least_mass k) (most_mass k)) (signed_asks (least_mass k) (most_mass k)) (get (codes "mass") d) (integer m.mass) m.mass e (signed_back (least_mass k) (most_mass k) m.mass (between_true (least_mass k) (most_mass k) m.mass low high)) in
    let b = back_at (signed_in (pos 0) (most_inertia k)) (signed_asks (pos 0) (most_inertia k)) (get (codes "inertia") d) (integer m.inertia) m.inertia f (signed_back (pos 0) (most_inertia k) m.inertia (between_true (pos 0) (most_inertia k) m.inertia least most)) in
    record { value = λ i. record { mass = a.value i; inertia = b.value i }; asks = λ r. b.asks _ ∙ a.asks r }

zero_low : (z : ℤ) → z ≡ pos 0 → pos 0 ≤ℤ z
zero_low z e = omega (arith, ints, e)

zero_high : (z : ℤ) → z ≡ pos 0 → z ≤ℤ pos 0
zero_high z e = omega (arith, ints, e)

most_is : (n : ℕ) (z : ℤ) → unsigned_abs z ≤ n → z ≤ℤ pos n
most_is n z h = omega (arith, ints, h)

pub mass_back : (k : Kind) (m : MassData) (d : Data) → IsMassOf k m → get (codes "mass") d ≡ Some (integer m.mass) → get (codes "inertia") d ≡ Some (integer m.inertia) → IsMassBack k m d
mass_back Static m d is e f = mass_by Static m d e f (zero_low m.mass is.0) (zero_high m.mass is.0) (zero_low m.inertia is.1) (zero_high m.inertia is.1)
mass_back (Kinematic course) m d is e f = mass_by (Kinematic course) m d e f (zero_low m.mass is.0) (zero_high m.mass is.0) (zero_low m.inertia is.1) (zero_high m.inertia is.1)
mass_back Dynamic m d is e f = mass_by Dynamic m d e f is.positive (most_is (2 ^ 20) m.mass is.mass) is.nonnegative (most_is (2 ^ 60) m.inertia is.inertia)

pub angular_by : (t : Bool) (inertia l : ℤ) → int_eq inertia (pos 0) ≡ t → (inertia ≡ pos 0 → l ≡ pos 0) → unsigned_abs l ≤ 2 ^ 90 → unsigned_abs l ≤ cond t 0 (2 ^ 90)
angular_by true inertia l e still h = let none : l ≡ pos 0 = still ((Decides-int_eq inertia (pos 0)).0 e) in omega (arith, ints, none)
angular_by false inertia l e still h = h

pub angular_most : (t : Bool) → cond t 0 (2 ^ 90) < 10 ^ 64
angular_most true = omega arith
angular_most false = omega arith

pub record IsMotionBack (inertia : ℤ) (s : Motion) (d : Data) : Type 0 where
  pub value : motion_in inertia d ≡ s
  pub asks : (r : Reader) → motion_asks inertia d r ≡ r

-- what stands under the keys of a motion
pub record HasMotionKeys (d : Data) (s : Motion) : Type 0 where
  pub at_is : get (codes "at") d ≡ Some (vector_of s.x)
  pub facing_is : get (codes "facing") d ≡ Some (vector_of (record { x = s.rot.c; y = s.rot.s }))
  pub l_is : get (codes "l") d ≡ Some (decimal_of s.l)
  pub p_is : get (codes "p") d ≡ Some (vector_of s.p)

facing_same : (o : Option Data) (q : Rot) → vector_in o ≡ record { x = q.c; y = q.s } → facing_in o ≡ q
facing_same o q e = λ i. record { c = (e i).x; s = (e i).y }

pub motion_back : (m : MassData) (s : Motion) (d : Data) → HasMotionKeys d s → IsMotion m s → IsMotionBack m.inertia s d
unfolding motion_in motion_asks momenta_in momenta_asks pose_in pose_asks
motion_back m s d keys h =
    let far = h.facing.c in
    let up = h.facing.s in
    let v : Vec2 = record { x = s.rot.c; y = s.rot.s } in
    let p = back_at (vector_within (unsigned_abs MAX_MOMENTUM)) (vector_within_asks (unsigned_abs MAX_MOMENTUM)) (get (codes "p") d) (vector_of s.p) s.p keys.p_is (within_back (unsigned_abs MAX_MOMENTUM) s.p (omega arith) h.p) in
    let l = back_at (decimal_in (most_angular m.inertia)) (decimal_asks (most_angular m.inertia)) (get (codes "l") d) (decimal_of s.l) s.l keys.l_is
    (decimal_back (most_angular m.inertia) s.l (angular_most (int_eq m.inertia (pos 0))) (angular_by (int_eq m.inertia (pos 0)) m.inertia s.l refl h.still h.l)) in
    let x = back_at (vector_within (unsigned_abs MAX_POSITION)) (vector_within_asks (unsigned_abs MAX_POSITION)) (get (codes "at") d) (vector_of s.x) s.x keys.at_is (within_back (unsigned_abs MAX_POSITION) s.x (omega arith) h.x) in
    let q = back_at vector_in vector_asks (get (codes "facing") d) (vector_of v) v keys.facing_is (vector_back v (omega (arith, far), omega (arith, up))) in
    let rot = facing_same (get (codes "facing") d) s.rot q.value in
    record {
      value = λ i. record { p = p.value i; l = l.value i; x = x.value i; rot = rot i };
      asks = λ r. asked_true (is_facing (facing_in (get (codes "facing") d))) Limits _ (ap (λ (v : Rot). is_facing v) rot ∙ facing_true s.rot h.facing) ∙ q.asks _ ∙ x.asks _ ∙ l.asks _ ∙ p.asks r;
    }

-- ---- its island

record IsMembershipBack (label : Option Label) (d : Data) : Type 0 where
  value : membership_in d ≡ membership_of label
  asks : (r : Reader) → membership_asks d r ≡ r

abbrev IsLowName : Option Label → Type 0
IsLowName o = (l : Label) → o ≡ Some l → l.name ≤ 2 ^ 32 - 1

island_again : (label : Option Label) → IsLowName label → IsBack island_in island_asks (island_of label) (membership_of label).island
island_again None h = record { value = refl; asks = λ r. refl }
island_again (Some l) h = island_back l.name (h l refl)

membership_back : (label : Option Label) (d : Data) (b : Body) → HasBodyKeys d b label → IsLowName label → IsMembershipBack label d
unfolding membership_in membership_asks
membership_back label d b keys low =
    let island = back_at island_in island_asks (get (codes "island") d) (island_of label) (membership_of label).island keys.island (island_again label low) in
    let loose = back_at truth_in truth_asks (get (codes "loose") d) (boolean (membership_of label).loose) (membership_of label).loose keys.loose (truth_back (membership_of label).loose) in
    let asleep = back_at truth_in truth_asks (get (codes "asleep") d) (boolean (membership_of label).asleep) (membership_of label).asleep keys.asleep (truth_back (membership_of label).asleep) in
    record { value = λ i. record { island = island.value i; loose = loose.value i; asleep = asleep.value i }; asks = λ r. asleep.asks _ ∙ loose.asks _ ∙ island.asks r }

-- ---- what is asked of it as a whole

int_true : (a b : ℤ) → a ≤ℤ b → int_le a b ≡ true
int_true a b h = grind (arith, ints)

covers_true : (lo hi low high : ℤ) → lo ≤ℤ low → high ≤ℤ hi → covers lo hi low high ≡ true
unfolding covers
covers_true lo hi low high h k = both_hold (int_le lo low) (int_le high hi) (int_true lo low h) (int_true high hi k)

contains_true : (outer inner : Box2) → Contains outer inner → contains outer inner ≡ true
contains_true outer inner h = both_hold (covers outer.lo.x outer.hi.x inner.lo.x inner.hi.x) (covers outer.lo.y outer.hi.y inner.lo.y inner.hi.y) (covers_true outer.lo.x outer.hi.x inner.lo.x inner.hi.x h.left h.right) (covers_true outer.lo.y outer.hi.y inner.lo.y inner.hi.y h.down h.up)

in_boxes : (pose : Pose) (defs : List ShapeDef) (fats : List Box2) → length fats ≡ length defs → EachIsFatBox pose defs fats → are_in_boxes pose defs fats ≡ true
in_boxes pose [] fats e each = refl
in_boxes pose (def ∷ defs) [] e each = absurd (omega arith)
in_boxes pose (def ∷ defs) (fat ∷ fats) e each = ap (λ (b : Bool). cond b (are_in_boxes pose defs fats) false) (contains_true fat (tight_box def.shape pose) each.0.contains) ∙ in_boxes pose defs fats (omega arith) each.1

small_boxes : (pose : Pose) (defs : List ShapeDef) (fats : List Box2) → length fats ≡ length defs → EachIsFatBox pose defs fats → Each (IsBoxWithin (2 ^ 37)) fats
small_boxes pose [] [] e each = tt
small_boxes pose [] (fat ∷ fats) e each = absurd (omega arith)
small_boxes pose (def ∷ defs) [] e each = absurd (omega arith)
small_boxes pose (def ∷ defs) (fat ∷ fats) e each = (each.0.within, small_boxes pose defs fats (omega arith) each.1)

either_way : (t b : Bool) (r : Reader) → b ≡ true → cond t (asked b FatBoxes r) r ≡ r
either_way true b r e = asked_true b FatBoxes r e
either_way false b r e = refl

fit_holds : (kind : Kind) (pose : Pose) (defs : List ShapeDef) (fats : List Box2) (r : Reader) → shapes_refusal (is_static kind) defs ≡ None → are_in_boxes pose defs fats ≡ true → fit_asks kind pose defs fats r ≡ r
unfolding fit_asks
fit_holds kind pose defs fats r e h = ap (λ (o : Option Refusal). cond (is_none o) (cond (is_pose pose) (asked (are_in_boxes pose defs fats) FatBoxes r) r) (noted Limits r)) e ∙ either_way (is_pose pose) (are_in_boxes pose defs fats) r h

at_rest_true : (m : Motion) → IsAtRest m → is_at_rest m ≡ true
at_rest_true m h = both_hold (int_eq m.p.x (pos 0)) (int_eq m.p.y (pos 0) && int_eq m.l (pos 0)) ((Decides-int_eq m.p.x (pos 0)).1 h.x) (both_hold (int_eq m.p.y (pos 0)) (int_eq m.l (pos 0)) ((Decides-int_eq m.p.y (pos 0)).1 h.y) ((Decides-int_eq m.l (pos 0)).1 h.l))

still_true : (t : Bool) (m : Motion) → (t ≡ false → IsAtRest m) → (t || is_at_rest m) ≡ true
still_true true m h = refl
still_true false m h = at_rest_true m (h refl)

halted_true : (t moving : Bool) → (t ≡ false → moving ≡ false) → (t || not moving) ≡ true
halted_true true moving h = refl
halted_true false moving h = ap (λ (b : Bool). not b) (h refl)

rest_holds : (b : Body) (r : Reader) → IsBody b → rest_asks b r ≡ r
unfolding rest_asks
rest_holds b r h = asked_true (b.enabled || not (is_moving (carried_by b.kind))) Islands _ (halted_true b.enabled (is_moving (carried_by b.kind)) h.halted) ∙ asked_true (is_awake b || is_at_rest b.motion) Islands r (still_true (is_awake b) b.motion h.rest)

fits_true : (t : Bool) (island : Option ℕ) → is_some island ≡ t → cond t (is_some island) (is_none island) ≡ true
fits_true true island e = e
fits_true false island e = ap (λ (b : Bool). not b) e

says_some : (label : Option Label) → is_some (membership_of label).island ≡ is_some label
says_some None = refl
says_some (Some l) = refl

told_true : (label : Option Label) → is_island_or_nothing (membership_of label) ≡ true
told_true None = refl
told_true (Some l) = refl

told_holds : (b : Body) (label : Option Label) (r : Reader) → is_some label ≡ is_mover b → fitting_membership_asks b (membership_of label) r ≡ r
unfolding fitting_membership_asks
told_holds b label r e = asked_true (is_island_or_nothing (membership_of label)) Memberships _ (told_true label) ∙ asked_true (island_fits b (membership_of label)) Memberships r (fits_true (is_mover b) (membership_of label).island (says_some label ∙ e))

whole_holds : (b : Body) (label : Option Label) (r : Reader) → IsBody b → is_some label ≡ is_mover b → whole_body_asks b (membership_of label) r ≡ r
unfolding whole_body_asks
whole_holds b label r h e =
    told_holds b label _ e ∙ rest_holds b _ h
    ∙ fit_holds b.kind (pose_of b) b.shapes b.fats r h.shapes (in_boxes (pose_of b) b.shapes b.fats h.fats.long h.fats.each)

-- ---- all of it

-- what is known of a body that is written
pub record IsBodyWritten (most : ℕ) (b : Body) (label : Option Label) : Type 0 where
  pub body : IsBody b
  pub timer : b.timer ≤ most
  pub filters : All (λ (d : ShapeDef). HasFilter d.filter) b.shapes
  pub mover : is_some label ≡ is_mover b
  pub low : (l : Label) → label ≡ Some l → l.name ≤ 2 ^ 32 - 1
  pub asleep : b.asleep ≡ sleeping_under (membership_of label)

pub record IsBodyBack (most : ℕ) (b : Body) (label : Option Label) : Type 0 where
  pub value : body_in most (body_data b label) ≡ b
  pub membership : membership_in (body_data b label) ≡ membership_of label
  pub asks : (r : Reader) → body_asks most (body_data b label) r ≡ r

shapes_at : (b : Body) (d : Data) (label : Option Label) → HasBodyKeys d b label → items_in (get (codes "shapes") d) ≡ items_of (shapes_of b.shapes b.fats)
shapes_at b d label keys = ap (λ (o : Option Data). items_in o) keys.shapes

body_by : (most : ℕ) (b : Body) (label : Option Label) (d : Data) → d ≡ body_data b label → HasBodyKeys d b label → HasCourseKeys b.kind d → IsBodyWritten most b label → (body_in most d ≡ b) × (membership_in d ≡ membership_of label) × ((r : Reader) → body_asks most d r ≡ r)
unfolding body_in body_asks keys_asks numbers_asks
body_by most b label d same keys course h =
    let kind = kind_back b.kind d keys.kind h.body.course course in
    let mass = mass_back b.kind b.mass d h.body.mass keys.mass keys.inertia in
    let heavy : mass_in (kind_in d) d ≡ b.mass = ap (λ (k : Kind). mass_in k d) kind.value ∙ mass.value in
    let motion = motion_back b.mass b.motion d (record { at_is = keys.at; facing_is = keys.facing; l_is = keys.l; p_is = keys.p }) h.body.motion in
    let moves : motion_in (mass_in (kind_in d) d).inertia d ≡ b.motion = ap (λ (m : MassData). motion_in m.inertia d) heavy ∙ motion.value in
    let membership = membership_back label d b keys h.low in
    let enabled = back_at truth_in truth_asks (get (codes "enabled") d) (boolean b.enabled) b.enabled keys.enabled (truth_back b.enabled) in
    let timer = back_at (unsigned_in most) (unsigned_asks most) (get (codes "timer") d) (natural b.timer) b.timer keys.timer (unsigned_back most b.timer h.timer) in
    let shapes = shapes_back b.shapes b.fats h.body.fats.long (each_from_all IsShapeDef b.shapes h.body.forms) (each_from_all (λ (s : ShapeDef). HasFilter s.filter) b.shapes h.filters) (small_boxes (pose_of b) b.shapes b.fats h.body.fats.long h.body.fats.each) in
    let items = shapes_at b d label keys in
    let asleep : sleeping_under (membership_in d) ≡ b.asleep = ap (λ (m : Membership). sleeping_under m) membership.value ∙ sym h.asleep in
    let defs : defs_in (items_in (get (codes "shapes") d)) ≡ b.shapes = ap (λ (ds : Items). defs_in ds) items ∙ shapes.defs in
    let fats : fats_in (items_in (get (codes "shapes") d)) ≡ b.fats = ap (λ (ds : Items). fats_in ds) items ∙ shapes.fats in
    let whole : body_in most d ≡ b = λ i. record { kind = kind.value i; mass = heavy i; motion = moves i; enabled = enabled.value i; asleep = asleep i; timer = timer.value i; fats = fats i; shapes = defs i } in (
      whole,
      membership.value,
      λ r.
          ap₂ (λ (v : Body) (m : Membership). whole_body_asks v m (keys_asks most d r)) whole membership.value
          ∙ whole_holds b label (keys_asks most d r) h.body h.mover
          ∙ ap (λ (ds : Items). shapes_asks ds (list_asks (get (codes "shapes") d) (numbers_asks most d r))) items ∙ shapes.asks _
          ∙ ap (λ (o : Option Data). list_asks o (numbers_asks most d r)) keys.shapes
          ∙ timer.asks _ ∙ enabled.asks _ ∙ membership.asks _
          ∙ ap (λ (m : MassData). motion_asks m.inertia d (mass_asks (kind_in d) d (kind_asks d r))) heavy ∙ motion.asks _
          ∙ ap (λ (k : Kind). mass_asks k d (kind_asks d r)) kind.value ∙ mass.asks _
          ∙ kind.asks r,
    )

pub body_back : (most : ℕ) (b : Body) (label : Option Label) → IsBodyWritten most b label → IsBodyBack most b label
unfolding body_data
body_back most b label h =
    let o = body_by most b label (data_by_kind b.kind b label) refl (body_keys b.kind label b) (course_keys b.kind label b) h in
    record { value = o.0; membership = o.1; asks = o.2 }
