-- The contacts that a collide makes are of bodies that are there, one of them a mover, and their numbers are within
-- their limits.
use Rattle.std.proofs.Common.{◌≡◌, ℕ, suc, ◌+◌, ◌^◌, ◌<◌, ◌≤◌, Bool, true, false, cond, not, ℤ, pos, ◌≤ℤ◌, unsigned_abs, List, [], ◌∷◌, ◌++◌, length, Option, Some, None, option_map, IfSome, All, ◌⊎◌, inl, inr, arith, refl, sym, ap, ap₂, ◌∙◌, subst, is_some, le-leb, map}
use Rattle.std.specs.Prelude.{◌==◌, ◌&&◌, ◌||◌, ◌≢◌, filter, int_le, int_lt, nat_le, slice_get, unwrap_or}
use Rattle.std.specs.List.{list_all}
use Rattle.fixed_geom.specs.declared.refusal.Refusal.TheVariants.{BadShape, OutOfRange}
use Rattle.std.specs.Option.{ForSome, option_or, option_map_or}
use Rattle.std.proofs.lemmas.Bool.{eqb-false, leb-true}
use Rattle.std.proofs.lemmas.Bool.Decides.{nat_tests}
use Rattle.std.proofs.lemmas.Grind.{common_steps}
use Rattle.std.proofs.lemmas.Int.{ints}
use Rattle.std.proofs.lemmas.List.Elements.{All-filter, All-head, All-tail, All-map, All-weaker}
use Rattle.fixed_geom.specs.declared.boxes.Box2.{Box2}
use Rattle.fixed_geom.specs.Boxes.{overlaps}
use Rattle.shapes.specs.declared.points.Point.{Point}
use Rattle.shapes.specs.declared.points.Manifold.{Manifold}
use Rattle.shapes.specs.declared.pose.Pose.{Pose}
use Rattle.shapes.specs.declared.shape.ShapeDef.{ShapeDef}
use Rattle.shapes.specs.Shapes.{IsShape, IsShapeDef, are_forms_allowed, is_form_allowed, is_in_range, shapes_refusal}
use Rattle.shapes.specs.Filters.{should_collide}
use Rattle.shapes.specs.Poses.{IsPose}
use Rattle.shapes.specs.Manifolds.{manifold_of}
use Rattle.shapes.specs.PointsWithin.{IsPointWithin, IsSecond}
use Rattle.shapes.proofs.SecondLemmas.{manifold_has_second}
use Rattle.shapes.proofs.TouchLemmas.{has_touching}
use Rattle.contacts_base.specs.declared.key.ContactKey.{ContactKey}
use Rattle.contacts_base.specs.declared.contact.Contact.{Contact}
use Rattle.contacts_base.specs.declared.contact.ContactPoint.{ContactPoint}
use Rattle.contacts_base.specs.declared.contact.ContactEntry.{ContactEntry}
use Rattle.contacts_base.specs.declared.evaluation.Impulses.{Impulses}
use Rattle.contacts_base.specs.declared.near.Proxy.{Proxy}
use Rattle.contacts_base.specs.Keys.{key_number}
use Rattle.contacts_base.specs.Surfaces.{mixed}
use Rattle.contacts_base.specs.declared.limits.TheConstants.{MAX_FRICTION, MAX_RESTITUTION}
use Rattle.contacts_base.specs.declared.surface.Surface.{Surface}
use Rattle.contacts_base.specs.Contacts.{number_of, lookup}
use Rattle.contacts_base.specs.Evaluate.{apart, impulses_at, kept, kept_point, evaluated, no_impulses}
use Rattle.contacts_base.specs.Limits.{IsContactPoint, IsContact}
use Rattle.contacts_base.specs.Near.{is_near, one_stirs}
use Rattle.contacts_base.specs.ByPairs.{contacts_between, near_pairs}
use Rattle.contacts_base.specs.Changes.{entry_with, entry_of, kept_contact, surface_with, key_of}
use Rattle.contacts_base.proofs.Members.{Each, each_in, each_from, each_append, all_from_each}
use Rattle.contacts_base.specs.Forbidden.{is_forbidden}
use Rattle.graph_colours.proofs.PlaceLemmas.{same_from}
use Rattle.body_handles.specs.declared.slot_table.TheConstants.{MAX_SLOTS}
use Rattle.plain_world.specs.declared.body.Body.{Body}
use Rattle.plain_world.specs.declared.joint.BodyJoint.{BodyJoint}
use Rattle.plain_world.specs.Joints.{forbidden_pairs}
use Rattle.plain_world.specs.Bodies.{is_mover, pose_of, stirs, IsBody, AreBodies, is_mover_in, moves}
use Rattle.plain_world.specs.Kinds.{is_dynamic}
use Rattle.plain_world.specs.Formed.{HasPoints, is_surface, mixed_of, mixed_surface, no_surface, shape_with_id, shape_of_body, surface_of}
use Rattle.plain_world.specs.Slots.{body_at, shapes_in}
use Rattle.solver_sets.specs.Ties.{IsKeyWithin}
use Rattle.solver_sets.proofs.CollideLaws.{same_key}
use Rattle.world_core_base.specs.ContactBodies.{IsContactOf, AreContactsOf}
use Rattle.world_rules.specs.Collide.{shape_proxies, body_proxies, proxies_from, proxies_of, contacts_after}
use Rattle.world_rules.specs.Sound.{HasBodies}
use Rattle.solver_sets.proofs.SlotLemmas.{below_length}

-- ---- a body has eight shapes at most

count_if : (few some forms : Bool) → ((some && few) && forms) ≡ true → few ≡ true
count_if true some forms e = refl
count_if false true forms e = cc
count_if false false forms e = cc

allowed_if : (forms range : Bool) → cond forms (cond range None (Some OutOfRange)) (Some BadShape) ≡ None → forms ≡ true
allowed_if true range e = refl
allowed_if false range e = cc

pub eight_at_most : (segments : Bool) (defs : List ShapeDef) → shapes_refusal segments defs ≡ None → length defs ≤ 8
unfolding shapes_refusal
eight_at_most segments defs e =
    leb-true _ _ (count_if (nat_le (length defs) 8) (nat_le 1 (length defs)) (list_all (λ d. is_form_allowed segments d.shape) defs) (allowed_if (are_forms_allowed segments defs) (list_all is_in_range defs) e))

-- ---- the shapes that the collide reads

-- a shape of the body, which is enabled
pub record IsProxyOf (b : Body) (p : Proxy) : Type 0 where
  pub index : p.id.index < 8
  pub own : p.id.index < length b.shapes
  pub enabled : b.enabled ≡ true
  pub form : ShapeDef
  pub formed : slice_get b.shapes p.id.index ≡ Some form
  pub allowed : IsShapeDef form
  pub surface : p.surface ≡ surface_of form
  pub dynamic : p.dynamic ≡ is_dynamic b.kind
  pub shape : IsShape p.shape
  pub pose : IsPose p.pose

-- a shape of the body in its slot, the first of the bodies having the slot n
pub record IsProxyIn (n : ℕ) (bodies : List (Option Body)) (p : Proxy) : Type 0 where
  pub place : ℕ
  pub slot : p.id.slot ≡ n + place
  pub body : Body
  pub there : body_at bodies place ≡ Some body
  pub is : IsProxyOf body p

each_weaker : {X : Type 0} (P Q : X → Type 0) → ((x : X) → P x → Q x) → (xs : List X) → Each P xs → Each Q xs
each_weaker P Q f xs h = each_from Q xs (λ x i. f x (each_in P x xs h i))

record IsProxyAt (slot : ℕ) (b : Body) (p : Proxy) : Type 0 where
  slot_is : p.id.slot ≡ slot
  is : IsProxyOf b p

-- these are the body's shapes from an index on
abbrev AreFrom : Body → ℕ → List ShapeDef → Type 0
AreFrom b index defs = (k place : ℕ) → place ≡ index + k → slice_get b.shapes place ≡ slice_get defs k

shapes_are : (slot : ℕ) (b : Body) (index : ℕ) (defs : List ShapeDef) (fats : List Box2) → IsBody b → b.enabled ≡ true → index + length defs ≤ 8 → index + length defs ≤ length b.shapes → AreFrom b index defs → All IsShapeDef defs
    → Each (IsProxyAt slot b) (shape_proxies slot (is_dynamic b.kind) (stirs b) (pose_of b) index defs fats)
shapes_are slot b index [] fats is on few own from forms = tt
shapes_are slot b index (d ∷ defs) [] is on few own from forms = tt
shapes_are slot b index (d ∷ defs) (fat ∷ fats) is on few own from forms = (
  record {
    slot_is = refl;
    is = record { index = omega (arith, few); own = omega (arith, own); enabled = on; form = d; formed = from 0 index (omega arith); allowed = All-head IsShapeDef d defs forms; surface = refl; dynamic = refl; shape = (All-head IsShapeDef d defs forms).shape; pose = record { x = is.motion.x; rot = is.motion.facing } };
  },
  shapes_are slot b (suc index) defs fats is on (omega (arith, few)) (omega (arith, own)) (λ k place e. from (suc k) place (omega (arith, e))) (All-tail IsShapeDef d defs forms),
)

if_enabled : (P : Proxy → Type 0) (t : Bool) (ps : List Proxy) → (t ≡ true → Each P ps) → Each P (cond t ps [])
if_enabled P true ps h = h refl
if_enabled P false ps h = tt

body_are : (slot : ℕ) (b : Body) → IsBody b → Each (IsProxyAt slot b) (body_proxies slot b)
body_are slot b is =
    if_enabled (IsProxyAt slot b) b.enabled (shape_proxies slot (is_dynamic b.kind) (stirs b) (pose_of b) 0 b.shapes b.fats)
    (λ on. let few = eight_at_most _ _ is.shapes in shapes_are slot b 0 b.shapes b.fats is on (omega (arith, few)) (omega arith) (λ k place e. let same : place ≡ k = omega (arith, e) in ap (λ (n : ℕ). slice_get b.shapes n) same) is.forms)

entry_are : (n : ℕ) (o : Option Body) (bodies : List (Option Body)) → AreBodies (o ∷ bodies) → Each (IsProxyIn n (o ∷ bodies)) (option_map_or (body_proxies n) o [])
entry_are n None bodies all = tt
entry_are n (Some b) bodies all =
    each_weaker (IsProxyAt n b) (IsProxyIn n (Some b ∷ bodies)) (λ p h. let s : p.id.slot ≡ n = h.slot_is in record { place = 0; slot = omega arith; body = b; there = refl; is = h.is })
    (body_proxies n b) (body_are n b (all 0 b refl))

later : (n : ℕ) (o : Option Body) (bodies : List (Option Body)) (p : Proxy) → IsProxyIn (suc n) bodies p → IsProxyIn n (o ∷ bodies) p
later n o bodies p h = let s : p.id.slot ≡ suc n + h.place = h.slot in record { place = suc h.place; slot = omega arith; body = h.body; there = h.there; is = h.is }

rest_bodies : (o : Option Body) (bodies : List (Option Body)) → AreBodies (o ∷ bodies) → AreBodies bodies
rest_bodies o bodies all = λ slot b e. all (suc slot) b e

-- each is of an enabled body that is there
pub proxies_are : (n : ℕ) (bodies : List (Option Body)) → AreBodies bodies → Each (IsProxyIn n bodies) (proxies_from n bodies)
proxies_are n [] all = tt
proxies_are n (o ∷ bodies) all =
    each_append (IsProxyIn n (o ∷ bodies)) (option_map_or (body_proxies n) o []) (proxies_from (suc n) bodies) (entry_are n o bodies all)
    (each_weaker (IsProxyIn (suc n) bodies) (IsProxyIn n (o ∷ bodies)) (later n o bodies) (proxies_from (suc n) bodies) (proxies_are (suc n) bodies (rest_bodies o bodies all)))

-- ---- they ascend by slot

abbrev IsAt : ℕ → Proxy → Type 0
IsAt slot p = p.id.slot ≡ slot

abbrev IsFrom : ℕ → Proxy → Type 0
IsFrom slot p = slot ≤ p.id.slot

-- none is in a lesser slot than those before it
abbrev AreAscending : List Proxy → Type 0
AreAscending [] = Unit {0}
AreAscending (p ∷ ps) = Each (IsFrom p.id.slot) ps × AreAscending ps

shapes_at : (slot : ℕ) (dynamic stirs : Bool) (pose : Pose) (index : ℕ) (defs : List ShapeDef) (fats : List Box2) → Each (IsAt slot) (shape_proxies slot dynamic stirs pose index defs fats)
shapes_at slot dynamic stirs pose index [] fats = tt
shapes_at slot dynamic stirs pose index (d ∷ defs) [] = tt
shapes_at slot dynamic stirs pose index (d ∷ defs) (fat ∷ fats) = (refl, shapes_at slot dynamic stirs pose (suc index) defs fats)

in_slot : (slot : ℕ) (o : Option Body) → Each (IsAt slot) (option_map_or (body_proxies slot) o [])
in_slot slot None = tt
in_slot slot (Some b) =
    if_enabled (IsAt slot) b.enabled (shape_proxies slot (is_dynamic b.kind) (stirs b) (pose_of b) 0 b.shapes b.fats) (λ on. shapes_at slot (is_dynamic b.kind) (stirs b) (pose_of b) 0 b.shapes b.fats)

from_next : (slot : ℕ) (ps : List Proxy) → Each (IsFrom (suc slot)) ps → Each (IsFrom slot) ps
from_next slot ps h = each_weaker (IsFrom (suc slot)) (IsFrom slot) (λ p low. omega (arith, low)) ps h

all_from : (slot : ℕ) (bodies : List (Option Body)) → Each (IsFrom slot) (proxies_from slot bodies)
all_from slot [] = tt
all_from slot (o ∷ bodies) =
    each_append (IsFrom slot) (option_map_or (body_proxies slot) o []) (proxies_from (suc slot) bodies)
    (each_weaker (IsAt slot) (IsFrom slot) (λ p e. omega (arith, e)) (option_map_or (body_proxies slot) o []) (in_slot slot o))
    (from_next slot (proxies_from (suc slot) bodies) (all_from (suc slot) bodies))

ascend_both : (slot : ℕ) (ps qs : List Proxy) → Each (IsAt slot) ps → Each (IsFrom slot) qs → AreAscending qs → AreAscending (ps ++ qs)
ascend_both slot [] qs at from up = up
ascend_both slot (p ∷ ps) qs at from up =
    let here : p.id.slot ≡ slot = at.0 in (
      each_append (IsFrom p.id.slot) ps qs (each_weaker (IsAt slot) (IsFrom p.id.slot) (λ q e. omega (arith, e, here)) ps at.1) (each_weaker (IsFrom slot) (IsFrom p.id.slot) (λ q low. omega (arith, low, here)) qs from),
      ascend_both slot ps qs at.1 from up,
    )

proxies_ascend : (slot : ℕ) (bodies : List (Option Body)) → AreAscending (proxies_from slot bodies)
proxies_ascend slot [] = tt
proxies_ascend slot (o ∷ bodies) =
    ascend_both slot (option_map_or (body_proxies slot) o []) (proxies_from (suc slot) bodies) (in_slot slot o) (from_next slot (proxies_from (suc slot) bodies) (all_from (suc slot) bodies)) (proxies_ascend (suc slot) bodies)

-- ---- near pairs

-- two shapes of bodies that are near one another, the first in no greater slot
pub record IsNearPair (bodies : List (Option Body)) (pair : Proxy × Proxy) : Type 0 where
  pub first : IsProxyIn 0 bodies pair.0
  pub second : IsProxyIn 0 bodies pair.1
  pub order : pair.0.id.slot ≤ pair.1.id.slot
  pub near : is_near pair.0 pair.1 ≡ true

near_step : (bodies : List (Option Body)) (p q : Proxy) (t : Bool) (qs : List Proxy) → (t ≡ true → IsNearPair bodies (p, q)) → Each (IsNearPair bodies) (map (λ r. (p, r)) qs) → Each (IsNearPair bodies) (map (λ r. (p, r)) (cond t (q ∷ qs) qs))
near_step bodies p q true qs h rest = (h refl, rest)
near_step bodies p q false qs h rest = rest

with_are : (bodies : List (Option Body)) (p : Proxy) (qs : List Proxy) → IsProxyIn 0 bodies p → Each (IsProxyIn 0 bodies) qs → Each (IsFrom p.id.slot) qs → Each (IsNearPair bodies) (map (λ (other : Proxy). (p, other)) (filter (is_near p) qs))
with_are bodies p [] is are from = tt
with_are bodies p (q ∷ qs) is are from =
    near_step bodies p q (is_near p q) (filter (is_near p) qs) (λ e. record { first = is; second = are.0; order = from.0; near = e }) (with_are bodies p qs is are.1 from.1)

near_pairs_are : (bodies : List (Option Body)) (ps : List Proxy) → Each (IsProxyIn 0 bodies) ps → AreAscending ps → Each (IsNearPair bodies) (near_pairs ps)
near_pairs_are bodies [] are up = tt
near_pairs_are bodies (p ∷ ps) are up = each_append (IsNearPair bodies) (map (λ (other : Proxy). (p, other)) (filter (is_near p) ps)) (near_pairs ps) (with_are bodies p ps are.0 are.1 up.0) (near_pairs_are bodies ps are.1 up.1)

near_if : (same a b collide over : Bool) → cond same false (cond (a || b) (cond collide over false) false) ≡ true → (same ≡ false) × ((a ≡ true) ⊎ (b ≡ true))
near_if true a b collide over e = cc
near_if false true b collide over e = (refl, inl refl)
near_if false false true collide over e = (refl, inr refl)
near_if false false false collide over e = cc

-- shapes that are near are of different bodies, one of them dynamic at least
pub record AreApart (p q : Proxy) : Type 0 where
  pub slots : p.id.slot ≢ q.id.slot
  pub dynamic : (p.dynamic ≡ true) ⊎ (q.dynamic ≡ true)

pub near_apart : (p q : Proxy) → is_near p q ≡ true → AreApart p q
unfolding is_near
near_apart p q e = let t = near_if (p.id.slot == q.id.slot) p.dynamic q.dynamic (should_collide p.filter q.filter) (overlaps p.fat q.fat) e in record { slots = eqb-false _ _ t.0; dynamic = t.1 }

-- ---- the contact that is found by its key

abbrev HasContact : ContactEntry → Type 0
HasContact e = IsContact e.contact

found_within : (t : Bool) (e : ContactEntry) (o : Option ContactEntry) → HasContact e → ForSome o HasContact → ForSome (cond t (Some e) o) HasContact
found_within true e o is rest = λ x h. let same : e ≡ x = cc in subst HasContact same is
found_within false e o is rest = rest

pub lookup_within : (bodies : List (Option Body)) (old : List ContactEntry) (key : ContactKey) → AreContactsOf bodies old → ForSome (lookup old key) HasContact
lookup_within bodies [] key all = λ x e. cc
lookup_within bodies (e ∷ es) key all =
    found_within (number_of e == key_number key) e (lookup es key) (All-head (IsContactOf bodies) e es all).contact (lookup_within bodies es key (All-tail (IsContactOf bodies) e es all))

-- ---- the contact that is evaluated

record AreImpulses (i : Impulses) : Type 0 where
  normal_impulse_low : pos 0 ≤ℤ i.normal_impulse
  normal_impulse_high : unsigned_abs i.normal_impulse ≤ 2 ^ 42
  tangent_impulse : unsigned_abs i.tangent_impulse ≤ 2 ^ 43

chosen_within : (t : Bool) (i : Impulses) → AreImpulses i → ForSome (cond t (Some i) None) AreImpulses
chosen_within true i is = λ x e. let same : i ≡ x = cc in subst AreImpulses same is
chosen_within false i is = λ x e. cc

impulses_within : (o : Option ContactPoint) (candidate : ℕ) → ForSome o IsContactPoint → ForSome (impulses_at o candidate) AreImpulses
impulses_within None candidate h = λ x e. cc
impulses_within (Some p) candidate h =
    let is : IsContactPoint p = h p refl in
    chosen_within (p.candidate == candidate) (record { normal_impulse = p.normal_impulse; tangent_impulse = p.tangent_impulse }) (record { normal_impulse_low = is.normal_impulse_low; normal_impulse_high = is.normal_impulse_high; tangent_impulse = is.tangent_impulse })

first_within : (o other : Option Impulses) → ForSome o AreImpulses → ForSome other AreImpulses → AreImpulses (unwrap_or (option_or o other) no_impulses)
first_within (Some i) other h l = h i refl
first_within None (Some i) h l = l i refl
first_within None None h l = record { normal_impulse_low = omega arith; normal_impulse_high = omega arith; tangent_impulse = omega arith }

kept_within : (old : Option ContactEntry) (candidate : ℕ) → ForSome old HasContact → AreImpulses (kept old candidate)
kept_within None candidate h = record { normal_impulse_low = omega arith; normal_impulse_high = omega arith; tangent_impulse = omega arith }
kept_within (Some e) candidate h =
    let is : IsContact e.contact = h e refl in
    first_within (impulses_at e.contact.first candidate) (impulses_at e.contact.second candidate) (impulses_within e.contact.first candidate is.first) (impulses_within e.contact.second candidate is.second)

point_within : (old : Option ContactEntry) (p : Point) → ForSome old HasContact → IsPointWithin (2 ^ 27) p → IsContactPoint (kept_point old p)
point_within old p h is =
    let i = kept_within old p.candidate h in
    record { normal = is.normal; separation = is.separation; ra = is.ra; rb = is.rb; normal_impulse_low = i.normal_impulse_low; normal_impulse_high = i.normal_impulse_high; tangent_impulse = i.tangent_impulse }

second_within : (old : Option ContactEntry) (o : Option Point) → ForSome old HasContact → IfSome o (λ p. IsPointWithin (2 ^ 27) p) → ForSome (option_map (kept_point old) o) IsContactPoint
second_within old None h is = λ x e. cc
second_within old (Some p) h is = λ x e. let same : kept_point old p ≡ x = cc in subst IsContactPoint same (point_within old p h is)

apart_within : IsContact apart
apart_within = record { first = λ x e. cc; second = λ x e. cc }

touching_within : (old : Option ContactEntry) (m : Manifold) → ForSome old HasContact → IsPointWithin (2 ^ 27) m.first → IfSome m.second (λ p. IsPointWithin (2 ^ 27) p)
    → IsContact (record { first = Some (kept_point old m.first); second = option_map (kept_point old) m.second })
touching_within old m h first second = record {
  first = λ x e. let same : kept_point old m.first ≡ x = cc in subst IsContactPoint same (point_within old m.first h first);
  second = second_within old m.second h second;
}

either_within : (t : Bool) (c d : Contact) → IsContact c → (t ≡ false → IsContact d) → IsContact (cond t c d)
either_within true c d h l = h
either_within false c d h l = l refl

not_above : (z : ℤ) → int_lt (pos 0) z ≡ false → z ≤ℤ pos 0
not_above z e = grind (arith, common_steps)

-- its numbers are within their limits, where those of the manifold's points are, and those of the old contact
pub evaluated_within : (old : Option ContactEntry) (m : Manifold) → ForSome old HasContact → (m.first.separation ≤ℤ pos 0 → IsPointWithin (2 ^ 27) m.first) → IfSome m.second (λ p. IsPointWithin (2 ^ 27) p)
    → IsContact (evaluated old m)
unfolding evaluated
evaluated_within old m h first second =
    either_within (int_lt (pos 0) m.first.separation) apart (record { first = Some (kept_point old m.first); second = option_map (kept_point old) m.second }) apart_within
    (λ e. touching_within old m h (first (not_above m.first.separation e)) second)

-- a contact that is kept
contact_within : (o : Option ContactEntry) → ForSome o HasContact → IsContact (kept_contact o)
contact_within None h = apart_within
contact_within (Some e) h = h e refl

-- ---- all contacts

body_there : (bodies : List (Option Body)) (p : Proxy) (h : IsProxyIn 0 bodies p) → body_at bodies p.id.slot ≡ Some h.body
body_there bodies p h = let s : p.id.slot ≡ h.place = h.slot ∙ omega arith in rw s h.there

mover_if : (b : Body) → b.enabled ≡ true → is_dynamic b.kind ≡ true → is_mover b ≡ true
mover_if b on d = rw (on, d) refl

dynamic_moves : (bodies : List (Option Body)) (p : Proxy) → IsProxyIn 0 bodies p → p.dynamic ≡ true → moves bodies p.id.slot ≡ true
dynamic_moves bodies p h d = ap is_mover_in (body_there bodies p h) ∙ mover_if h.body h.is.enabled (sym h.is.dynamic ∙ d)

pub entry_within : (bodies : List (Option Body)) (old : List ContactEntry) (p q : Proxy) → IsProxyIn 0 bodies p → IsProxyIn 0 bodies q → is_near p q ≡ true → AreContactsOf bodies old → IsContactOf bodies (entry_of old p q)
unfolding entry_of entry_with
entry_within bodies old p q hp hq near all =
    let apart = near_apart p q near in
    let touching = has_touching p.shape p.pose q.shape q.pose hp.is.shape hp.is.pose hq.is.shape hq.is.pose in
    record {
      first = below_length bodies p.id.slot hp.body (body_there bodies p hp);
      second = below_length bodies q.id.slot hq.body (body_there bodies q hq);
      apart = apart.slots;
      mover = elim apart.dynamic [ inl d ↦ inl (dynamic_moves bodies p hp d) | inr d ↦ inr (dynamic_moves bodies q hq d) ];
      contact = either_within (one_stirs p q) (evaluated (lookup old (key_of p q)) (manifold_of p.shape p.pose q.shape q.pose)) (kept_contact (lookup old (key_of p q)))
          (evaluated_within (lookup old (key_of p q)) (manifold_of p.shape p.pose q.shape q.pose) (lookup_within bodies old (key_of p q) all) touching.first touching.second)
          (λ e. contact_within (lookup old (key_of p q)) (lookup_within bodies old (key_of p q) all));
    }

-- ---- the points of the contact that is evaluated

candidate_within : (old : Option ContactEntry) (o : Option Point) → IfSome o (λ p. IsPointWithin (2 ^ 27) p) → ForSome (option_map (kept_point old) o) (λ p. p.candidate ≤ 3)
candidate_within old None is = λ x e. cc
candidate_within old (Some p) is = λ x e. let same : kept_point old p ≡ x = cc in subst (λ (q : ContactPoint). q.candidate ≤ 3) same is.candidate

second_beside : (old : Option ContactEntry) (first : Point) (o : Option Point) → IfSome o (λ p. IsSecond first p) → (q : ContactPoint) → option_map (kept_point old) o ≡ Some q
    → (p : ContactPoint) × (Some (kept_point old first) ≡ Some p) × ((q.candidate == p.candidate) ≡ false)
second_beside old first None is q e = cc
second_beside old first (Some p) is q e =
    let same : kept_point old p ≡ q = cc in
    (kept_point old first, refl, subst (λ (r : ContactPoint). (r.candidate == first.candidate) ≡ false) same is.other)

apart_points : HasPoints apart
apart_points = record { first = λ x e. cc; second = λ x e. cc; beside = λ q e. cc }

either_points : (t : Bool) (c d : Contact) → HasPoints c → (t ≡ false → HasPoints d) → HasPoints (cond t c d)
either_points true c d h l = h
either_points false c d h l = l refl

pub evaluated_points : (old : Option ContactEntry) (m : Manifold) → (m.first.separation ≤ℤ pos 0 → IsPointWithin (2 ^ 27) m.first) → IfSome m.second (λ p. IsPointWithin (2 ^ 27) p) → IfSome m.second (λ p. IsSecond m.first p)
    → HasPoints (evaluated old m)
unfolding evaluated
evaluated_points old m first second other =
    either_points (int_lt (pos 0) m.first.separation) apart (record { first = Some (kept_point old m.first); second = option_map (kept_point old) m.second }) apart_points
    (λ e. record { first = candidate_within old (Some m.first) (first (not_above m.first.separation e)); second = candidate_within old m.second second; beside = second_beside old m.first m.second other })

-- the points of a contact that is kept
had_points : (o : Option ContactEntry) → ForSome o (λ e. HasPoints e.contact) → HasPoints (kept_contact o)
had_points None h = apart_points
had_points (Some e) h = h e refl

looked_if : (P : ContactEntry → Type 0) (t : Bool) (e : ContactEntry) (o : Option ContactEntry) → P e → ForSome o P → ForSome (cond t (Some e) o) P
looked_if P true e o is rest = λ x h. let same : e ≡ x = cc in subst P same is
looked_if P false e o is rest = rest

looked_up : (P : ContactEntry → Type 0) (es : List ContactEntry) (key : ContactKey) → All P es → ForSome (lookup es key) P
looked_up P [] key all = λ x h. cc
looked_up P (e ∷ es) key all = looked_if P (number_of e == key_number key) e (lookup es key) (All-head P e es all) (looked_up P es key (All-tail P e es all))

shapes_on : (b : Body) (index : ℕ) → b.enabled ≡ true → index < length b.shapes → index < shapes_in (Some b)
shapes_on b index on h = rw on h

shape_of : (bodies : List (Option Body)) (p : Proxy) → IsProxyIn 0 bodies p → p.id.index < shapes_in (body_at bodies p.id.slot)
shape_of bodies p h = subst (λ (o : Option Body). p.id.index < shapes_in o) (sym (body_there bodies p h)) (shapes_on h.body p.id.index h.is.enabled h.is.own)

-- ---- the surface

on_body : (b : Body) (index : ℕ) → b.enabled ≡ true → shape_of_body (Some b) index ≡ slice_get b.shapes index
on_body b index on = ap (λ (t : Bool). cond t (slice_get b.shapes index) None) on

named_shape : (bodies : List (Option Body)) (p : Proxy) (h : IsProxyIn 0 bodies p) → shape_with_id bodies p.id ≡ Some h.is.form
named_shape bodies p h = ap (λ (o : Option Body). shape_of_body o p.id.index) (body_there bodies p h) ∙ on_body h.body p.id.index h.is.enabled ∙ h.is.formed

both_pass : (s t u v : Bool) → s ≡ true → t ≡ true → u ≡ true → v ≡ true → ((s && t) && (u && v)) ≡ true
both_pass s t u v a b c d = rw (a, b, c, d) refl

not_negative : (z : ℤ) → pos 0 ≤ℤ z → int_le (pos 0) z ≡ true
not_negative z h = grind (arith, ints, nat_tests, common_steps)

-- the numbers of a shape are within their limits
good_surface : (d : ShapeDef) → IsShapeDef d → is_surface (surface_of d) ≡ true
good_surface d is =
    let friction = is.friction_small in
    let restitution = is.restitution_small in
    both_pass (int_le (pos 0) d.friction) (nat_le (unsigned_abs d.friction) MAX_FRICTION) (int_le (pos 0) d.restitution) (nat_le (unsigned_abs d.restitution) MAX_RESTITUTION)
    (not_negative d.friction is.friction) (le-leb (unsigned_abs d.friction) MAX_FRICTION (omega (arith, friction)))
    (not_negative d.restitution is.restitution) (le-leb (unsigned_abs d.restitution) MAX_RESTITUTION (omega (arith, restitution)))

good_mixed : (a b : Surface) → is_surface a ≡ true → is_surface b ≡ true → mixed_surface a b ≡ mixed a b
good_mixed a b e f = ap₂ (λ (s t : Bool). cond (s && t) (mixed a b) no_surface) e f

-- a new contact has what the surfaces of its two shapes mix to
new_surface : (bodies : List (Option Body)) (p q : Proxy) → IsProxyIn 0 bodies p → IsProxyIn 0 bodies q → mixed p.surface q.surface ≡ mixed_of (shape_with_id bodies p.id) (shape_with_id bodies q.id)
new_surface bodies p q hp hq =
    ap₂ (λ (s t : Surface). mixed s t) hp.is.surface hq.is.surface
    ∙ sym (good_mixed (surface_of hp.is.form) (surface_of hq.is.form) (good_surface hp.is.form hp.is.allowed) (good_surface hq.is.form hq.is.allowed))
    ∙ sym (ap₂ mixed_of (named_shape bodies p hp) (named_shape bodies q hq))

number_if : (t : Bool) (e : ContactEntry) (o : Option ContactEntry) (key : ContactKey) → (number_of e == key_number key) ≡ t → ForSome o (λ x. number_of x ≡ key_number key) → ForSome (cond t (Some e) o) (λ x. number_of x ≡ key_number key)
number_if true e o key is rest = λ x h. let same : e ≡ x = cc in subst (λ (y : ContactEntry). number_of y ≡ key_number key) same (same_from (number_of e) (key_number key) is)
number_if false e o key is rest = rest

-- a contact that is found by a key has the key's number
number_looked_up : (es : List ContactEntry) (key : ContactKey) → ForSome (lookup es key) (λ x. number_of x ≡ key_number key)
number_looked_up [] key = λ x h. cc
number_looked_up (e ∷ es) key = number_if (number_of e == key_number key) e (lookup es key) key refl (number_looked_up es key)

-- and so it is that of the two shapes
old_surface : (bodies : List (Option Body)) (old : List ContactEntry) (p q : Proxy) → All (HasBodies bodies) old → IsKeyWithin (key_of p q) → (e : ContactEntry) → lookup old (key_of p q) ≡ Some e → e.surface ≡ mixed_of (shape_with_id bodies p.id) (shape_with_id bodies q.id)
old_surface bodies old p q all named e at =
    let has : HasBodies bodies e = looked_up (HasBodies bodies) old (key_of p q) all e at in
    let same : e.key ≡ key_of p q = same_key e.key (key_of p q) has.named named (number_looked_up old (key_of p q) e at) in
    has.surface ∙ ap (λ (k : ContactKey). mixed_of (shape_with_id bodies k.first) (shape_with_id bodies k.second)) same

either_surface : (o : Option ContactEntry) (p q : Proxy) (s : Surface) → mixed p.surface q.surface ≡ s → ((e : ContactEntry) → o ≡ Some e → e.surface ≡ s) → surface_with o p q ≡ s
either_surface None p q s new kept = new
either_surface (Some e) p q s new kept = kept e refl

-- the bodies of both its shapes are there, and the shapes are theirs
pub entry_has_bodies : (bodies : List (Option Body)) (old : List ContactEntry) (p q : Proxy) → length bodies ≤ MAX_SLOTS → All (HasBodies bodies) old → IsProxyIn 0 bodies p → IsProxyIn 0 bodies q → p.id.slot < q.id.slot → HasBodies bodies (entry_of old p q)
unfolding entry_of entry_with
entry_has_bodies bodies old p q few all hp hq order =
    let touching = has_touching p.shape p.pose q.shape q.pose hp.is.shape hp.is.pose hq.is.shape hq.is.pose in
    let a = hp.is.index in
    let b = hq.is.index in
    let slot = below_length bodies q.id.slot hq.body (body_there bodies q hq) in
    let named : IsKeyWithin (key_of p q) = record { first = omega (arith, a); second = omega (arith, b); slot = omega (arith, slot, few) } in
    record {
      first = ap is_some (body_there bodies p hp);
      second = ap is_some (body_there bodies q hq);
      first_shape = shape_of bodies p hp;
      second_shape = shape_of bodies q hq;
      order = order;
      surface = either_surface (lookup old (key_of p q)) p q (mixed_of (shape_with_id bodies p.id) (shape_with_id bodies q.id)) (new_surface bodies p q hp hq) (old_surface bodies old p q all named);
      named = named;
      points = either_points (one_stirs p q) (evaluated (lookup old (key_of p q)) (manifold_of p.shape p.pose q.shape q.pose)) (kept_contact (lookup old (key_of p q)))
          (evaluated_points (lookup old (key_of p q)) (manifold_of p.shape p.pose q.shape q.pose) touching.first touching.second (manifold_has_second p.shape p.pose q.shape q.pose (manifold_of p.shape p.pose q.shape q.pose) refl))
          (λ e. had_points (lookup old (key_of p q)) (looked_up (λ e. HasPoints e.contact) old (key_of p q) (All-weaker (HasBodies bodies) (λ e. HasPoints e.contact) (λ e h. h.points) old all)));
    }

-- what holds of the contact of each two near shapes of bodies, the first in no greater slot, holds of all contacts
pub all_after : (P : ContactEntry → Type 0) (bodies : List (Option Body)) (joints : List (Option BodyJoint)) (old : List ContactEntry) → AreBodies bodies
    → ((p q : Proxy) → IsProxyIn 0 bodies p → IsProxyIn 0 bodies q → p.id.slot ≤ q.id.slot → is_near p q ≡ true → P (entry_of old p q)) → All P (contacts_after bodies joints old)
unfolding contacts_after contacts_between
all_after P bodies joints old all each =
    let pairs : List (Proxy × Proxy) = near_pairs (proxies_of bodies) in
    let are : All (IsNearPair bodies) pairs = all_from_each (IsNearPair bodies) pairs (near_pairs_are bodies (proxies_of bodies) (proxies_are 0 bodies all) (proxies_ascend 0 bodies)) in
    let each_pair : All (λ pair. P (entry_of old pair.0 pair.1)) pairs = All-weaker (IsNearPair bodies) (λ pair. P (entry_of old pair.0 pair.1)) (λ pair h. each pair.0 pair.1 h.first h.second h.order h.near) pairs are in
    All-map P (λ (pair : Proxy × Proxy). entry_of old pair.0 pair.1) (filter (λ (pair : Proxy × Proxy). not (is_forbidden (forbidden_pairs joints) pair.0 pair.1)) pairs) (All-filter (λ (pair : Proxy × Proxy). not (is_forbidden (forbidden_pairs joints) pair.0 pair.1)) (λ pair. P (entry_of old pair.0 pair.1)) pairs each_pair)

pub contacts_of_after : (bodies : List (Option Body)) (joints : List (Option BodyJoint)) (old : List ContactEntry) → AreBodies bodies → AreContactsOf bodies old → AreContactsOf bodies (contacts_after bodies joints old)
contacts_of_after bodies joints old all pairs =
    all_after (IsContactOf bodies) bodies joints old all (λ p q hp hq up near. entry_within bodies old p q hp hq near pairs)

pub has_bodies_after : (bodies : List (Option Body)) (joints : List (Option BodyJoint)) (old : List ContactEntry) → AreBodies bodies → length bodies ≤ MAX_SLOTS → All (HasBodies bodies) old → All (HasBodies bodies) (contacts_after bodies joints old)
has_bodies_after bodies joints old all few there =
    all_after (HasBodies bodies) bodies joints old all (λ p q hp hq up near. let apart = (near_apart p q near).slots in entry_has_bodies bodies old p q few there hp hq (omega (arith, up, apart)))
