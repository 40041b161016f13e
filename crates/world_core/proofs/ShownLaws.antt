-- Bodies that show the broad phase the same shapes are near the same others.
use Rattle.std.proofs.Common.{◌≡◌, ℕ, zero, suc, ◌<◌, Bool, true, false, cond, not, List, [], ◌∷◌, Option, Some, None, refl, sym, ap, ◌∙◌, subst}
use Rattle.std.specs.List.{list_any}
use Rattle.fixed_geom.specs.declared.boxes.Box2.{Box2}
use Rattle.shapes.specs.declared.pose.Pose.{Pose}
use Rattle.shapes.specs.declared.shape.ShapeDef.{ShapeDef}
use Rattle.contacts_base.specs.Keys.{id_number}
use Rattle.contacts_base.specs.Near.{is_near}
use Rattle.contacts_base.specs.declared.key.ContactKey.{ContactKey}
use Rattle.contacts_base.specs.declared.key.ShapeId.{ShapeId}
use Rattle.contacts_base.specs.declared.near.Proxy.{Proxy}
use Rattle.contacts_base.specs.declared.body_pair.BodyPair.{BodyPair}
use Rattle.contacts_base.specs.Forbidden.{is_forbidden, is_pair_of}
use Rattle.contacts.specs.Known.{IsPairKey, both_near, found, may_touch, near_key}
use Rattle.plain_world.specs.declared.body.Body.{Body}
use Rattle.plain_world.specs.Bodies.{AreBodies, pose_of, stirs}
use Rattle.plain_world.specs.Kinds.{is_dynamic}
use Rattle.plain_world.specs.Shown.{IsShownAlike}
use Rattle.plain_world.specs.Slots.{body_at}
use Rattle.world_core_base.specs.Marked.{AreShownAlike}
use Rattle.world_core.specs.Named.{shape_at, shape_in, shape_of}
use Rattle.world_core.proofs.NamedLaws.{found_in}
use Rattle.world_rules.specs.Collide.{proxies_of}

-- ---- one shape

-- two shapes of one name that are near the same others
pub record IsAlike (i : ShapeId) (p q : Proxy) : Type 0 where
  pub first : p.id ≡ i
  pub second : q.id ≡ i
  pub fat : p.fat ≡ q.fat
  pub filter : p.filter ≡ q.filter
  pub dynamic : p.dynamic ≡ q.dynamic

-- both are there and alike, or neither is there
abbrev pub AreAlikeAt : ShapeId → Option Proxy → Option Proxy → Type 0
AreAlikeAt i None None = Unit {0}
AreAlikeAt i None (Some q) = ⊥
AreAlikeAt i (Some p) None = ⊥
AreAlikeAt i (Some p) (Some q) = IsAlike i p q

-- its pose, and whether its body stirs, don't matter
shapes_alike : (i : ShapeId) (dynamic s t : Bool) (o r : Pose) (k : ℕ) (defs : List ShapeDef) (fats : List Box2) → AreAlikeAt i (shape_at i dynamic s o k defs fats) (shape_at i dynamic t r k defs fats)
shapes_alike i dynamic s t o r k [] fats = tt
shapes_alike i dynamic s t o r k (d ∷ defs) [] = tt
shapes_alike i dynamic s t o r zero (d ∷ defs) (fat ∷ fats) = record { first = refl; second = refl; fat = refl; filter = refl; dynamic = refl }
shapes_alike i dynamic s t o r (suc k) (d ∷ defs) (fat ∷ fats) = shapes_alike i dynamic s t o r k defs fats

alike_if : (i : ShapeId) (t : Bool) (o r : Option Proxy) → AreAlikeAt i o r → AreAlikeAt i (cond t o None) (cond t r None)
alike_if i true o r h = h
alike_if i false o r h = tt

-- ---- one body

abbrev shape_with : ShapeId → Bool → Bool → Bool → Pose → List ShapeDef → List Box2 → Option Proxy
shape_with i on dynamic s o defs fats = cond on (shape_at i dynamic s o i.index defs fats) None

body_alike : (i : ShapeId) (b c : Body) → IsShownAlike b c → AreAlikeAt i (shape_of i b) (shape_of i c)
body_alike i b c a =
    let same : shape_with i b.enabled (is_dynamic b.kind) (stirs c) (pose_of c) b.shapes b.fats ≡ shape_of i c = λ j. shape_with i (a.enabled j) (a.dynamic j) (stirs c) (pose_of c) (a.shapes j) (a.fats j) in
    subst (λ (o : Option Proxy). AreAlikeAt i (shape_of i b) o) same
    (alike_if i b.enabled (shape_at i (is_dynamic b.kind) (stirs b) (pose_of b) i.index b.shapes b.fats) (shape_at i (is_dynamic b.kind) (stirs c) (pose_of c) i.index b.shapes b.fats) (shapes_alike i (is_dynamic b.kind) (stirs b) (stirs c) (pose_of b) (pose_of c) i.index b.shapes b.fats))

entry_alike : (i : ShapeId) (o r : Option Body) → AreShownAlike o r → AreAlikeAt i (shape_in i o) (shape_in i r)
entry_alike i None None h = tt
entry_alike i None (Some c) h = absurd h
entry_alike i (Some b) None h = absurd h
entry_alike i (Some b) (Some c) h = body_alike i b c h

-- the shape with a name, found among those of all bodies
pub found_alike : (old new : List (Option Body)) (i : ShapeId) → AreBodies old → AreBodies new → i.index < 256 → AreShownAlike (body_at old i.slot) (body_at new i.slot) → AreAlikeAt i (found (proxies_of old) (id_number i)) (found (proxies_of new) (id_number i))
found_alike old new i before after small h =
    subst (λ (o : Option Proxy). AreAlikeAt i o (found (proxies_of new) (id_number i))) (sym (found_in old i before small))
    (subst (λ (o : Option Proxy). AreAlikeAt i (shape_in i (body_at old i.slot)) o) (sym (found_in new i after small)) (entry_alike i (body_at old i.slot) (body_at new i.slot) h))

-- ---- two shapes

near_alike : (i j : ShapeId) (p q r s : Proxy) → IsAlike i p r → IsAlike j q s → is_near p q ≡ is_near r s
unfolding is_near
near_alike i j p q r s a b = rw (a.first, a.second, b.first, b.second, a.fat, b.fat, a.filter, b.filter, a.dynamic, b.dynamic) refl

forbidden_named : (pairs : List BodyPair) (i j : ShapeId) (p q : Proxy) → p.id ≡ i → q.id ≡ j → is_forbidden pairs p q ≡ list_any (is_pair_of i.slot j.slot) pairs
forbidden_named pairs i j p q a b = λ k. list_any (is_pair_of (a k).slot (b k).slot) pairs

touch_alike : (pairs later : List BodyPair) (i j : ShapeId) (p q r s : Proxy) → list_any (is_pair_of i.slot j.slot) later ≡ list_any (is_pair_of i.slot j.slot) pairs → IsAlike i p r → IsAlike j q s → may_touch pairs p q ≡ may_touch later r s
touch_alike pairs later i j p q r s same a b =
    let forbidden : is_forbidden pairs p q ≡ is_forbidden later r s = forbidden_named pairs i j p q a.first b.first ∙ sym same ∙ sym (forbidden_named later i j r s a.second b.second) in
    ap (λ (t : Bool). cond t (not (is_forbidden pairs p q)) false) (near_alike i j p q r s a b) ∙ ap (λ (t : Bool). cond (is_near r s) (not t) false) forbidden

both_alike : (pairs later : List BodyPair) (i j : ShapeId) (o r u v : Option Proxy) → list_any (is_pair_of i.slot j.slot) later ≡ list_any (is_pair_of i.slot j.slot) pairs → AreAlikeAt i o u → AreAlikeAt j r v → both_near pairs o r ≡ both_near later u v
both_alike pairs later i j None r None v same a b = refl
both_alike pairs later i j None r (Some u) v same a b = absurd a
both_alike pairs later i j (Some p) r None v same a b = absurd a
both_alike pairs later i j (Some p) None (Some u) None same a b = refl
both_alike pairs later i j (Some p) None (Some u) (Some v) same a b = absurd b
both_alike pairs later i j (Some p) (Some q) (Some u) None same a b = absurd b
both_alike pairs later i j (Some p) (Some q) (Some u) (Some v) same a b = touch_alike pairs later i j p q u v same a b

-- two shapes are as near as before, if both bodies show the same and nothing keeps the two from colliding that didn't
-- before
pub near_same : (old new : List (Option Body)) (pairs later : List BodyPair) (k : ContactKey) → AreBodies old → AreBodies new → IsPairKey k → AreShownAlike (body_at old k.first.slot) (body_at new k.first.slot) → AreShownAlike (body_at old k.second.slot) (body_at new k.second.slot)
    → list_any (is_pair_of k.first.slot k.second.slot) later ≡ list_any (is_pair_of k.first.slot k.second.slot) pairs → near_key later (proxies_of new) k ≡ near_key pairs (proxies_of old) k
near_same old new pairs later k before after pair a b same =
    sym (both_alike pairs later k.first k.second _ _ _ _ same (found_alike old new k.first before after pair.first_index a) (found_alike old new k.second before after pair.second_index b))
