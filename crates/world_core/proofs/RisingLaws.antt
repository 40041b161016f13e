-- The shapes that a collide reads ascend, and so do the contacts that it leaves.
use Rattle.std.proofs.Common.{◌≡◌, ℕ, suc, ◌+◌, ◌*◌, ◌<◌, ◌≤◌, Bool, true, false, cond, All, List, [], ◌∷◌, ◌++◌, length, map, Option, Some, None, refl, sym, ap, ◌∙◌, arith, subst}
use Rattle.std.proofs.lemmas.List.{map-append}
use Rattle.std.proofs.lemmas.List.Elements.{All-head, All-tail}
use Rattle.std.specs.Option.{option_map_or}
use Rattle.fixed_geom.specs.declared.boxes.Box2.{Box2}
use Rattle.body_handles.specs.declared.slot_table.TheConstants.{MAX_SLOTS}
use Rattle.shapes.specs.Shapes.{IsShapeDef}
use Rattle.shapes.specs.declared.pose.Pose.{Pose}
use Rattle.shapes.specs.declared.shape.ShapeDef.{ShapeDef}
use Rattle.shapes.specs.Poses.{IsPose}
use Rattle.contacts_base.specs.Contacts.{AreKeysRising}
use Rattle.contacts_base.specs.Proxies.{IsProxy, IsProxyList, number_of}
use Rattle.contacts_base.specs.declared.contact.ContactEntry.{ContactEntry}
use Rattle.contacts_base.specs.declared.near.Proxy.{Proxy}
use Rattle.contacts.specs.ByCodes.{contacts_of, allowed_codes}
use Rattle.contacts.proofs.ByPairsLaws.{contacts_by_codes-holds}
use Rattle.contacts.proofs.ChangeLemmas.{contacts_rise}
use Rattle.contacts.proofs.ForbiddenLemmas.{allowed_are_pairs}
use Rattle.contacts_base.proofs.Members.{Each, all_from_each, each_append}
use Rattle.contacts_base.proofs.Rising.{IsRising, increasing_from_rising, rising_append}
use Rattle.plain_world.specs.declared.body.Body.{Body}
use Rattle.plain_world.specs.declared.joint.BodyJoint.{BodyJoint}
use Rattle.plain_world.specs.Bodies.{AreBodies, IsBody, pose_of, stirs}
use Rattle.plain_world.specs.Joints.{forbidden_pairs}
use Rattle.plain_world.specs.Kinds.{is_dynamic}
use Rattle.world_core.proofs.CollideLaws.{contacts_are_after, eight_at_most}
use Rattle.world_rules.specs.Collide.{contacts_after, proxies_from, proxies_of, shape_proxies, body_proxies}

-- a shape of the body in the slot
record IsWithin (slot : ℕ) (p : Proxy) : Type 0 where
  is : IsProxy p
  low : slot * 256 ≤ number_of p
  high : number_of p < (slot + 1) * 256

-- ---- the shapes of a body

shapes_within : (slot : ℕ) (dynamic stirs : Bool) (pose : Pose) (index : ℕ) (defs : List ShapeDef) (fats : List Box2) → slot < MAX_SLOTS → IsPose pose → index + length defs ≤ 8 → All IsShapeDef defs
    → Each (IsWithin slot) (shape_proxies slot dynamic stirs pose index defs fats)
shapes_within slot dynamic stirs pose index [] fats lt is few forms = tt
shapes_within slot dynamic stirs pose index (d ∷ defs) [] lt is few forms = tt
shapes_within slot dynamic stirs pose index (d ∷ defs) (fat ∷ fats) lt is few forms =
    let form : IsShapeDef d = All-head IsShapeDef d defs forms in (
      record {
        is = record { shape = form.shape; pose = is; surface = record { friction = form.friction; friction_small = form.friction_small; restitution = form.restitution; restitution_small = form.restitution_small }; slot = lt; index = omega (arith, few) };
        low = omega arith;
        high = omega (arith, few);
      },
      shapes_within slot dynamic stirs pose (suc index) defs fats lt is (omega (arith, few)) (All-tail IsShapeDef d defs forms),
    )

above : (b slot : ℕ) (dynamic stirs : Bool) (pose : Pose) (index : ℕ) (defs : List ShapeDef) (fats : List Box2) → b < slot * 256 + index → Each (λ n. b < n) (map number_of (shape_proxies slot dynamic stirs pose index defs fats))
above b slot dynamic stirs pose index [] fats lt = tt
above b slot dynamic stirs pose index (d ∷ defs) [] lt = tt
above b slot dynamic stirs pose index (d ∷ defs) (fat ∷ fats) lt = (lt, above b slot dynamic stirs pose (suc index) defs fats (omega (arith, lt)))

shapes_rise : (slot : ℕ) (dynamic stirs : Bool) (pose : Pose) (index : ℕ) (defs : List ShapeDef) (fats : List Box2) → IsRising (map number_of (shape_proxies slot dynamic stirs pose index defs fats))
shapes_rise slot dynamic stirs pose index [] fats = tt
shapes_rise slot dynamic stirs pose index (d ∷ defs) [] = tt
shapes_rise slot dynamic stirs pose index (d ∷ defs) (fat ∷ fats) = (above (slot * 256 + index) slot dynamic stirs pose (suc index) defs fats (omega arith), shapes_rise slot dynamic stirs pose (suc index) defs fats)

-- the shapes in a slot are within it, and ascend
abbrev AreOf : ℕ → List Proxy → Type 0
AreOf slot ps = Each (IsWithin slot) ps × IsRising (map number_of ps)

of_body : (slot : ℕ) (b : Body) (t : Bool) → slot < MAX_SLOTS → IsBody b → AreOf slot (cond t (shape_proxies slot (is_dynamic b.kind) (stirs b) (pose_of b) 0 b.shapes b.fats) [])
of_body slot b true lt is =
    let few = eight_at_most _ _ is.shapes in (
      shapes_within slot (is_dynamic b.kind) (stirs b) (pose_of b) 0 b.shapes b.fats lt (record { x = is.motion.x; rot = is.motion.facing }) (omega (arith, few)) is.forms,
      shapes_rise slot (is_dynamic b.kind) (stirs b) (pose_of b) 0 b.shapes b.fats,
    )
of_body slot b false lt is = (tt, tt)

of_entry : (slot : ℕ) (o : Option Body) → slot < MAX_SLOTS → ((b : Body) → o ≡ Some b → IsBody b) → AreOf slot (option_map_or (body_proxies slot) o [])
of_entry slot None lt is = (tt, tt)
of_entry slot (Some b) lt is = of_body slot b b.enabled lt (is b refl)

-- ---- the shapes of all bodies

-- those of the bodies from a slot on
record AreFrom (slot : ℕ) (ps : List Proxy) : Type 0 where
  each : Each IsProxy ps
  rising : IsRising (map number_of ps)
  above : Each (λ n. slot * 256 ≤ n) (map number_of ps)

each_proxy : (slot : ℕ) (ps : List Proxy) → Each (IsWithin slot) ps → Each IsProxy ps
each_proxy slot [] h = tt
each_proxy slot (p ∷ ps) h = (h.0.is, each_proxy slot ps h.1)

each_low : (slot : ℕ) (ps : List Proxy) → Each (IsWithin slot) ps → Each (λ n. slot * 256 ≤ n) (map number_of ps)
each_low slot [] h = tt
each_low slot (p ∷ ps) h = (h.0.low, each_low slot ps h.1)

each_high : (slot : ℕ) (ps : List Proxy) → Each (IsWithin slot) ps → Each (λ n. n < (slot + 1) * 256) (map number_of ps)
each_high slot [] h = tt
each_high slot (p ∷ ps) h = (h.0.high, each_high slot ps h.1)

lower : (slot : ℕ) (ns : List ℕ) → Each (λ n. (slot + 1) * 256 ≤ n) ns → Each (λ n. slot * 256 ≤ n) ns
lower slot [] h = tt
lower slot (n ∷ ns) h = (let le = h.0 in omega (arith, le), lower slot ns h.1)

joined : (slot : ℕ) (ps qs : List Proxy) → AreOf slot ps → AreFrom (slot + 1) qs → AreFrom slot (ps ++ qs)
joined slot ps qs h k = record {
  each = each_append IsProxy ps qs (each_proxy slot ps h.0) k.each;
  rising = rw (map-append number_of ps qs) (rising_append ((slot + 1) * 256) (map number_of ps) (map number_of qs) h.1 k.rising (each_high slot ps h.0) k.above);
  above = rw (map-append number_of ps qs) (each_append (λ n. slot * 256 ≤ n) (map number_of ps) (map number_of qs) (each_low slot ps h.0) (lower slot (map number_of qs) k.above));
}

all_from : (slot : ℕ) (bodies : List (Option Body)) → slot + length bodies ≤ MAX_SLOTS → AreBodies bodies → AreFrom slot (proxies_from slot bodies)
all_from slot [] few all = record { each = tt; rising = tt; above = tt }
all_from slot (o ∷ bodies) few all =
    let rest : AreFrom (suc slot) (proxies_from (suc slot) bodies) = all_from (suc slot) bodies (omega (arith, few)) (λ k b e. all (suc k) b e) in
    joined slot (option_map_or (body_proxies slot) o []) (proxies_from (suc slot) bodies) (of_entry slot o (omega (arith, few)) (λ b e. all 0 b (ap Some e)))
    (subst (λ (n : ℕ). AreFrom n (proxies_from (suc slot) bodies)) (omega arith) rest)

-- they are the shapes that a broad phase takes
pub are_proxies : (bodies : List (Option Body)) → length bodies ≤ MAX_SLOTS → AreBodies bodies → IsProxyList (proxies_of bodies)
are_proxies bodies few all =
    let from : AreFrom 0 (proxies_of bodies) = all_from 0 bodies (omega (arith, few)) all in
    record { each = all_from_each IsProxy (proxies_of bodies) from.each; rising = increasing_from_rising (map number_of (proxies_of bodies)) from.rising }

-- the contacts that a collide leaves, by the codes of their pairs
pub after_by_codes : (bodies : List (Option Body)) (joints : List (Option BodyJoint)) (old : List ContactEntry) → length bodies ≤ MAX_SLOTS → AreBodies bodies → contacts_after bodies joints old ≡ contacts_of old (proxies_of bodies) (allowed_codes (forbidden_pairs joints) (proxies_of bodies))
after_by_codes bodies joints old few all = sym (contacts_are_after bodies joints old) ∙ contacts_by_codes-holds (forbidden_pairs joints) (proxies_of bodies) old (are_proxies bodies few all)

-- they ascend
pub contacts_after_rise : (bodies : List (Option Body)) (joints : List (Option BodyJoint)) (old : List ContactEntry) → length bodies ≤ MAX_SLOTS → AreBodies bodies → AreKeysRising (contacts_after bodies joints old)
contacts_after_rise bodies joints old few all =
    let are : IsProxyList (proxies_of bodies) = are_proxies bodies few all in
    subst AreKeysRising (sym (after_by_codes bodies joints old few all)) (contacts_rise old (proxies_of bodies) (allowed_codes (forbidden_pairs joints) (proxies_of bodies)) are (allowed_are_pairs (forbidden_pairs joints) (proxies_of bodies) are))
