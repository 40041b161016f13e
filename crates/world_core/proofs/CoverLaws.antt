-- The slots of all bodies with a shape whose fat box overlaps a box are among those whose own box does.
use Rattle.std.proofs.Common.{◌≡◌, ℕ, zero, suc, ◌+◌, Bool, true, false, cond, All, List, [], ◌∷◌, Option, Some, None, Result, Ok, Err, refl, ap, ◌∙◌, subst, arith}
use Rattle.std.specs.Prelude.{IfOk}
use Rattle.std.specs.List.{Contains}
use Rattle.std.proofs.lemmas.List.Elements.{All-head, All-tail}
use Rattle.std.specs.Option.{option_map_or}
use Rattle.fixed_geom.specs.Boxes.{overlaps}
use Rattle.fixed_geom.specs.Boxes as boxes
use Rattle.fixed_geom.specs.declared.boxes.Box2.{Box2}
use Rattle.shapes.specs.declared.pose.Pose.{Pose}
use Rattle.shapes.specs.declared.shape.ShapeDef.{ShapeDef}
use Rattle.box_tree.specs.BoxLists.{box_at, keys_over}
use Rattle.box_tree_base.proofs.WalkLemmas.{overlaps_within}
use Rattle.contacts_base.proofs.Members.{Each, IsIn, all_from_each, contains_from_in, each_append, in_new, in_passed}
use Rattle.contacts_base.specs.declared.near.Proxy.{Proxy}
use Rattle.plain_world.specs.declared.body.Body.{Body}
use Rattle.plain_world.specs.Bodies.{pose_of, stirs}
use Rattle.plain_world.specs.Kinds.{is_dynamic}
use Rattle.plain_world.specs.Slots.{body_at}
use Rattle.world_core_base.specs.Covers.{AreCovered, HoldsAll, IsCover, IsCovered}
use Rattle.world_rules.specs.Collide.{proxies_from, proxies_of, shape_proxies, body_proxies}

-- ---- the keys over a box

keys_step : (t : Bool) (k n : ℕ) (ks : List ℕ) → IsIn k ks → IsIn k (cond t (n ∷ ks) ks)
keys_step t k n ks h = in_passed k n t ks h

key_in : (b : Box2) (n slot : ℕ) (bs : List (Option Box2)) (outer : Box2) → box_at bs slot ≡ Some outer → overlaps outer b ≡ true → IsIn (n + slot) (keys_over b n bs)
key_in b n slot [] outer at on = cc
key_in b n zero (None ∷ bs) outer at on = cc
key_in b n zero (Some o ∷ bs) outer at on =
    let same : o ≡ outer = cc in
    in_new (n + zero) n (overlaps o b) (keys_over b (suc n) bs) (ap (λ (x : Box2). overlaps x b) same ∙ on) (omega arith)
key_in b n (suc slot) (None ∷ bs) outer at on = subst (λ (k : ℕ). IsIn k (keys_over b (suc n) bs)) (omega arith) (key_in b (suc n) slot bs outer at on)
key_in b n (suc slot) (Some o ∷ bs) outer at on =
    keys_step (overlaps o b) (n + suc slot) n (keys_over b (suc n) bs) (subst (λ (k : ℕ). IsIn k (keys_over b (suc n) bs)) (omega arith) (key_in b (suc n) slot bs outer at on))

-- ---- the shapes of one body

-- if the shape's fat box overlaps the wanted one, its body's slot is among the keys
abbrev IsListed : Box2 → List ℕ → Proxy → Type 0
IsListed wanted keys p = overlaps p.fat wanted ≡ true → IsIn p.id.slot keys

wider_if : (t u : Bool) → (t ≡ false → u ≡ false) → u ≡ true → t ≡ true
wider_if true u f on = refl
wider_if false u f on = let off : u ≡ false = f refl in cc

wider : (outer inner wanted : Box2) → boxes.Contains outer inner → overlaps inner wanted ≡ true → overlaps outer wanted ≡ true
wider outer inner wanted holds on = wider_if (overlaps outer wanted) (overlaps inner wanted) (overlaps_within outer inner wanted holds) on

shapes_listed : (wanted outer : Box2) (bs : List (Option Box2)) (slot : ℕ) (dynamic stir : Bool) (pose : Pose) (index : ℕ) (defs : List ShapeDef) (fats : List Box2) → box_at bs slot ≡ Some outer → HoldsAll outer fats
    → Each (IsListed wanted (keys_over wanted 0 bs)) (shape_proxies slot dynamic stir pose index defs fats)
shapes_listed wanted outer bs slot dynamic stir pose index [] fats at holds = tt
shapes_listed wanted outer bs slot dynamic stir pose index (d ∷ defs) [] at holds = tt
shapes_listed wanted outer bs slot dynamic stir pose index (d ∷ defs) (fat ∷ fats) at holds = (
  λ on.
      let first : boxes.Contains outer fat = All-head (λ (x : Box2). boxes.Contains outer x) fat fats holds in
      subst (λ (k : ℕ). IsIn k (keys_over wanted 0 bs)) (omega arith) (key_in wanted 0 slot bs outer at (wider outer fat wanted first on)),
  shapes_listed wanted outer bs slot dynamic stir pose (suc index) defs fats at (All-tail (λ (x : Box2). boxes.Contains outer x) fat fats holds),
)

listed_if : (wanted : Box2) (keys : List ℕ) (t : Bool) (ps : List Proxy) → Each (IsListed wanted keys) ps → Each (IsListed wanted keys) (cond t ps [])
listed_if wanted keys true ps h = h
listed_if wanted keys false ps h = tt

cover_listed : (wanted : Box2) (bs : List (Option Box2)) (slot : ℕ) (b : Body) (o : Option Box2) → box_at bs slot ≡ o → IsCover o b.fats → Each (IsListed wanted (keys_over wanted 0 bs)) (option_map_or (body_proxies slot) (Some b) [])
cover_listed wanted bs slot b None at cover = absurd cover
cover_listed wanted bs slot b (Some outer) at cover =
    listed_if wanted (keys_over wanted 0 bs) b.enabled (shape_proxies slot (is_dynamic b.kind) (stirs b) (pose_of b) 0 b.shapes b.fats) (shapes_listed wanted outer bs slot (is_dynamic b.kind) (stirs b) (pose_of b) 0 b.shapes b.fats at cover)

entry_listed : (wanted : Box2) (bs : List (Option Box2)) (slot : ℕ) (o : Option Body) → IsCovered (box_at bs slot) o → Each (IsListed wanted (keys_over wanted 0 bs)) (option_map_or (body_proxies slot) o [])
entry_listed wanted bs slot None covered = tt
entry_listed wanted bs slot (Some b) covered = cover_listed wanted bs slot b (box_at bs slot) refl covered

-- ---- the shapes of all bodies

all_listed : (wanted : Box2) (bs : List (Option Box2)) (n : ℕ) (bodies : List (Option Body)) → ((k : ℕ) → IsCovered (box_at bs (n + k)) (body_at bodies k)) → Each (IsListed wanted (keys_over wanted 0 bs)) (proxies_from n bodies)
all_listed wanted bs n [] covered = tt
all_listed wanted bs n (o ∷ bodies) covered =
    let here : n + 0 ≡ n = omega arith in
    let first : IsCovered (box_at bs n) o = subst (λ (k : ℕ). IsCovered (box_at bs k) o) here (covered 0) in
    each_append (IsListed wanted (keys_over wanted 0 bs)) (option_map_or (body_proxies n) o []) (proxies_from (suc n) bodies) (entry_listed wanted bs n o first)
    (all_listed wanted bs (suc n) bodies (λ k. let next : n + suc k ≡ suc n + k = omega arith in subst (λ (m : ℕ). IsCovered (box_at bs m) (body_at bodies k)) next (covered (suc k))))

contains_each : (wanted : Box2) (keys : List ℕ) (ps : List Proxy) → Each (IsListed wanted keys) ps → Each (λ (p : Proxy). overlaps p.fat wanted ≡ true → Contains keys p.id.slot) ps
contains_each wanted keys [] h = tt
contains_each wanted keys (p ∷ ps) h = (λ on. contains_from_in keys p.id.slot (h.0 on), contains_each wanted keys ps h.1)

-- each shape whose fat box overlaps the wanted one is of a slot that is listed
pub overlapping_listed : (wanted : Box2) (bodies : List (Option Body)) (bs : List (Option Box2)) → AreCovered bodies bs → All (λ (p : Proxy). overlaps p.fat wanted ≡ true → Contains (keys_over wanted 0 bs) p.id.slot) (proxies_of bodies)
overlapping_listed wanted bodies bs covered =
    all_from_each (λ (p : Proxy). overlaps p.fat wanted ≡ true → Contains (keys_over wanted 0 bs) p.id.slot) (proxies_of bodies)
    (contains_each wanted (keys_over wanted 0 bs) (proxies_of bodies) (all_listed wanted bs 0 bodies (λ k. let same : k ≡ 0 + k = omega arith in subst (λ (m : ℕ). IsCovered (box_at bs m) (body_at bodies k)) same (covered k))))

-- what follows of an answer
pub if_ok_then : {X E : Type 0} (P Q : X → Type 0) (r : Result X E) → ((x : X) → P x → Q x) → IfOk r P → IfOk r Q
if_ok_then P Q (Ok x) f p = f x p
if_ok_then P Q (Err e) f p = tt
