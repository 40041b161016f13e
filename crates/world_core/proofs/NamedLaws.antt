-- The shape with a name is that of the body in its slot, and it stirs if that body does.
use Rattle.std.proofs.Common.{◌≡◌, ℕ, zero, suc, ◌+◌, ◌*◌, ◌<◌, ◌≤◌, ◌==◌, ◌||◌, ◌⊎◌, Bool, true, false, cond, List, [], ◌∷◌, ◌++◌, length, get_or, Option, Some, None, is_some, inl, inr, refl, sym, ap, ◌∙◌, subst, arith}
use Rattle.std.specs.List.{Contains}
use Rattle.std.specs.Prelude.{◌/◌, ◌%◌, slice_get}
use Rattle.std.proofs.lemmas.Bool.Decides.{nat_tests}
use Rattle.std.specs.Option.{option_map_or}
use Rattle.fixed_geom.specs.declared.boxes.Box2.{Box2}
use Rattle.shapes.specs.declared.pose.Pose.{Pose}
use Rattle.shapes.specs.declared.shape.ShapeDef.{ShapeDef}
use Rattle.contacts_base.specs.Keys.{id_number}
use Rattle.contacts_base.specs.Proxies.{number_of}
use Rattle.contacts_base.specs.declared.key.ShapeId.{ShapeId}
use Rattle.contacts_base.specs.declared.near.Proxy.{Proxy}
use Rattle.contacts_base.specs.declared.surface.Surface.{Surface}
use Rattle.contacts.specs.Known.{found}
use Rattle.colour_solver.specs.States.{places_from}
use Rattle.contacts.specs.Fates.{AreWithin, stirs_in}
use Rattle.contacts_base.proofs.Members.{Each, IsIn, contains_from_in, in_new, in_passed}
use Rattle.plain_world.specs.declared.body.Body.{Body}
use Rattle.plain_world.specs.Bodies.{AreBodies, IsBody, is_awake, is_carried, pose_of, stirs}
use Rattle.plain_world.specs.Changes.{is_awake_in}
use Rattle.plain_world.specs.InSlots.{is_carried_in}
use Rattle.plain_world.specs.Kinds.{carried_by, is_dynamic, is_moving}
use Rattle.plain_world.specs.Slots.{body_at}
use Rattle.world_core.proofs.CollideLaws.{eight_at_most}
use Rattle.world_core.specs.Named.{proxy_of, shape_at, shape_in, shape_of}
use Rattle.world_rules.specs.Collide.{body_proxies, proxies_from, proxies_of, shape_proxies}
use Rattle.solver_sets.proofs.SlotLemmas.{below_length}
use Rattle.world_rules.proofs.SlotLemmas.{body_at-in}

abbrev named : ℕ → ℕ → ShapeId
named slot index = record { slot = slot; index = index }

-- ---- one body

found_here : (p : Proxy) (ps : List Proxy) (n : ℕ) → number_of p ≡ n → found (p ∷ ps) n ≡ Some p
found_here p ps n h = grind (arith, nat_tests)

found_later : (p : Proxy) (ps : List Proxy) (n : ℕ) → (number_of p ≡ n → ⊥) → found (p ∷ ps) n ≡ found ps n
found_later p ps n h = grind (arith, nat_tests)

shapes_found : (slot : ℕ) (dynamic stirs : Bool) (pose : Pose) (index j k : ℕ) (defs : List ShapeDef) (fats : List Box2) → j ≡ index + k → found (shape_proxies slot dynamic stirs pose index defs fats) (slot * 256 + j) ≡ shape_at (named slot j) dynamic stirs pose k defs fats
shapes_found slot dynamic stirs pose index j k [] fats e = refl
shapes_found slot dynamic stirs pose index j k (d ∷ defs) [] e = refl
shapes_found slot dynamic stirs pose index j zero (d ∷ defs) (fat ∷ fats) e =
    let same : index ≡ j = omega arith in
    rw same (found_here (proxy_of (named slot j) dynamic stirs pose d fat) (shape_proxies slot dynamic stirs pose (suc j) defs fats) (slot * 256 + j) refl)
shapes_found slot dynamic stirs pose index j (suc k) (d ∷ defs) (fat ∷ fats) e =
    found_later (proxy_of (named slot index) dynamic stirs pose d fat) (shape_proxies slot dynamic stirs pose (suc index) defs fats) (slot * 256 + j) (λ q. omega arith) ∙ shapes_found slot dynamic stirs pose (suc index) j k defs fats (omega arith)

cond_found : (t : Bool) (ps : List Proxy) (n : ℕ) → found (cond t ps []) n ≡ cond t (found ps n) None
cond_found true ps n = refl
cond_found false ps n = refl

body_found : (b : Body) (i : ShapeId) → found (body_proxies i.slot b) (id_number i) ≡ shape_of i b
body_found b i = cond_found b.enabled _ (id_number i) ∙ ap (λ (o : Option Proxy). cond b.enabled o None) (shapes_found i.slot (is_dynamic b.kind) (stirs b) (pose_of b) 0 i.index i.index b.shapes b.fats (omega arith))

entry_found : (o : Option Body) (i : ShapeId) → found (option_map_or (body_proxies i.slot) o []) (id_number i) ≡ shape_in i o
entry_found None i = refl
entry_found (Some b) i = body_found b i

-- ---- the shapes of other slots

pass_over : (ps qs : List Proxy) (n : ℕ) → Each (λ p. number_of p ≡ n → ⊥) ps → found (ps ++ qs) n ≡ found qs n
pass_over [] qs n h = refl
pass_over (p ∷ ps) qs n h = found_later p (ps ++ qs) n h.0 ∙ pass_over ps qs n h.1

ends_there : (ps qs : List Proxy) (n : ℕ) → found qs n ≡ None → found (ps ++ qs) n ≡ found ps n
ends_there [] qs n h = h
ends_there (p ∷ ps) qs n h = ap (λ (o : Option Proxy). cond (number_of p == n) (Some p) o) (ends_there ps qs n h)

other_shapes : (slot : ℕ) (dynamic stirs : Bool) (pose : Pose) (index : ℕ) (defs : List ShapeDef) (fats : List Box2) (i : ShapeId) → i.index < 256 → (i.slot ≡ slot → ⊥) → index + length defs ≤ 256 → Each (λ p. number_of p ≡ id_number i → ⊥) (shape_proxies slot dynamic stirs pose index defs fats)
other_shapes slot dynamic stirs pose index [] fats i small f few = tt
other_shapes slot dynamic stirs pose index (d ∷ defs) [] i small f few = tt
other_shapes slot dynamic stirs pose index (d ∷ defs) (fat ∷ fats) i small f few = (
  λ q. let same : i.slot ≡ slot = omega arith in f same,
  other_shapes slot dynamic stirs pose (suc index) defs fats i small f (omega arith),
)

cond_each : (t : Bool) (P : Proxy → Type 0) (ps : List Proxy) → Each P ps → Each P (cond t ps [])
cond_each true P ps h = h
cond_each false P ps h = tt

other_entry : (slot : ℕ) (o : Option Body) (i : ShapeId) → i.index < 256 → (i.slot ≡ slot → ⊥) → ((b : Body) → o ≡ Some b → IsBody b) → Each (λ p. number_of p ≡ id_number i → ⊥) (option_map_or (body_proxies slot) o [])
other_entry slot None i small f all = tt
other_entry slot (Some b) i small f all =
    let few : length b.shapes ≤ 8 = eight_at_most _ _ (all b refl).shapes in
    cond_each b.enabled (λ p. number_of p ≡ id_number i → ⊥) (shape_proxies slot (is_dynamic b.kind) (stirs b) (pose_of b) 0 b.shapes b.fats) (other_shapes slot (is_dynamic b.kind) (stirs b) (pose_of b) 0 b.shapes b.fats i small f (omega (arith, few)))

rest_none : (slot : ℕ) (bodies : List (Option Body)) (i : ShapeId) → AreBodies bodies → i.index < 256 → i.slot < slot → found (proxies_from slot bodies) (id_number i) ≡ None
rest_none slot [] i all small lt = refl
rest_none slot (o ∷ bodies) i all small lt =
    pass_over (option_map_or (body_proxies slot) o []) (proxies_from (suc slot) bodies) (id_number i) (other_entry slot o i small (λ q. omega arith) (λ b e. all 0 b (ap Some e))) ∙ rest_none (suc slot) bodies i (λ k b e. all (suc k) b e) small (omega arith)

from_found : (slot : ℕ) (bodies : List (Option Body)) (i : ShapeId) (k : ℕ) → AreBodies bodies → i.index < 256 → i.slot ≡ slot + k → found (proxies_from slot bodies) (id_number i) ≡ shape_in i (body_at bodies k)
from_found slot [] i k all small e = refl
from_found slot (o ∷ bodies) i zero all small e =
    let here : i.slot ≡ slot = omega arith in
    ends_there (option_map_or (body_proxies slot) o []) (proxies_from (suc slot) bodies) (id_number i) (rest_none (suc slot) bodies i (λ k b e. all (suc k) b e) small (omega arith))
    ∙ subst (λ (n : ℕ). found (option_map_or (body_proxies n) o []) (id_number i) ≡ shape_in i o) here (entry_found o i)
from_found slot (o ∷ bodies) i (suc k) all small e =
    pass_over (option_map_or (body_proxies slot) o []) (proxies_from (suc slot) bodies) (id_number i) (other_entry slot o i small (λ q. omega arith) (λ b e. all 0 b (ap Some e))) ∙ from_found (suc slot) bodies i k (λ k b e. all (suc k) b e) small (omega arith)

pub found_in : (bodies : List (Option Body)) (i : ShapeId) → AreBodies bodies → i.index < 256 → found (proxies_of bodies) (id_number i) ≡ shape_in i (body_at bodies i.slot)
found_in bodies i all small = from_found 0 bodies i i.slot all small (omega arith)

-- ---- as the code reads it

pub shape_there : (i : ShapeId) (dynamic stirs : Bool) (pose : Pose) (k : ℕ) (defs : List ShapeDef) (fats : List Box2) (d : ShapeDef) (fat : Box2) → k < length defs → k < length fats → shape_at i dynamic stirs pose k defs fats ≡ Some (proxy_of i dynamic stirs pose (get_or defs k d) (get_or fats k fat))
shape_there i dynamic stirs pose k [] fats d fat a b = absurd (omega arith)
shape_there i dynamic stirs pose k (e ∷ defs) [] d fat a b = absurd (omega arith)
shape_there i dynamic stirs pose zero (e ∷ defs) (f ∷ fats) d fat a b = refl
shape_there i dynamic stirs pose (suc k) (e ∷ defs) (f ∷ fats) d fat a b = shape_there i dynamic stirs pose k defs fats d fat (omega arith) (omega arith)

pub shape_beyond : (i : ShapeId) (dynamic stirs : Bool) (pose : Pose) (k : ℕ) (defs : List ShapeDef) (fats : List Box2) → length defs ≤ k → shape_at i dynamic stirs pose k defs fats ≡ None
shape_beyond i dynamic stirs pose k [] fats h = refl
shape_beyond i dynamic stirs pose k (e ∷ defs) [] h = refl
shape_beyond i dynamic stirs pose zero (e ∷ defs) (f ∷ fats) h = absurd (omega arith)
shape_beyond i dynamic stirs pose (suc k) (e ∷ defs) (f ∷ fats) h = shape_beyond i dynamic stirs pose k defs fats (omega arith)

shape_if : (i : ShapeId) (b : Body) (o : Option Proxy) → b.enabled ≡ true → shape_at i (is_dynamic b.kind) (stirs b) (pose_of b) i.index b.shapes b.fats ≡ o → shape_of i b ≡ o
shape_if i b o e h = ap (λ (t : Bool). cond t (shape_at i (is_dynamic b.kind) (stirs b) (pose_of b) i.index b.shapes b.fats) None) e ∙ h

pub shape_none : (i : ShapeId) (b : Body) → b.enabled ≡ true → length b.shapes ≤ i.index → shape_of i b ≡ None
shape_none i b e h = shape_if i b None e (shape_beyond i (is_dynamic b.kind) (stirs b) (pose_of b) i.index b.shapes b.fats h)

stirs_at : (i : ShapeId) (dynamic stirs : Bool) (pose : Pose) (k : ℕ) (defs : List ShapeDef) (fats : List Box2) → k < length defs → k < length fats → stirs_in (shape_at i dynamic stirs pose k defs fats) ≡ stirs
stirs_at i dynamic stirs pose k [] fats a b = absurd (omega arith)
stirs_at i dynamic stirs pose k (e ∷ defs) [] a b = absurd (omega arith)
stirs_at i dynamic stirs pose zero (e ∷ defs) (f ∷ fats) a b = refl
stirs_at i dynamic stirs pose (suc k) (e ∷ defs) (f ∷ fats) a b = stirs_at i dynamic stirs pose k defs fats (omega arith) (omega arith)

pub stirs_shape : (i : ShapeId) (b : Body) → b.enabled ≡ true → i.index < length b.shapes → length b.fats ≡ length b.shapes → stirs b ≡ stirs_in (shape_of i b)
stirs_shape i b e lt long =
    sym (ap (λ (o : Option Proxy). stirs_in o) (shape_if i b (shape_at i (is_dynamic b.kind) (stirs b) (pose_of b) i.index b.shapes b.fats) e refl) ∙ stirs_at i (is_dynamic b.kind) (stirs b) (pose_of b) i.index b.shapes b.fats lt (omega arith))

pub stirs_none : (i : ShapeId) (b : Body) → b.enabled ≡ true → length b.shapes ≤ i.index → false ≡ stirs_in (shape_of i b)
stirs_none i b e h = sym (ap (λ (o : Option Proxy). stirs_in o) (shape_none i b e h))

pub shape_some : (i : ShapeId) (b : Body) (defs : List ShapeDef) (fats : List Box2) (k : ℕ) (d : ShapeDef) (fat : Box2) (dynamic stir : Bool) (pose : Pose) (surface : Surface) → b.enabled ≡ true → defs ≡ b.shapes → fats ≡ b.fats → k ≡ i.index → k < length defs → length b.fats ≡ length b.shapes → dynamic ≡ is_dynamic b.kind → stir ≡ stirs b → pose ≡ pose_of b
    → surface ≡ record { friction = (get_or defs k d).friction; restitution = (get_or defs k d).restitution }
    → Some (record { id = i; fat = get_or fats k fat; filter = (get_or defs k d).filter; dynamic = dynamic; stirs = stir; surface = surface; shape = (get_or defs k d).shape; pose = pose }) ≡ shape_of i b
shape_some i b defs fats k d fat dynamic stir pose surface e are boxes at lt long dyn st po su =
    let first : i.index < length b.shapes = rw (are, at) at lt in
    let there : shape_at i (is_dynamic b.kind) (stirs b) (pose_of b) i.index b.shapes b.fats ≡ Some (proxy_of i (is_dynamic b.kind) (stirs b) (pose_of b) (get_or b.shapes i.index d) (get_or b.fats i.index fat)) = shape_there i (is_dynamic b.kind) (stirs b) (pose_of b) i.index b.shapes b.fats d fat first (omega (arith, first, long)) in
    rw (su, dyn, st, po, are, boxes, at) (sym (shape_if i b _ e there))

-- ---- the entry in a slot

entry_there : (bodies : List (Option Body)) (k : ℕ) (e : Option Body) → k < length bodies → e ≡ get_or bodies k e → body_at bodies k ≡ e
entry_there [] k e lt is = absurd (omega arith)
entry_there (o ∷ bodies) zero e lt is = sym is
entry_there (o ∷ bodies) (suc k) e lt is = entry_there bodies k e (omega arith) is

entry_beyond : (bodies : List (Option Body)) (k : ℕ) → length bodies ≤ k → body_at bodies k ≡ None
entry_beyond [] k h = refl
entry_beyond (o ∷ bodies) zero h = absurd (omega arith)
entry_beyond (o ∷ bodies) (suc k) h = entry_beyond bodies k (omega arith)

pub named_there : (bodies : List (Option Body)) (i : ShapeId) (e f : Option Body) → AreBodies bodies → i.index < 256 → i.slot < length bodies → e ≡ get_or bodies i.slot e → e ≡ f → found (proxies_of bodies) (id_number i) ≡ shape_in i f
named_there bodies i e f all small lt is so = found_in bodies i all small ∙ ap (λ (o : Option Body). shape_in i o) (entry_there bodies i.slot e lt is ∙ so)

pub named_beyond : (bodies : List (Option Body)) (i : ShapeId) → AreBodies bodies → i.index < 256 → length bodies ≤ i.slot → found (proxies_of bodies) (id_number i) ≡ None
named_beyond bodies i all small h = found_in bodies i all small ∙ ap (λ (o : Option Body). shape_in i o) (entry_beyond bodies i.slot h)

slice_there : (bodies : List (Option Body)) (k : ℕ) (e : Option Body) → k < length bodies → e ≡ get_or bodies k e → slice_get bodies k ≡ Some e
slice_there [] k e lt is = absurd (omega arith)
slice_there (o ∷ bodies) zero e lt is = ap (λ (x : Option Body). Some x) (sym is)
slice_there (o ∷ bodies) (suc k) e lt is = slice_there bodies k e (omega arith) is

pub body_there : (bodies : List (Option Body)) (k : ℕ) (e : Option Body) (b : Body) → AreBodies bodies → k < length bodies → e ≡ get_or bodies k e → e ≡ Some b → IsBody b
body_there bodies k e b all lt is so = all k b (slice_there bodies k e lt is ∙ ap (λ (x : Option Body). Some x) so)

-- ---- the shape with a number

found_number : (bodies : List (Option Body)) (n : ℕ) → AreBodies bodies → found (proxies_of bodies) n ≡ shape_in (named (n / 256) (n % 256)) (body_at bodies (n / 256))
found_number bodies n all =
    let same : n ≡ id_number (named (n / 256) (n % 256)) = omega arith in
    let small : n % 256 < 256 = omega arith in
    ap (found (proxies_of bodies)) same ∙ found_in bodies (named (n / 256) (n % 256)) all small

shape_below : (bodies : List (Option Body)) (slot : ℕ) (i : ShapeId) (o : Option Body) → body_at bodies slot ≡ o → is_some (shape_in i o) ≡ true → slot < length bodies
shape_below bodies slot i None at there = cc
shape_below bodies slot i (Some b) at there = below_length bodies slot b at

-- each shape is of a slot that has a mark or none, where each body has
pub all_within : (marks : List Bool) (bodies : List (Option Body)) → AreBodies bodies → length bodies ≤ length marks → AreWithin marks (proxies_of bodies)
all_within marks bodies all enough n there =
    let lt : n / 256 < length bodies = shape_below bodies (n / 256) (named (n / 256) (n % 256)) (body_at bodies (n / 256)) refl (subst (λ (o : Option Proxy). is_some o ≡ true) (found_number bodies n all) there) in
    omega (arith, lt, enough)

-- ---- bodies that stir

place_in : {X : Type 0} (is : X → Bool) (xs : List X) (n k : ℕ) (x : X) → slice_get xs k ≡ Some x → is x ≡ true → IsIn (n + k) (places_from is n xs)
place_in is [] n k x e on = cc
place_in is (y ∷ xs) n zero x e on =
    let same : y ≡ x = cc in
    in_new (n + zero) n (is y) (places_from is (suc n) xs) (ap is same ∙ on) (omega arith)
place_in is (y ∷ xs) n (suc k) x e on =
    in_passed (n + suc k) n (is y) (places_from is (suc n) xs) (subst (λ (m : ℕ). IsIn m (places_from is (suc n) xs)) (omega arith) (place_in is xs (suc n) k x e on))

stirs_if : (t : Bool) (o : Option Proxy) → stirs_in (cond t o None) ≡ true → stirs_in o ≡ true
stirs_if true o e = e
stirs_if false o e = cc

stirs_so : (i : ShapeId) (dynamic stir : Bool) (pose : Pose) (k : ℕ) (defs : List ShapeDef) (fats : List Box2) → stirs_in (shape_at i dynamic stir pose k defs fats) ≡ true → stir ≡ true
stirs_so i dynamic stir pose k [] fats e = cc
stirs_so i dynamic stir pose k (d ∷ defs) [] e = cc
stirs_so i dynamic stir pose zero (d ∷ defs) (fat ∷ fats) e = e
stirs_so i dynamic stir pose (suc k) (d ∷ defs) (fat ∷ fats) e = stirs_so i dynamic stir pose k defs fats e

one_of : (s t u : Bool) → (s || cond t u false) ≡ true → (s ≡ true) ⊎ (t ≡ true)
one_of true t u e = inl refl
one_of false true u e = inr refl
one_of false false u e = cc

listed_as : (is : Option Body → Bool) (bodies : List (Option Body)) (slot : ℕ) (b : Body) → body_at bodies slot ≡ Some b → is (Some b) ≡ true → Contains (places_from is 0 bodies) slot
listed_as is bodies slot b at on = contains_from_in (places_from is 0 bodies) slot (subst (λ (m : ℕ). IsIn m (places_from is 0 bodies)) (omega arith) (place_in is bodies 0 slot (Some b) (body_at-in bodies slot b at) on))

stirring_in : (bodies : List (Option Body)) (slot : ℕ) (i : ShapeId) (o : Option Body) → body_at bodies slot ≡ o → stirs_in (shape_in i o) ≡ true → Contains (places_from is_awake_in 0 bodies) slot ⊎ Contains (places_from is_carried_in 0 bodies) slot
stirring_in bodies slot i None at e = cc
stirring_in bodies slot i (Some b) at e =
    let stir : stirs b ≡ true = stirs_so i (is_dynamic b.kind) (stirs b) (pose_of b) i.index b.shapes b.fats (stirs_if b.enabled (shape_at i (is_dynamic b.kind) (stirs b) (pose_of b) i.index b.shapes b.fats) e) in
    elim (one_of (is_awake b) (is_carried b) (is_moving (carried_by b.kind)) stir) [
      | inl on ↦ inl (listed_as is_awake_in bodies slot b at on)
      | inr on ↦ inr (listed_as is_carried_in bodies slot b at on)
    ]

-- a body that stirs is an awake mover, or is carried along
pub stirring : (bodies : List (Option Body)) (n : ℕ) → AreBodies bodies → stirs_in (found (proxies_of bodies) n) ≡ true → Contains (places_from is_awake_in 0 bodies) (n / 256) ⊎ Contains (places_from is_carried_in 0 bodies) (n / 256)
stirring bodies n all e = stirring_in bodies (n / 256) (named (n / 256) (n % 256)) (body_at bodies (n / 256)) refl (subst (λ (o : Option Proxy). stirs_in o ≡ true) (found_number bodies n all) e)
