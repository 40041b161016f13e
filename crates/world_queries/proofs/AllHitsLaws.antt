-- The hits of a ray are those on the shapes over the box round its way.
use Rattle.std.proofs.Common.{◌≡◌, ℕ, suc, ◌+◌, Bool, true, false, cond, List, [], ◌∷◌, ◌++◌, Option, None, Some, All, refl, ap, sym, ◌∙◌, subst, arith}
use Rattle.std.proofs.lemmas.Bool.{false≢true}
use Rattle.std.proofs.lemmas.Int.{ints}
use Rattle.std.proofs.lemmas.List.Elements.{All-head, All-tail}
use Rattle.std.specs.List.{cons_option, filter_map}
use Rattle.std.specs.Prelude.{filter, option_map, slice_get}
use Rattle.std.specs.Option.{option_flatten}
use Rattle.contacts_base.specs.declared.key.ShapeId.{ShapeId}
use Rattle.fixed_geom.specs.Boxes.{Contains, overlaps}
use Rattle.fixed_geom.specs.declared.boxes.Box2.{Box2}
use Rattle.plain_world.specs.Bodies.{AreBodies, pose_of}
use Rattle.plain_world.specs.Placement.{shape_of, shape_in}
use Rattle.plain_world.specs.Slots.{body_at}
use Rattle.plain_world.specs.declared.body.Body.{Body}
use Rattle.shape_rays.proofs.BoxLaws.{missed}
use Rattle.shape_rays.specs.Hits.{hit_at, hit_on, region}
use Rattle.shape_rays.specs.Reach.{box_round, reaches}
use Rattle.shape_rays.specs.declared.hits.Hit.{Hit}
use Rattle.shape_rays.specs.declared.hits.PosedShape.{PosedShape}
use Rattle.shapes.specs.Bounds.{tight_box}
use Rattle.shapes.specs.Rays.{IsBeam, ray_of}
use Rattle.shapes.specs.Shapes.{IsShape, IsShapeDef}
use Rattle.shapes.specs.declared.beam.Beam.{Beam}
use Rattle.shapes.specs.declared.pose.Pose.{Pose}
use Rattle.shapes.specs.declared.shape.Shape.{Shape}
use Rattle.shapes.specs.declared.shape.ShapeDef.{ShapeDef}
use Rattle.world_queries.specs.AllHits.{hit_named, hit_of, hits_on}
use Rattle.world_queries.specs.ByBoxes.{hit_through}
use Rattle.world_queries.specs.Filters.{through}
use Rattle.world_queries.specs.Posed.{named, posed_from, posed_shapes, shapes_at, shapes_from}

-- ---- names that pass

either_order : (s t : Bool) (id : ShapeId) (ids : List ShapeId) → cond t (cond s (id ∷ ids) ids) ids ≡ cond s (cond t (id ∷ ids) ids) ids
either_order true true id ids = refl
either_order true false id ids = refl
either_order false true id ids = refl
either_order false false id ids = refl

region_if : (b : Box2) (t : Bool) (p : PosedShape) (ps : List PosedShape) → region b (cond t (p ∷ ps) ps) ≡ cond t (cond (overlaps (tight_box p.shape p.pose) b) (p.id ∷ region b ps) (region b ps)) (region b ps)
region_if b true p ps = refl
region_if b false p ps = refl

filter_if : (test : ShapeId → Bool) (s : Bool) (id : ShapeId) (ids : List ShapeId) → filter test (cond s (id ∷ ids) ids) ≡ cond s (cond (test id) (id ∷ filter test ids) (filter test ids)) (filter test ids)
filter_if test true id ids = refl
filter_if test false id ids = refl

-- the names over a region that pass are those of the shapes that pass
pub region_through : (b : Box2) (test : ShapeId → Bool) (ps : List PosedShape) → filter test (region b ps) ≡ region b (through test ps)
region_through b test [] = refl
region_through b test (p ∷ ps) =
    let over : Bool = overlaps (tight_box p.shape p.pose) b in
    filter_if test over p.id (region b ps)
    ∙ ap (λ (ids : List ShapeId). cond over (cond (test p.id) (p.id ∷ ids) ids) ids) (region_through b test ps)
    ∙ sym (either_order over (test p.id) p.id (region b (through test ps)))
    ∙ sym (region_if b (test p.id) p (through test ps))

-- ---- shapes are found by their names

-- each of these shapes is found by its name
abbrev pub AreNamed : List (Option Body) → List PosedShape → Type 0
AreNamed bodies [] = Unit {0}
AreNamed bodies (p ∷ ps) = (shape_of bodies p.id ≡ Some (p.shape, p.pose)) × IsShape p.shape × AreNamed bodies ps

named_both : (bodies : List (Option Body)) (ps qs : List PosedShape) → AreNamed bodies ps → AreNamed bodies qs → AreNamed bodies (ps ++ qs)
named_both bodies [] qs h k = k
named_both bodies (p ∷ ps) qs h k = (h.0, h.1, named_both bodies ps qs h.2 k)

next : (index k : ℕ) → index + suc k ≡ suc index + k
next index k = omega arith

first_of : (index : ℕ) → index + 0 ≡ index
first_of index = omega arith

from_first : (k : ℕ) → 0 + k ≡ k
from_first k = omega arith

shape_at : (bodies : List (Option Body)) (slot index : ℕ) (b : Body) (d : ShapeDef) → body_at bodies slot ≡ Some b → b.enabled ≡ true → slice_get b.shapes index ≡ Some d → shape_of bodies (record { slot = slot; index = index }) ≡ Some (d.shape, pose_of b)
shape_at bodies slot index b d e t h =
    ap (λ (o : Option Body). shape_in o index) e
    ∙ ap (λ (c : Bool). cond c (option_map (λ (x : ShapeDef). (x.shape, pose_of b)) (slice_get b.shapes index)) None) t
    ∙ ap (option_map (λ (x : ShapeDef). (x.shape, pose_of b))) h

named_from : (bodies : List (Option Body)) (slot index : ℕ) (b : Body) (defs : List ShapeDef) → body_at bodies slot ≡ Some b → b.enabled ≡ true → ((k : ℕ) → slice_get b.shapes (index + k) ≡ slice_get defs k) → All IsShapeDef defs → AreNamed bodies (shapes_from slot (pose_of b) index defs)
named_from bodies slot index b [] e t h forms = tt
named_from bodies slot index b (d ∷ defs) e t h forms =
    let form : IsShapeDef d = All-head IsShapeDef d defs forms in
    let here : slice_get b.shapes index ≡ Some d = subst (λ (n : ℕ). slice_get b.shapes n ≡ Some d) (first_of index) (h 0) in
    (shape_at bodies slot index b d e t here, form.shape, named_from bodies slot (suc index) b defs e t (λ k. subst (λ (n : ℕ). slice_get b.shapes n ≡ slice_get defs k) (next index k) (h (suc k))) (All-tail IsShapeDef d defs forms))

named_if : (bodies : List (Option Body)) (slot : ℕ) (b : Body) (t : Bool) → b.enabled ≡ t → body_at bodies slot ≡ Some b → All IsShapeDef b.shapes → AreNamed bodies (cond t (shapes_from slot (pose_of b) 0 b.shapes) [])
named_if bodies slot b true t e forms = named_from bodies slot 0 b b.shapes e t (λ k. ap (slice_get b.shapes) (from_first k)) forms
named_if bodies slot b false t e forms = tt

there : (o : Option (Option Body)) (b : Body) → option_flatten o ≡ Some b → o ≡ Some (Some b)
there None b e = cc
there (Some o) b e = ap Some e

named_at : (bodies : List (Option Body)) (slot : ℕ) (o : Option Body) → AreBodies bodies → body_at bodies slot ≡ o → AreNamed bodies (shapes_at slot o)
named_at bodies slot None h e = tt
named_at bodies slot (Some b) h e = named_if bodies slot b b.enabled refl e (h slot b (there (slice_get bodies slot) b e)).forms

-- the same bodies, where the shorter list begins with this slot
abbrev AreFrom : ℕ → List (Option Body) → List (Option Body) → Type 0
AreFrom slot rest bodies = (k : ℕ) → body_at bodies (slot + k) ≡ body_at rest k

named_on : (bodies : List (Option Body)) (slot : ℕ) (rest : List (Option Body)) → AreBodies bodies → AreFrom slot rest bodies → AreNamed bodies (posed_from slot rest)
named_on bodies slot [] h from = tt
named_on bodies slot (o ∷ rest) h from =
    named_both bodies (shapes_at slot o) (posed_from (suc slot) rest)
    (named_at bodies slot o h (subst (λ (n : ℕ). body_at bodies n ≡ o) (first_of slot) (from 0)))
    (named_on bodies (suc slot) rest h (λ k. subst (λ (n : ℕ). body_at bodies n ≡ body_at rest k) (next slot k) (from (suc k))))

pub all_named : (bodies : List (Option Body)) → AreBodies bodies → AreNamed bodies (posed_shapes bodies)
all_named bodies h = named_on bodies 0 bodies h (λ k. ap (body_at bodies) (from_first k))

-- ---- hits on what lies over the box round the way

false_if : (t x : Bool) → t ≡ false → cond t x false ≡ false
false_if true x e = absurd (false≢true (sym e))
false_if false x e = refl

unreached : (r : Beam) (b : Box2) → overlaps b (box_round r) ≡ false → reaches r b ≡ false
unfolding reaches
unreached r b e = false_if (overlaps b (box_round r)) _ e

holds_itself : (b : Box2) → Contains b b
holds_itself b = record { left = omega (arith, ints); right = omega (arith, ints); down = omega (arith, ints); up = omega (arith, ints) }

none_if : (t : Bool) (o : Option Hit) → o ≡ None → cond t o None ≡ None
none_if true o e = e
none_if false o e = refl

beside : (r : Beam) (test : ShapeId → Bool) (p : PosedShape) → IsBeam r → IsShape p.shape → overlaps (tight_box p.shape p.pose) (box_round r) ≡ false → hit_through r test p ≡ None
beside r test p beam shape e =
    let tight : Box2 = tight_box p.shape p.pose in
    let none : ray_of p.shape p.pose r.from r.along ≡ None = missed p.shape p.pose r tight shape beam (holds_itself tight) (unreached r tight e) in
    none_if (test p.id) (hit_on r p) (ap (λ (o : Option ℕ). hit_at o p.id) none)

taken_if : (f : ShapeId → Option Hit) (s : Bool) (id : ShapeId) (ids : List ShapeId) → filter_map f (cond s (id ∷ ids) ids) ≡ cond s (cons_option (f id) (filter_map f ids)) (filter_map f ids)
taken_if f true id ids = refl
taken_if f false id ids = refl

passed_if : (r : Beam) (t : Bool) (p : PosedShape) (ps : List PosedShape) → hits_on r (cond t (p ∷ ps) ps) ≡ cons_option (cond t (hit_on r p) None) (hits_on r ps)
passed_if r true p ps = refl
passed_if r false p ps = refl

front_if : (s : Bool) (o h : Option Hit) (hits : List Hit) → o ≡ h → (s ≡ false → h ≡ None) → cond s (cons_option o hits) hits ≡ cons_option h hits
front_if true o h hits e none = ap (λ (x : Option Hit). cons_option x hits) e
front_if false o h hits e none = sym (ap (λ (x : Option Hit). cons_option x hits) (none refl))

pub hits_by_region : (r : Beam) (test : ShapeId → Bool) (bodies : List (Option Body)) (ps : List PosedShape) → IsBeam r → AreNamed bodies ps → filter_map (hit_named r test bodies) (region (box_round r) ps) ≡ hits_on r (through test ps)
hits_by_region r test bodies [] beam h = refl
hits_by_region r test bodies (p ∷ ps) beam h =
    let over : Bool = overlaps (tight_box p.shape p.pose) (box_round r) in
    let found : hit_named r test bodies p.id ≡ hit_through r test p = ap (λ (o : Option (Shape × Pose)). hit_of r test (option_map (named p.id) o)) h.0 in
    taken_if (hit_named r test bodies) over p.id (region (box_round r) ps)
    ∙ ap (λ (hits : List Hit). cond over (cons_option (hit_named r test bodies p.id) hits) hits) (hits_by_region r test bodies ps beam h.2)
    ∙ front_if over (hit_named r test bodies p.id) (hit_through r test p) (hits_on r (through test ps)) found (beside r test p beam h.1)
    ∙ sym (passed_if r (test p.id) p (through test ps))

-- those of all enabled bodies
pub all_by_region : (r : Beam) (test : ShapeId → Bool) (bodies : List (Option Body)) → IsBeam r → AreBodies bodies → filter_map (hit_named r test bodies) (region (box_round r) (posed_shapes bodies)) ≡ hits_on r (through test (posed_shapes bodies))
all_by_region r test bodies beam h = hits_by_region r test bodies (posed_shapes bodies) beam (all_named bodies h)
