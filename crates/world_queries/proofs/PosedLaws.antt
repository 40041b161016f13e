-- The shapes of a body, one after another.
use Rattle.std.proofs.Common.{◌≡◌, ℕ, zero, suc, ◌≤◌, ◌+◌, Bool, true, false, cond, List, [], ◌∷◌, ◌++◌, length, drop, Option, None, Some, refl, ap, sym, ◌∙◌, arith}
use Rattle.std.proofs.Math.Numerals.{add-one}
use Rattle.std.proofs.lemmas.List.{append_assoc, append-nil}
use Rattle.std.specs.Prelude.{option_map, slice_get, unwrap_or}
use Rattle.std.specs.Option.{option_flatten}
use Rattle.fixed_geom.specs.Boxes.{overlaps}
use Rattle.fixed_geom.specs.declared.boxes.Box2.{Box2}
use Rattle.contacts_base.specs.declared.key.ShapeId.{ShapeId}
use Rattle.plain_world.specs.Bodies.{AreBodies, pose_of}
use Rattle.plain_world.specs.Placement.{shape_in}
use Rattle.plain_world.specs.Slots.{body_at}
use Rattle.plain_world.specs.declared.body.Body.{Body}
use Rattle.shape_rays.specs.declared.hits.Hit.{Hit}
use Rattle.shape_rays.specs.declared.hits.PosedShape.{PosedShape}
use Rattle.shape_rays.specs.Hits.{first_hit, hit_on, nearer, region}
use Rattle.shape_rays.proofs.HitLemmas.{associate, none_last}
use Rattle.shapes.specs.Bounds.{tight_box}
use Rattle.shapes.specs.declared.beam.Beam.{Beam}
use Rattle.shapes.specs.declared.pose.Pose.{Pose}
use Rattle.shapes.specs.declared.shape.Shape.{Shape}
use Rattle.shapes.specs.declared.shape.ShapeDef.{ShapeDef}
use Rattle.world_rules.proofs.PairLaws.{eight_at_most}
use Rattle.world_queries.specs.Posed.{named, shapes_from}

-- ---- those of one body

-- the shapes of the body in a slot from the one at `index` on
abbrev pub left_at : ℕ → ℕ → Option Body → List PosedShape
left_at slot index None = []
left_at slot index (Some b) = cond b.enabled (shapes_from slot (pose_of b) index (drop index b.shapes)) []

-- what is found at an index, and then what is left behind it; nothing is left where nothing is found
abbrev found_and : ShapeId → Option (Shape × Pose) → List PosedShape → List PosedShape
found_and id None later = []
found_and id (Some found) later = named id found ∷ later

abbrev id_at : ℕ → ℕ → ShapeId
id_at slot index = record { slot = slot; index = index }

abbrev with_pose : Pose → Option ShapeDef → Option (Shape × Pose)
with_pose pose o = option_map (λ (d : ShapeDef). (d.shape, pose)) o

defs_left : (slot index : ℕ) (pose : Pose) (defs : List ShapeDef) (k : ℕ) →
    shapes_from slot pose index (drop k defs) ≡ found_and (id_at slot index) (with_pose pose (slice_get defs k)) (shapes_from slot pose (suc index) (drop (suc k) defs))
defs_left slot index pose [] zero = refl
defs_left slot index pose [] (suc k) = refl
defs_left slot index pose (d ∷ defs) zero = refl
defs_left slot index pose (d ∷ defs) (suc k) = defs_left slot index pose defs k

enabled_left : (t : Bool) (id : ShapeId) (all later : List PosedShape) (o : Option (Shape × Pose)) → all ≡ found_and id o later → cond t all [] ≡ found_and id (cond t o None) (cond t later [])
enabled_left true id all later o e = e
enabled_left false id all later o e = refl

left_law : (slot index : ℕ) (o : Option Body) → left_at slot index o ≡ found_and (id_at slot index) (shape_in o index) (left_at slot (suc index) o)
left_law slot index None = refl
left_law slot index (Some b) =
    enabled_left b.enabled (id_at slot index) _ _ (with_pose (pose_of b) (slice_get b.shapes index)) (defs_left slot index (pose_of b) b.shapes index)

none_by : (id : ShapeId) (o : Option (Shape × Pose)) (later : List PosedShape) → None ≡ option_map (named id) o → found_and id o later ≡ []
none_by id None later e = refl
none_by id (Some found) later e = cc

some_by : (id : ShapeId) (o : Option (Shape × Pose)) (p : PosedShape) (later : List PosedShape) → Some p ≡ option_map (named id) o → found_and id o later ≡ p ∷ later
some_by id None p later e = cc
some_by id (Some found) p later e = ap (λ (q : Option PosedShape). unwrap_or q p ∷ later) (sym e)

-- nothing is left from an index at which nothing is found
pub none_left : (slot index : ℕ) (o : Option Body) → None ≡ option_map (named (id_at slot index)) (shape_in o index) → left_at slot index o ≡ []
none_left slot index o e = left_law slot index o ∙ none_by (id_at slot index) (shape_in o index) (left_at slot (suc index) o) e

pub some_left : (slot index : ℕ) (o : Option Body) (p : PosedShape) → Some p ≡ option_map (named (id_at slot index)) (shape_in o index) → left_at slot index o ≡ p ∷ left_at slot (index + 1) o
some_left slot index o p e = rw add-one (left_law slot index o ∙ some_by (id_at slot index) (shape_in o index) p (left_at slot (suc index) o) e)

-- nothing is left of a body from its ninth shape on
past : (defs : List ShapeDef) (k : ℕ) → length defs ≤ k → drop k defs ≡ []
past [] zero h = refl
past [] (suc k) h = refl
past (d ∷ defs) zero h = absurd (omega (arith, h))
past (d ∷ defs) (suc k) h = past defs k (omega (arith, h))

past_enabled : (t : Bool) (slot index : ℕ) (pose : Pose) (defs : List ShapeDef) → defs ≡ [] → cond t (shapes_from slot pose index defs) [] ≡ []
past_enabled true slot index pose defs e = ap (shapes_from slot pose index) e
past_enabled false slot index pose defs e = refl

ninth_in : (bodies : List (Option Body)) (slot k : ℕ) (o : Option (Option Body)) → slice_get bodies slot ≡ o → AreBodies bodies → 8 ≤ k → left_at slot k (option_flatten o) ≡ []
ninth_in bodies slot k None e h far = refl
ninth_in bodies slot k (Some None) e h far = refl
ninth_in bodies slot k (Some (Some b)) e h far =
    let few : length b.shapes ≤ 8 = eight_at_most _ b.shapes (h slot b e).shapes in
    past_enabled b.enabled slot k (pose_of b) (drop k b.shapes) (past b.shapes k (omega (arith, few, far)))

pub no_ninth : (bodies : List (Option Body)) (slot k : ℕ) → AreBodies bodies → 8 ≤ k → left_at slot k (body_at bodies slot) ≡ []
no_ninth bodies slot k h far = ninth_in bodies slot k (slice_get bodies slot) refl h far

-- ---- the first hit

pub hit_one : (r : Beam) (best all : Option Hit) (now later : List PosedShape) (p : PosedShape) → now ≡ p ∷ later → nearer best (first_hit r now) ≡ all → nearer (nearer best (hit_on r p)) (first_hit r later) ≡ all
hit_one r best all now later p e h = associate best (hit_on r p) (first_hit r later) ∙ ap (nearer best) (sym (ap (first_hit r) e)) ∙ h

pub hit_last : (r : Beam) (best all : Option Hit) (now : List PosedShape) → now ≡ [] → nearer best (first_hit r now) ≡ all → best ≡ all
hit_last r best all now e h = sym (none_last best) ∙ ap (nearer best) (sym (ap (first_hit r) e)) ∙ h

-- ---- the shapes over a region

region_by : (t : Bool) (id : ShapeId) (xs ys : List ShapeId) → cond t (id ∷ (xs ++ ys)) (xs ++ ys) ≡ cond t (id ∷ xs) xs ++ ys
region_by true id xs ys = refl
region_by false id xs ys = refl

pub region_of_parts : (b : Box2) (ps qs : List PosedShape) → region b (ps ++ qs) ≡ region b ps ++ region b qs
region_of_parts b [] qs = refl
region_of_parts b (p ∷ ps) qs =
    ap (λ (ids : List ShapeId). cond (overlaps (tight_box p.shape p.pose) b) (p.id ∷ ids) ids) (region_of_parts b ps qs)
    ∙ region_by (overlaps (tight_box p.shape p.pose) b) p.id (region b ps) (region b qs)

pub region_more : (b : Box2) (done new all : List ShapeId) (now more later : List PosedShape) → now ≡ more ++ later → new ≡ done ++ region b more → done ++ region b now ≡ all → new ++ region b later ≡ all
region_more b done new all now more later e grown h =
    ap (λ (ids : List ShapeId). ids ++ region b later) grown
    ∙ append_assoc done (region b more) (region b later)
    ∙ ap (λ (ids : List ShapeId). done ++ ids) (sym (ap (region b) e ∙ region_of_parts b more later))
    ∙ h

pub region_last : (b : Box2) (done all : List ShapeId) (now : List PosedShape) → now ≡ [] → done ++ region b now ≡ all → done ≡ all
region_last b done all now e h = sym (append-nil done) ∙ ap (λ (ids : List ShapeId). done ++ ids) (sym (ap (region b) e)) ∙ h
