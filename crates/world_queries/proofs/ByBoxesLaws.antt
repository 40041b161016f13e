-- What a tree of boxes by slot finds is what a scan of all shapes finds.
use Rattle.std.proofs.Common.{◌≡◌, ℕ, zero, suc, ◌+◌, ◌<◌, ◌≤◌, Bool, true, false, cond, nat_lt, List, [], ◌∷◌, ◌++◌, length, drop, Option, None, Some, All, refl, ap, sym, ◌∙◌, subst, arith}
use Rattle.std.proofs.lemmas.Bool.{false≢true}
use Rattle.std.proofs.lemmas.Bool.Decides.{nat_tests}
use Rattle.std.proofs.Math.Numerals.{add-one}
use Rattle.std.proofs.lemmas.Int.{ints}
use Rattle.std.proofs.lemmas.List.{append_assoc, append-nil}
use Rattle.std.specs.Prelude.{slice_index_or}
use Rattle.std.proofs.lemmas.List.Elements.{All-head, All-tail}
use Rattle.std.specs.Option.{option_flatten}
use Rattle.fixed_geom.specs.Boxes.{Contains, overlaps}
use Rattle.fixed_geom.specs.declared.boxes.Box2.{Box2}
use Rattle.shapes.specs.Bounds.{tight_box}
use Rattle.shapes.specs.Rays.{IsBeam, ray_of}
use Rattle.shapes.specs.Shapes.{IsShape, IsShapeDef}
use Rattle.shapes.specs.declared.beam.Beam.{Beam}
use Rattle.shapes.specs.declared.pose.Pose.{Pose}
use Rattle.shapes.specs.declared.shape.ShapeDef.{ShapeDef}
use Rattle.contacts_base.specs.declared.key.ShapeId.{ShapeId}
use Rattle.shape_rays.specs.Hits.{hit_at, hit_on, is_before, nearer, region}
use Rattle.shape_rays.specs.Reach.{reaches}
use Rattle.shape_rays.specs.declared.hits.Hit.{Hit}
use Rattle.shape_rays.specs.declared.hits.PosedShape.{PosedShape}
use Rattle.shape_rays.proofs.BoxLaws.{missed}
use Rattle.shape_rays.proofs.HitLemmas.{associate, none_last}
use Rattle.box_tree_base.specs.Rays.{nearer as nearer_key}
use Rattle.box_tree_base.specs.declared.rays.Hit.{Hit as KeyHit}
use Rattle.box_tree_base.proofs.WalkLemmas.{overlaps_within}
use Rattle.box_tree.specs.BoxLists.{box_at, keys_over, AreHitsWithin, first_hit as first_key}
use Rattle.plain_world.specs.Bodies.{AreBodies, IsBody, pose_of}
use Rattle.plain_world.specs.Fats.{EachIsFatBox}
use Rattle.plain_world.specs.Slots.{body_at}
use Rattle.plain_world.specs.declared.body.Body.{Body}
use Rattle.world_core_base.specs.Covers.{IsCover, IsCovered, AreCovered}
use Rattle.world_queries.specs.ByBoxes.{fraction_of, fraction_at, hit_through, region_at}
use Rattle.world_queries.specs.Posed.{shapes_from, shapes_at, posed_from, posed_shapes}
use Rattle.world_queries.proofs.PosedLaws.{region_of_parts}
use Rattle.world_queries.proofs.ThroughLaws.{first_through, through_first, through_parts}

-- ---- shapes in a box

pub record IsShapeIn (box : Box2) (p : PosedShape) : Type 0 where
  pub shape : IsShape p.shape
  pub inside : Contains box (tight_box p.shape p.pose)

-- each shape lies in the box; where there is no box, there is no shape
abbrev pub AreIn : Option Box2 → List PosedShape → Type 0
AreIn o [] = Unit {0}
AreIn None (p ∷ ps) = ⊥
AreIn (Some box) (p ∷ ps) = IsShapeIn box p × AreIn (Some box) ps

no_shapes : (ps : List PosedShape) → AreIn None ps → ps ≡ []
no_shapes [] h = refl
no_shapes (p ∷ ps) h = absurd h

none_if : (t : Bool) (o : Option Hit) → o ≡ None → cond t o None ≡ None
none_if true o e = e
none_if false o e = refl

missed_all : (r : Beam) (test : ShapeId → Bool) (box : Box2) (ps : List PosedShape) → IsBeam r → AreIn (Some box) ps → reaches r box ≡ false → first_through r test ps ≡ None
missed_all r test box [] b h e = refl
missed_all r test box (p ∷ ps) b h e =
    let none : ray_of p.shape p.pose r.from r.along ≡ None = missed p.shape p.pose r box h.0.shape b h.0.inside e in
    let here : hit_on r p ≡ None = ap (λ (o : Option ℕ). hit_at o p.id) none in
    through_first r test p ps
    ∙ ap (λ (o : Option Hit). nearer o (first_through r test ps)) (none_if (test p.id) (hit_on r p) here)
    ∙ missed_all r test box ps b h.1 e

none_over : (q box : Box2) (ps : List PosedShape) → AreIn (Some box) ps → overlaps box q ≡ false → region q ps ≡ []
none_over q box [] h e = refl
none_over q box (p ∷ ps) h e =
    let apart : overlaps (tight_box p.shape p.pose) q ≡ false = overlaps_within box (tight_box p.shape p.pose) q h.0.inside e in
    ap (λ (t : Bool). cond t (p.id ∷ region q ps) (region q ps)) apart ∙ none_over q box ps h.1 e

contains_both : (outer middle inner : Box2) → Contains outer middle → Contains middle inner → Contains outer inner
contains_both outer middle inner h k = record { left = omega (arith, ints); right = omega (arith, ints); down = omega (arith, ints); up = omega (arith, ints) }

in_fats : (slot index : ℕ) (o : Pose) (box : Box2) (defs : List ShapeDef) (fats : List Box2) → All IsShapeDef defs → EachIsFatBox o defs fats → length fats ≡ length defs → All (Contains box) fats → AreIn (Some box) (shapes_from slot o index defs)
in_fats slot index o box [] fats a each e c = tt
in_fats slot index o box (d ∷ defs) [] a each e c = absurd (omega (arith, e))
in_fats slot index o box (d ∷ defs) (fat ∷ fats) a each e c =
    let form : IsShapeDef d = All-head IsShapeDef d defs a in
    let round : Contains box fat = All-head (Contains box) fat fats c in
    let here : IsShapeIn box (record { id = record { slot = slot; index = index }; shape = d.shape; pose = o }) = record { shape = form.shape; inside = contains_both box fat (tight_box d.shape o) round each.0.contains } in
    (here, in_fats slot (suc index) o box defs fats (All-tail IsShapeDef d defs a) each.1 (omega (arith, e)) (All-tail (Contains box) fat fats c))

in_enabled : (t : Bool) (box : Box2) (ps : List PosedShape) → AreIn (Some box) ps → AreIn (Some box) (cond t ps [])
in_enabled true box ps h = h
in_enabled false box ps h = tt

in_body : (slot : ℕ) (b : Body) (o : Option Box2) → IsBody b → IsCover o b.fats → AreIn o (shapes_at slot (Some b))
in_body slot b None h c = absurd c
in_body slot b (Some box) h c = in_enabled b.enabled box _ (in_fats slot 0 (pose_of b) box b.shapes b.fats h.forms h.fats.each h.fats.long c)

in_slot : (slot : ℕ) (o : Option Body) (box : Option Box2) → ((b : Body) → o ≡ Some b → IsBody b) → IsCovered box o → AreIn box (shapes_at slot o)
in_slot slot None box h c = tt
in_slot slot (Some b) box h c = in_body slot b box (h b refl) c

there : (o : Option (Option Body)) (b : Body) → option_flatten o ≡ Some b → o ≡ Some (Some b)
there None b e = cc
there (Some o) b e = ap Some e

-- the shapes of the body in a slot lie in the slot's box
pub in_box : (bodies : List (Option Body)) (boxes : List (Option Box2)) (slot : ℕ) → AreBodies bodies → AreCovered bodies boxes → AreIn (box_at boxes slot) (shapes_at slot (body_at bodies slot))
in_box bodies boxes slot h c = in_slot slot (body_at bodies slot) (box_at boxes slot) (λ b e. h slot b (there _ b e)) (c slot)

pub hits_within : (r : Beam) (test : ShapeId → Bool) (bodies : List (Option Body)) (boxes : List (Option Box2)) → IsBeam r → AreBodies bodies → AreCovered bodies boxes → AreHitsWithin (reaches r) (fraction_at r test bodies) boxes
hits_within r test bodies boxes b h c = λ key box e f.
    ap fraction_of (missed_all r test box (shapes_at key (body_at bodies key)) b (subst (λ (o : Option Box2). AreIn o (shapes_at key (body_at bodies key))) e (in_box bodies boxes key h c)) f)

-- ---- bodies and boxes side by side

-- the shapes of each body lie in the box beside it, where the lists begin with this slot
abbrev pub AreSide : ℕ → List (Option Body) → List (Option Box2) → Type 0
AreSide slot bodies boxes = (k : ℕ) → AreIn (box_at boxes k) (shapes_at (slot + k) (body_at bodies k))

next : (slot k : ℕ) → slot + suc k ≡ suc slot + k
next slot k = omega arith

first_of : (slot : ℕ) → slot + 0 ≡ slot
first_of slot = omega arith

side_here : (slot : ℕ) (o : Option Body) (bodies : List (Option Body)) (boxes : List (Option Box2)) → AreSide slot (o ∷ bodies) boxes → AreIn (box_at boxes 0) (shapes_at slot o)
side_here slot o bodies boxes h = subst (λ (n : ℕ). AreIn (box_at boxes 0) (shapes_at n o)) (first_of slot) (h 0)

side_next : (slot : ℕ) (o : Option Body) (bodies : List (Option Body)) (x : Option Box2) (boxes : List (Option Box2)) → AreSide slot (o ∷ bodies) (x ∷ boxes) → AreSide (suc slot) bodies boxes
side_next slot o bodies x boxes h = λ k. subst (λ (n : ℕ). AreIn (box_at boxes k) (shapes_at n (body_at bodies k))) (next slot k) (h (suc k))

side_bare : (slot : ℕ) (o : Option Body) (bodies : List (Option Body)) → AreSide slot (o ∷ bodies) [] → AreSide (suc slot) bodies []
side_bare slot o bodies h = λ k. subst (λ (n : ℕ). AreIn None (shapes_at n (body_at bodies k))) (next slot k) (h (suc k))

none_posed : (slot : ℕ) (bodies : List (Option Body)) → AreSide slot bodies [] → posed_from slot bodies ≡ []
none_posed slot [] h = refl
none_posed slot (o ∷ bodies) h =
    ap (λ (ps : List PosedShape). ps ++ posed_from (suc slot) bodies) (no_shapes (shapes_at slot o) (side_here slot o bodies [] h))
    ∙ none_posed (suc slot) bodies (side_bare slot o bodies h)

-- ---- the shapes over a region

-- the same bodies, where the shorter list begins with this slot
abbrev AreBodiesFrom : ℕ → List (Option Body) → List (Option Body) → Type 0
AreBodiesFrom slot bodies all = (k : ℕ) → body_at all (slot + k) ≡ body_at bodies k

from_next : (slot : ℕ) (o : Option Body) (bodies all : List (Option Body)) → AreBodiesFrom slot (o ∷ bodies) all → AreBodiesFrom (suc slot) bodies all
from_next slot o bodies all h = λ k. subst (λ (n : ℕ). body_at all n ≡ body_at bodies k) (next slot k) (h (suc k))

from_none : (slot : ℕ) (all : List (Option Body)) → AreBodiesFrom slot [] all → AreBodiesFrom (suc slot) [] all
from_none slot all h = λ k. subst (λ (n : ℕ). body_at all n ≡ None) (next slot k) (h (suc k))

from_here : (slot : ℕ) (o : Option Body) (bodies all : List (Option Body)) → AreBodiesFrom slot (o ∷ bodies) all → body_at all slot ≡ o
from_here slot o bodies all h = subst (λ (n : ℕ). body_at all n ≡ o) (first_of slot) (h 0)

none_here : (slot : ℕ) (all : List (Option Body)) → AreBodiesFrom slot [] all → body_at all slot ≡ None
none_here slot all h = subst (λ (n : ℕ). body_at all n ≡ None) (first_of slot) (h 0)

asked_if : (q : Box2) (all : List (Option Body)) (slot : ℕ) (t : Bool) (slots : List ℕ) (here : List PosedShape) (rest : List ShapeId) →
    shapes_at slot (body_at all slot) ≡ here → (t ≡ false → region q here ≡ []) → region_at q all slots ≡ rest → region_at q all (cond t (slot ∷ slots) slots) ≡ region q here ++ rest
asked_if q all slot true slots here rest e f h = ap (λ (ps : List PosedShape). region q ps ++ region_at q all slots) e ∙ ap (λ (ids : List ShapeId). region q here ++ ids) h
asked_if q all slot false slots here rest e f h = h ∙ ap (λ (ids : List ShapeId). ids ++ rest) (sym (f refl))

none_asked : (q : Box2) (all : List (Option Body)) (slot : ℕ) (boxes : List (Option Box2)) → AreBodiesFrom slot [] all → region_at q all (keys_over q slot boxes) ≡ []
none_asked q all slot [] h = refl
none_asked q all slot (None ∷ boxes) h = none_asked q all (suc slot) boxes (from_none slot all h)
none_asked q all slot (Some box ∷ boxes) h =
    asked_if q all slot (overlaps box q) (keys_over q (suc slot) boxes) [] [] (ap (shapes_at slot) (none_here slot all h)) (λ e. refl) (none_asked q all (suc slot) boxes (from_none slot all h))

asked_from : (q : Box2) (all : List (Option Body)) (slot : ℕ) (bodies : List (Option Body)) (boxes : List (Option Box2)) → AreBodiesFrom slot bodies all → AreSide slot bodies boxes → region_at q all (keys_over q slot boxes) ≡ region q (posed_from slot bodies)
asked_from q all slot [] boxes h s = none_asked q all slot boxes h
asked_from q all slot (o ∷ bodies) [] h s = sym (ap (region q) (none_posed slot (o ∷ bodies) s))
asked_from q all slot (o ∷ bodies) (None ∷ boxes) h s =
    let bare : shapes_at slot o ≡ [] = no_shapes (shapes_at slot o) (side_here slot o bodies (None ∷ boxes) s) in
    asked_from q all (suc slot) bodies boxes (from_next slot o bodies all h) (side_next slot o bodies None boxes s)
    ∙ ap (λ (ps : List PosedShape). region q (ps ++ posed_from (suc slot) bodies)) (sym bare)
asked_from q all slot (o ∷ bodies) (Some box ∷ boxes) h s =
    asked_if q all slot (overlaps box q) (keys_over q (suc slot) boxes) (shapes_at slot o) (region q (posed_from (suc slot) bodies))
    (ap (shapes_at slot) (from_here slot o bodies all h))
    (none_over q box (shapes_at slot o) (side_here slot o bodies (Some box ∷ boxes) s))
    (asked_from q all (suc slot) bodies boxes (from_next slot o bodies all h) (side_next slot o bodies (Some box) boxes s))
    ∙ sym (region_of_parts q (shapes_at slot o) (posed_from (suc slot) bodies))

bodies_themselves : (all : List (Option Body)) → AreBodiesFrom 0 all all
bodies_themselves all = λ k. let e : 0 + k ≡ k = omega arith in ap (body_at all) e

side_all : (bodies : List (Option Body)) (boxes : List (Option Box2)) → AreBodies bodies → AreCovered bodies boxes → AreSide 0 bodies boxes
side_all bodies boxes h c = λ k. let e : k ≡ 0 + k = omega arith in subst (λ (n : ℕ). AreIn (box_at boxes k) (shapes_at n (body_at bodies k))) e (in_box bodies boxes k h c)

-- the shapes over a region are those of the bodies whose boxes overlap it
pub region_by_boxes : (q : Box2) (bodies : List (Option Body)) (boxes : List (Option Box2)) → AreBodies bodies → AreCovered bodies boxes → region_at q bodies (keys_over q 0 boxes) ≡ region q (posed_shapes bodies)
region_by_boxes q bodies boxes h c = asked_from q bodies 0 bodies boxes (bodies_themselves bodies) (side_all bodies boxes h c)

-- ---- the first hit

-- a hit as a tree tells it
abbrev pub told : Option Hit → Option KeyHit
told None = None
told (Some h) = Some (record { fraction = h.fraction; key = h.shape.slot })

abbrev IsOf : ℕ → Option Hit → Type 0
IsOf slot None = Unit {0}
IsOf slot (Some h) = h.shape.slot ≡ slot

abbrev IsBelow : ℕ → Option Hit → Type 0
IsBelow slot None = Unit {0}
IsBelow slot (Some h) = h.shape.slot < slot

-- what holds of two hits holds of the nearer
kept_by : (P : Option Hit → Type 0) (t : Bool) (a b : Option Hit) → P a → P b → P (cond t b a)
kept_by P true a b f g = g
kept_by P false a b f g = f

kept_nearer : (P : Option Hit → Type 0) (a b : Option Hit) → P a → P b → P (nearer a b)
kept_nearer P None b f g = g
kept_nearer P (Some a) None f g = f
kept_nearer P (Some a) (Some b) f g = kept_by P (is_before b a) (Some a) (Some b) f g

of_hit : (slot : ℕ) (o : Option ℕ) (id : ShapeId) → id.slot ≡ slot → IsOf slot (hit_at o id)
of_hit slot None id e = tt
of_hit slot (Some f) id e = e

of_shape : (r : Beam) (t : Bool) (slot : ℕ) (p : PosedShape) → p.id.slot ≡ slot → IsOf slot (cond t (hit_on r p) None)
of_shape r true slot p e = of_hit slot (ray_of p.shape p.pose r.from r.along) p.id e
of_shape r false slot p e = tt

of_shapes : (r : Beam) (test : ShapeId → Bool) (slot index : ℕ) (o : Pose) (defs : List ShapeDef) → IsOf slot (first_through r test (shapes_from slot o index defs))
of_shapes r test slot index o [] = tt
of_shapes r test slot index o (d ∷ defs) =
    let p : PosedShape = record { id = record { slot = slot; index = index }; shape = d.shape; pose = o } in
    let later = shapes_from slot o (suc index) defs in
    subst (IsOf slot) (sym (through_first r test p later))
    (kept_nearer (IsOf slot) (hit_through r test p) (first_through r test later) (of_shape r (test p.id) slot p refl) (of_shapes r test slot (suc index) o defs))

of_enabled : (r : Beam) (test : ShapeId → Bool) (slot : ℕ) (t : Bool) (ps : List PosedShape) → IsOf slot (first_through r test ps) → IsOf slot (first_through r test (cond t ps []))
of_enabled r test slot true ps h = h
of_enabled r test slot false ps h = tt

-- a hit on the shapes of the body in a slot has the slot's name
of_slot : (r : Beam) (test : ShapeId → Bool) (slot : ℕ) (o : Option Body) → IsOf slot (first_through r test (shapes_at slot o))
of_slot r test slot None = tt
of_slot r test slot (Some b) = of_enabled r test slot b.enabled _ (of_shapes r test slot 0 (pose_of b) b.shapes)

abbrev key_hit : ℕ → ℕ → KeyHit
key_hit f k = record { fraction = f; key = k }

choose_by : (g h : Hit) (slot : ℕ) (t u v w x last : Bool) → h.shape.slot ≡ slot → v ≡ false → w ≡ true → x ≡ false →
    told (cond (cond t true (cond u false (cond v true (cond w false last)))) (Some h) (Some g))
    ≡ cond t (Some (key_hit h.fraction slot)) (cond u (Some (key_hit g.fraction g.shape.slot)) (cond x (Some (key_hit h.fraction slot)) (Some (key_hit g.fraction g.shape.slot))))
choose_by g h slot true u v w x last e f k l = ap (λ (n : ℕ). Some (key_hit h.fraction n)) e
choose_by g h slot false true v w x last e f k l = refl
choose_by g h slot false false true w x last e f k l = absurd (false≢true (sym f))
choose_by g h slot false false false false x last e f k l = absurd (false≢true k)
choose_by g h slot false false false true true last e f k l = absurd (false≢true (sym l))
choose_by g h slot false false false true false last e f k l = refl

not_lower : (a b slot : ℕ) → a ≡ slot → b < slot → nat_lt a b ≡ false
not_lower a b slot e h = grind (arith, nat_tests)

lower : (a b slot : ℕ) → a ≡ slot → b < slot → nat_lt b a ≡ true
lower a b slot e h = grind (arith, nat_tests)

-- the nearer of a hit and one on a later slot is told alike
told_nearer : (slot : ℕ) (a b : Option Hit) → IsBelow slot a → IsOf slot b → told (nearer a b) ≡ nearer_key (told a) slot (fraction_of b)
told_nearer slot None None below of = refl
told_nearer slot None (Some h) below of = ap (λ (n : ℕ). Some (key_hit h.fraction n)) of
told_nearer slot (Some g) None below of = refl
told_nearer slot (Some g) (Some h) below of =
    choose_by g h slot (nat_lt h.fraction g.fraction) (nat_lt g.fraction h.fraction) (nat_lt h.shape.slot g.shape.slot) (nat_lt g.shape.slot h.shape.slot) (nat_lt slot g.shape.slot) (nat_lt h.shape.index g.shape.index) of
    (not_lower h.shape.slot g.shape.slot slot of below) (lower h.shape.slot g.shape.slot slot of below) (not_lower slot g.shape.slot slot refl below)

below_next : (slot : ℕ) (a : Option Hit) → IsBelow slot a → IsBelow (suc slot) a
below_next slot None h = tt
below_next slot (Some g) h = omega (arith, h)

of_below : (slot : ℕ) (a : Option Hit) → IsOf slot a → IsBelow (suc slot) a
of_below slot None h = tt
of_below slot (Some g) h = omega (arith, h)

-- where the ray hits the bodies' shapes, where the list of bodies begins with this slot
abbrev pub AreTold : Beam → (ShapeId → Bool) → (ℕ → Option ℕ) → ℕ → List (Option Body) → Type 0
AreTold r test hit slot bodies = (k : ℕ) → hit (slot + k) ≡ fraction_of (first_through r test (shapes_at (slot + k) (body_at bodies k)))

told_here : (r : Beam) (test : ShapeId → Bool) (hit : ℕ → Option ℕ) (slot : ℕ) (o : Option Body) (bodies : List (Option Body)) → AreTold r test hit slot (o ∷ bodies) → hit slot ≡ fraction_of (first_through r test (shapes_at slot o))
told_here r test hit slot o bodies h = subst (λ (n : ℕ). hit n ≡ fraction_of (first_through r test (shapes_at n o))) (first_of slot) (h 0)

told_next : (r : Beam) (test : ShapeId → Bool) (hit : ℕ → Option ℕ) (slot : ℕ) (o : Option Body) (bodies : List (Option Body)) → AreTold r test hit slot (o ∷ bodies) → AreTold r test hit (suc slot) bodies
told_next r test hit slot o bodies h = λ k. subst (λ (n : ℕ). hit n ≡ fraction_of (first_through r test (shapes_at n (body_at bodies k)))) (next slot k) (h (suc k))

-- no body is left, and no slot from this one on is hit
abbrev IsUnhit : (ℕ → Option ℕ) → ℕ → Type 0
IsUnhit hit slot = (k : ℕ) → hit (slot + k) ≡ None

unhit_here : (hit : ℕ → Option ℕ) (slot : ℕ) → IsUnhit hit slot → hit slot ≡ None
unhit_here hit slot h = subst (λ (n : ℕ). hit n ≡ None) (first_of slot) (h 0)

unhit_next : (hit : ℕ → Option ℕ) (slot : ℕ) → IsUnhit hit slot → IsUnhit hit (suc slot)
unhit_next hit slot h = λ k. subst (λ (n : ℕ). hit n ≡ None) (next slot k) (h (suc k))

no_more : (hit : ℕ → Option ℕ) (slot : ℕ) (boxes : List (Option Box2)) (best : Option KeyHit) → IsUnhit hit slot → best ≡ first_key hit slot boxes best
no_more hit slot [] best h = refl
no_more hit slot (None ∷ boxes) best h = no_more hit (suc slot) boxes best (unhit_next hit slot h)
no_more hit slot (Some box ∷ boxes) best h =
    no_more hit (suc slot) boxes best (unhit_next hit slot h) ∙ ap (λ (o : Option ℕ). first_key hit (suc slot) boxes (nearer_key best slot o)) (sym (unhit_here hit slot h))

told_from : (r : Beam) (test : ShapeId → Bool) (hit : ℕ → Option ℕ) (slot : ℕ) (bodies : List (Option Body)) (boxes : List (Option Box2)) (a : Option Hit) →
    AreTold r test hit slot bodies → AreSide slot bodies boxes → IsBelow slot a → told (nearer a (first_through r test (posed_from slot bodies))) ≡ first_key hit slot boxes (told a)
told_from r test hit slot [] boxes a h s below = ap told (none_last a) ∙ no_more hit slot boxes (told a) h
told_from r test hit slot (o ∷ bodies) [] a h s below = ap (λ (ps : List PosedShape). told (nearer a (first_through r test ps))) (none_posed slot (o ∷ bodies) s) ∙ ap told (none_last a)
told_from r test hit slot (o ∷ bodies) (None ∷ boxes) a h s below =
    let bare : shapes_at slot o ≡ [] = no_shapes (shapes_at slot o) (side_here slot o bodies (None ∷ boxes) s) in
    ap (λ (ps : List PosedShape). told (nearer a (first_through r test (ps ++ posed_from (suc slot) bodies)))) bare
    ∙ told_from r test hit (suc slot) bodies boxes a (told_next r test hit slot o bodies h) (side_next slot o bodies None boxes s) (below_next slot a below)
told_from r test hit slot (o ∷ bodies) (Some box ∷ boxes) a h s below =
    let here = first_through r test (shapes_at slot o) in
    let later = first_through r test (posed_from (suc slot) bodies) in
    let of : IsOf slot here = of_slot r test slot o in
    let low : IsBelow (suc slot) (nearer a here) = kept_nearer (IsBelow (suc slot)) a here (below_next slot a below) (of_below slot here of) in
    ap (λ (x : Option Hit). told (nearer a x)) (through_parts r test (shapes_at slot o) (posed_from (suc slot) bodies))
    ∙ ap told (sym (associate a here later))
    ∙ told_from r test hit (suc slot) bodies boxes (nearer a here) (told_next r test hit slot o bodies h) (side_next slot o bodies (Some box) boxes s) low
    ∙ ap (first_key hit (suc slot) boxes) (told_nearer slot a here below of ∙ ap (nearer_key (told a) slot) (sym (told_here r test hit slot o bodies h)))

-- ---- the hit that a slot tells

abbrev IsTold : (ℕ → Option Hit) → Option Hit → Type 0
IsTold at None = Unit {0}
IsTold at (Some h) = at h.shape.slot ≡ Some h

told_of : (at : ℕ → Option Hit) (slot : ℕ) (o : Option Hit) → at slot ≡ o → IsOf slot o → IsTold at o
told_of at slot None e of = tt
told_of at slot (Some h) e of = ap at of ∙ e

told_in : (r : Beam) (test : ShapeId → Bool) (all : List (Option Body)) (slot : ℕ) (bodies : List (Option Body)) → AreBodiesFrom slot bodies all → IsTold (λ k. first_through r test (shapes_at k (body_at all k))) (first_through r test (posed_from slot bodies))
told_in r test all slot [] h = tt
told_in r test all slot (o ∷ bodies) h =
    let P = IsTold (λ k. first_through r test (shapes_at k (body_at all k))) in
    let here = first_through r test (shapes_at slot o) in
    let later = first_through r test (posed_from (suc slot) bodies) in
    subst P (sym (through_parts r test (shapes_at slot o) (posed_from (suc slot) bodies)))
    (kept_nearer P here later
    (told_of _ slot here (ap (λ (x : Option Body). first_through r test (shapes_at slot x)) (from_here slot o bodies all h)) (of_slot r test slot o))
    (told_in r test all (suc slot) bodies (from_next slot o bodies all h)))

-- the first hit on the body that a tree tells
abbrev pub hit_of : Beam → (ShapeId → Bool) → List (Option Body) → Option KeyHit → Option Hit
hit_of r test bodies None = None
hit_of r test bodies (Some h) = first_through r test (shapes_at h.key (body_at bodies h.key))

hit_told : (r : Beam) (test : ShapeId → Bool) (bodies : List (Option Body)) (o : Option Hit) → IsTold (λ k. first_through r test (shapes_at k (body_at bodies k))) o → hit_of r test bodies (told o) ≡ o
hit_told r test bodies None h = refl
hit_told r test bodies (Some h) e = e

told_at : (r : Beam) (test : ShapeId → Bool) (bodies : List (Option Body)) → AreTold r test (fraction_at r test bodies) 0 bodies
told_at r test bodies = λ k. let e : k ≡ 0 + k = omega arith in ap (λ (n : ℕ). fraction_of (first_through r test (shapes_at (0 + k) (body_at bodies n)))) (sym e)

-- the first hit on all shapes that pass the test is that on the body whose slot a tree of the boxes tells
pub first_by_boxes : (r : Beam) (test : ShapeId → Bool) (bodies : List (Option Body)) (boxes : List (Option Box2)) →
    AreBodies bodies → AreCovered bodies boxes → hit_of r test bodies (first_key (fraction_at r test bodies) 0 boxes None) ≡ first_through r test (posed_shapes bodies)
first_by_boxes r test bodies boxes h c =
    ap (hit_of r test bodies) (sym (told_from r test (fraction_at r test bodies) 0 bodies boxes None (told_at r test bodies) (side_all bodies boxes h c) tt))
    ∙ hit_told r test bodies (first_through r test (posed_shapes bodies)) (told_in r test bodies 0 bodies (bodies_themselves bodies))

pub first_of_tree : (r beam : Beam) (test : ShapeId → Bool) (bodies : List (Option Body)) (boxes : List (Option Box2)) (o : Option KeyHit) → r ≡ beam →
    AreBodies bodies → AreCovered bodies boxes → o ≡ first_key (fraction_at r test bodies) 0 boxes None → hit_of r test bodies o ≡ first_through beam test (posed_shapes bodies)
first_of_tree r beam test bodies boxes o same h c e = ap (hit_of r test bodies) e ∙ first_by_boxes r test bodies boxes h c ∙ ap (λ (x : Beam). first_through x test (posed_shapes bodies)) same

-- ---- one slot after another

slots_next : (q : Box2) (bodies : List (Option Body)) (slots : List ℕ) (i : ℕ) → i < length slots →
    region_at q bodies (drop i slots) ≡ region q (shapes_at (slice_index_or slots i 0) (body_at bodies (slice_index_or slots i 0))) ++ region_at q bodies (drop (suc i) slots)
slots_next q bodies [] i h = absurd (omega (arith, h))
slots_next q bodies (s ∷ slots) zero h = refl
slots_next q bodies (s ∷ slots) (suc i) h = slots_next q bodies slots i (omega (arith, h))

no_slots_left : (slots : List ℕ) (i : ℕ) → length slots ≤ i → drop i slots ≡ []
no_slots_left [] zero h = refl
no_slots_left [] (suc i) h = refl
no_slots_left (s ∷ slots) zero h = absurd (omega (arith, h))
no_slots_left (s ∷ slots) (suc i) h = no_slots_left slots i (omega (arith, h))

pub region_next : (q : Box2) (bodies : List (Option Body)) (slots : List ℕ) (i : ℕ) (done new all : List ShapeId) → i < length slots →
    new ≡ done ++ region q (shapes_at (slice_index_or slots i 0) (body_at bodies (slice_index_or slots i 0))) → done ++ region_at q bodies (drop i slots) ≡ all → new ++ region_at q bodies (drop (i + 1) slots) ≡ all
region_next q bodies slots i done new all short grown h =
    let here = region q (shapes_at (slice_index_or slots i 0) (body_at bodies (slice_index_or slots i 0))) in
    let rest = region_at q bodies (drop (suc i) slots) in
    rw add-one (ap (λ (ids : List ShapeId). ids ++ rest) grown ∙ append_assoc done here rest ∙ ap (λ (ids : List ShapeId). done ++ ids) (sym (slots_next q bodies slots i short)) ∙ h)

pub region_done : (q : Box2) (bodies : List (Option Body)) (slots : List ℕ) (i : ℕ) (done all : List ShapeId) → length slots ≤ i → done ++ region_at q bodies (drop i slots) ≡ all → done ≡ all
region_done q bodies slots i done all past h =
    sym (append-nil done) ∙ ap (λ (rest : List ℕ). done ++ region_at q bodies rest) (sym (no_slots_left slots i past)) ∙ h
