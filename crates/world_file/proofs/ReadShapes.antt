-- What is known of the shapes of a body that may have them, and of their fat boxes.
use Rattle.std.proofs.Common.{◌≡◌, suc, ◌^◌, Bool, true, false, cond, List, [], ◌∷◌, length, Some, None, All, codes, refl, sym, ap, arith}
use Rattle.std.proofs.lemmas.Int.{ints}
use Rattle.std.specs.List.{list_all}
use Rattle.std.proofs.lemmas.Bool.{false≢true}
use Rattle.std.proofs.lemmas.Option.{none-some}
use Rattle.serde_json.specs.Data.{Data, Items, no_items, item}
use Rattle.serde_json.specs.Find.{get}
use Rattle.fixed_geom.specs.Boxes.{IsBoxWithin, contains}
use Rattle.fixed_geom.specs.declared.boxes.Box2.{Box2}
use Rattle.fixed_geom.specs.declared.refusal.Refusal.TheVariants.{BadShape, OutOfRange}
use Rattle.contacts_base.proofs.Members.{Each}
use Rattle.plain_world.specs.Formed.{HasFilter}
use Rattle.plain_world.specs.Fats.{AreFatBoxes, EachIsFatBox}
use Rattle.shapes.specs.Bounds.{tight_box}
use Rattle.shapes.specs.Shapes.{IsShapeDef, are_forms_allowed, is_in_range, shapes_refusal}
use Rattle.shapes.specs.declared.pose.Pose.{Pose}
use Rattle.shapes.specs.declared.shape.ShapeDef.{ShapeDef}
use Rattle.shapes.proofs.ShapeLemmas.{all_shape_defs}
use Rattle.world_file_base.specs.Reading.{first_in, greatest_group, least_group, second_item}
use Rattle.world_file_base.specs.SavedBodies.{are_in_boxes}
use Rattle.world_file_base.specs.SavedShapes.{defs_in, fats_in, most_bits, most_corner, shape_in}
use Rattle.world_file.proofs.Tests.{contains_is, signed_from, unsigned_small, vector_small}

-- ---- fat boxes

box_small : (d : Data) → IsBoxWithin (2 ^ 37) (shape_in d).fat
unfolding shape_in
box_small d = record { lo = vector_small most_corner (first_in (get (codes "fat") d)); hi = vector_small most_corner (second_item (get (codes "fat") d)) }

pub boxes_small : (ds : Items) → Each (IsBoxWithin (2 ^ 37)) (fats_in ds)
boxes_small no_items = tt
boxes_small (item d ds) = (box_small d, boxes_small ds)

-- ---- filters

filter_small : (d : Data) → HasFilter (shape_in d).def.filter
unfolding shape_in
filter_small d =
    let group = signed_from least_group greatest_group (get (codes "group") d) (omega (arith, ints)) in
    record { category = unsigned_small most_bits (get (codes "category") d); mask = unsigned_small most_bits (get (codes "mask") d); least = group.least; most = group.most }

pub filters_small : (ds : Items) → Each (λ (def : ShapeDef). HasFilter def.filter) (defs_in ds)
filters_small no_items = tt
filters_small (item d ds) = (filter_small d, filters_small ds)

-- ---- as many boxes as shapes

pub as_many : (ds : Items) → length (fats_in ds) ≡ length (defs_in ds)
as_many no_items = refl
as_many (item d ds) = ap (λ n. suc n) (as_many ds)

each_by : (pose : Pose) (def : ShapeDef) (defs : List ShapeDef) (fat : Box2) (fats : List Box2) (t : Bool) → contains fat (tight_box def.shape pose) ≡ t → cond t (are_in_boxes pose defs fats) false ≡ true
    → IsBoxWithin (2 ^ 37) fat → (are_in_boxes pose defs fats ≡ true → EachIsFatBox pose defs fats) → EachIsFatBox pose (def ∷ defs) (fat ∷ fats)
each_by pose def defs fat fats true e h small rest = (record { contains = contains_is fat (tight_box def.shape pose) e; within = small }, rest h)
each_by pose def defs fat fats false e h small rest = absurd (false≢true h)

each_box : (pose : Pose) (defs : List ShapeDef) (fats : List Box2) → are_in_boxes pose defs fats ≡ true → Each (IsBoxWithin (2 ^ 37)) fats → EachIsFatBox pose defs fats
each_box pose [] fats h small = tt
each_box pose (def ∷ defs) [] h small = tt
each_box pose (def ∷ defs) (fat ∷ fats) h small = each_by pose def defs fat fats (contains fat (tight_box def.shape pose)) refl h small.0 (λ rest. each_box pose defs fats rest small.1)

pub fat_boxes_are : (pose : Pose) (defs : List ShapeDef) (fats : List Box2) → length fats ≡ length defs → are_in_boxes pose defs fats ≡ true → Each (IsBoxWithin (2 ^ 37)) fats → AreFatBoxes pose defs fats
fat_boxes_are pose defs fats long h small = record { long = long; each = each_box pose defs fats h small }

-- ---- all of them together

no_refusal : (t u : Bool) → cond t (cond u None (Some OutOfRange)) (Some BadShape) ≡ None → (t ≡ true) × (u ≡ true)
no_refusal true true h = (refl, refl)
no_refusal true false h = absurd (none-some OutOfRange (sym h))
no_refusal false u h = absurd (none-some BadShape (sym h))

pub forms_of : (b : Bool) (defs : List ShapeDef) → shapes_refusal b defs ≡ None → All IsShapeDef defs
unfolding shapes_refusal
forms_of b defs h = let o = no_refusal (are_forms_allowed b defs) (list_all is_in_range defs) h in all_shape_defs b defs o.0 o.1
