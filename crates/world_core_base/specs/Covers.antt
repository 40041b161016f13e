-- Boxes by slot: that of a slot with a body holds each of the body's fat boxes.
use Rattle.std.specs.Prelude.{◌≡◌, ◌≢◌, ℕ, List, All, Option, Some, None}
use Rattle.fixed_geom.specs.Boxes.{Contains}
use Rattle.fixed_geom.specs.declared.boxes.Box2.{Box2}
use Rattle.box_tree.specs.BoxLists.{box_at}
use Rattle.plain_world.specs.declared.body.Body.{Body}
use Rattle.plain_world.specs.Slots.{body_at}

-- the box holds each of these
abbrev pub HoldsAll : Box2 → List Box2 → Type 0
HoldsAll outer fats = All (λ fat. Contains outer fat) fats

-- there is a box, and it holds each of these
abbrev pub IsCover : Option Box2 → List Box2 → Type 0
IsCover None fats = ⊥
IsCover (Some outer) fats = HoldsAll outer fats

-- if a body is there, the box holds each of its fat boxes
abbrev pub IsCovered : Option Box2 → Option Body → Type 0
IsCovered o None = Unit {0}
IsCovered o (Some b) = IsCover o b.fats

-- in each slot, whether its body is enabled or not; a slot without a body may have a box or none
abbrev pub AreCovered : List (Option Body) → List (Option Box2) → Type 0
AreCovered bodies boxes = (slot : ℕ) → IsCovered (box_at boxes slot) (body_at bodies slot)

-- the boxes of all slots but this one are as they were
pub record AreOtherBoxes (slot : ℕ) (boxes now : List (Option Box2)) : Type 0 where
  pub others : (s : ℕ) → s ≢ slot → box_at now s ≡ box_at boxes s
