-- Trusted: Fat boxes: for each shape of a body a box with room to move in.
use Rattle.std.specs.Prelude.{◌≡◌, ◌^◌, cond, List, [], ◌∷◌, map, length}
use Rattle.fixed_geom.specs.Boxes.{contains, Contains, IsBoxWithin}
use Rattle.fixed_geom.specs.declared.boxes.Box2.{Box2}
use Rattle.shapes.specs.Bounds.{tight_box, fat_box}
use Rattle.shapes.specs.declared.pose.Pose.{Pose}
use Rattle.shapes.specs.declared.shape.Shape.{Shape}
use Rattle.shapes.specs.declared.shape.ShapeDef.{ShapeDef}

abbrev pub fat_box_of : Shape → Pose → Box2
fat_box_of s o = fat_box (tight_box s o)

abbrev pub fat_boxes : List ShapeDef → Pose → List Box2
fat_boxes defs o = map (λ (d : ShapeDef). fat_box_of d.shape o) defs

-- a fat box is made anew where the shape's tight box has left it
unfoldable pub renewed : Shape → Pose → Box2 → Box2
renewed s o fat = cond (contains fat (tight_box s o)) fat (fat_box_of s o)

abbrev pub renewed_boxes : Pose → List ShapeDef → List Box2 → List Box2
renewed_boxes o [] fats = fats
renewed_boxes o (d ∷ defs) [] = []
renewed_boxes o (d ∷ defs) (fat ∷ fats) = renewed d.shape o fat ∷ renewed_boxes o defs fats

-- ---- what is kept of them

pub record IsFatBox (o : Pose) (s : Shape) (fat : Box2) : Type 0 where
  pub contains : Contains fat (tight_box s o)
  pub within : IsBoxWithin (2 ^ 37) fat

-- the same of each shape and its box, in their order
abbrev pub EachIsFatBox : Pose → List ShapeDef → List Box2 → Type 0
EachIsFatBox o [] fats = Unit {0}
EachIsFatBox o (d ∷ defs) [] = Unit {0}
EachIsFatBox o (d ∷ defs) (fat ∷ fats) = IsFatBox o d.shape fat × EachIsFatBox o defs fats

pub record AreFatBoxes (o : Pose) (defs : List ShapeDef) (fats : List Box2) : Type 0 where
  pub long : length fats ≡ length defs
  pub each : EachIsFatBox o defs fats
