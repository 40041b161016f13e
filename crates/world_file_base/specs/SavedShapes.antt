-- Trusted: The shapes of a saved body, each with its fat box.
use Rattle.std.specs.Prelude.{ℕ, ◌^◌, ◌-◌, List, [], ◌∷◌, Option, Some, None, codes}
use Rattle.serde_json.specs.Data.{Data, Items, no_items, item, Members, no_members, object}
use Rattle.serde_json.specs.Find.{get}
use Rattle.fixed_geom.specs.declared.boxes.Box2.{Box2}
use Rattle.shapes.specs.declared.shape.Shape.{Shape}
use Rattle.shapes.specs.declared.shape.Shape.TheVariants.{Circle, Capsule, Segment}
use Rattle.shapes.specs.declared.shape.ShapeDef.{ShapeDef}
use Rattle.world_file_base.specs.Reading.{corners_in, first_in, group_in, number_in, second_item, unsigned_in, vector_in}
use Rattle.world_file_base.specs.Written.{corners_of, ends_of, integer, natural, vector_of, with_members}
use Rattle.world_file_base.specs.declared.saved_shapes.SavedShape.{SavedShape}

-- ---- how it is read

abbrev pub capsule_in : Data → Data → Shape
capsule_in core d = Capsule (vector_in (first_in (Some core))) (vector_in (second_item (Some core))) (number_in (get (codes "radius") d))

abbrev pub circle_in : Data → Data → Shape
circle_in core d = Circle (vector_in (Some core)) (number_in (get (codes "radius") d))

abbrev pub segment_in : Option Data → Shape
segment_in core = Segment (vector_in (first_in core)) (vector_in (second_item core))

abbrev pub round_form : Option Data → Data → Shape
round_form (Some core) d = circle_in core d
round_form None d = segment_in (get (codes "segment") d)

abbrev pub long_form : Option Data → Data → Shape
long_form (Some core) d = capsule_in core d
long_form None d = round_form (get (codes "circle") d) d

-- the core under "capsule", or else that under "circle", or else that under "segment"
unfoldable pub form_in : Data → Shape
form_in d = long_form (get (codes "capsule") d) d

-- the greatest size of a corner of a fat box
abbrev pub most_corner : ℕ
most_corner = 2 ^ 37

-- the greatest number of 64 bits without a sign
abbrev pub most_bits : ℕ
most_bits = 2 ^ 64 - 1

unfoldable pub shape_in : Data → SavedShape
shape_in d = record {
  def = record {
    shape = form_in d;
    friction = number_in (get (codes "friction") d);
    restitution = number_in (get (codes "restitution") d);
    filter = record {
      category = unsigned_in most_bits (get (codes "category") d);
      mask = unsigned_in most_bits (get (codes "mask") d);
      group = group_in (get (codes "group") d);
    };
  };
  fat = corners_in most_corner (get (codes "fat") d);
}

-- those of a list
abbrev pub defs_in : Items → List ShapeDef
defs_in no_items = []
defs_in (item d ds) = (shape_in d).def ∷ defs_in ds

abbrev pub fats_in : Items → List Box2
fats_in no_items = []
fats_in (item d ds) = (shape_in d).fat ∷ fats_in ds

-- ---- how it is written

abbrev pub with_form : Shape → Members → Members
with_form (Circle center radius) ms = with_members ((codes "circle", vector_of center) ∷ (codes "radius", integer radius) ∷ []) ms
with_form (Capsule first second radius) ms = with_members ((codes "capsule", ends_of first second) ∷ (codes "radius", integer radius) ∷ []) ms
with_form (Segment first second) ms = with_members ((codes "segment", ends_of first second) ∷ []) ms

unfoldable pub shape_of : ShapeDef → Box2 → Data
shape_of def fat = object (with_members (
    (codes "category", natural def.filter.category)
    ∷ (codes "fat", corners_of fat)
    ∷ (codes "friction", integer def.friction)
    ∷ (codes "group", integer def.filter.group)
    ∷ (codes "mask", natural def.filter.mask)
    ∷ (codes "restitution", integer def.restitution)
    ∷ []) (with_form def.shape no_members))

-- each shape with its box
abbrev pub shapes_of : List ShapeDef → List Box2 → List Data
shapes_of [] fats = []
shapes_of (def ∷ defs) [] = []
shapes_of (def ∷ defs) (fat ∷ fats) = shape_of def fat ∷ shapes_of defs fats
