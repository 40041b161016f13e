-- Inner: what is asked of the shapes of a saved body while they are read.
use Rattle.std.specs.Prelude.{[], ◌∷◌, Option, Some, None, codes}
use Rattle.serde_json.specs.Data.{Data, Items, no_items, item}
use Rattle.serde_json.specs.Find.{get}
use Rattle.world_file_base.specs.Asks.{Ask, all_asked, asked}
use Rattle.world_file_base.specs.Reading.{first_in, has_keys, second_item}
use Rattle.world_file_base.specs.AskedValues.{ends_asks, group_asks, number_asks, pair_asks, unsigned_asks, vector_asks}
use Rattle.world_file_base.specs.declared.clause.Clause.TheVariants.{Form}
use Rattle.world_file_base.specs.SavedShapes.{most_corner, most_bits}

-- two places of any coordinates
abbrev pub core_asks : Option Data → Ask
core_asks value reader = vector_asks (second_item value) (vector_asks (first_in value) (pair_asks value reader))

-- how many keys a shape has hangs on its form
abbrev pub capsule_asks : Data → Data → Ask
capsule_asks core d = all_asked (core_asks (Some core) ∷ number_asks (get (codes "radius") d) ∷ asked (has_keys 8 d) Form ∷ [])

abbrev pub circle_asks : Data → Data → Ask
circle_asks core d = all_asked (vector_asks (Some core) ∷ number_asks (get (codes "radius") d) ∷ asked (has_keys 8 d) Form ∷ [])

abbrev pub segment_asks : Data → Ask
segment_asks d = all_asked (core_asks (get (codes "segment") d) ∷ asked (has_keys 7 d) Form ∷ [])

abbrev pub round_asks : Option Data → Data → Ask
round_asks (Some core) d = circle_asks core d
round_asks None d = segment_asks d

abbrev pub long_asks : Option Data → Data → Ask
long_asks (Some core) d = capsule_asks core d
long_asks None d = round_asks (get (codes "circle") d) d

unfoldable pub form_asks : Data → Ask
form_asks d = long_asks (get (codes "capsule") d) d

-- of its numbers just what their types ask: whether a body may have it is asked of all of its shapes together
unfoldable pub shape_asks : Data → Ask
shape_asks d = all_asked (
    form_asks d
    ∷ number_asks (get (codes "friction") d)
    ∷ number_asks (get (codes "restitution") d)
    ∷ unsigned_asks most_bits (get (codes "category") d)
    ∷ unsigned_asks most_bits (get (codes "mask") d)
    ∷ group_asks (get (codes "group") d)
    ∷ ends_asks most_corner (get (codes "fat") d)
    ∷ [])

abbrev pub shapes_asks : Items → Ask
shapes_asks no_items reader = reader
shapes_asks (item d ds) reader = shapes_asks ds (shape_asks d reader)
